use Rattle.std.proofs.Common.{◌==◌, ◌∙◌, sym}
use Rattle.tree_write.proofs.Cuts.{some_parts, some_found, none_parts, none_found}
use Rattle.tree_write.proofs.own.cut.Goals as goal

pub returns-in-Some-clause-found : goal.returns-in-Some-clause-found
returns-in-Some-clause-found c = sym (some_found (λ b. b == c.args.at) c.args.text.now c.in-Some.end (sym c.find.ensures ∙ c.in-Some.is))

pub returns-in-Some-clause-parts : goal.returns-in-Some-clause-parts
returns-in-Some-clause-parts c = some_parts (λ b. b == c.args.at) c.args.text.now c.in-Some.end (sym c.find.ensures ∙ c.in-Some.is)

pub returns-in-None-clause-found : goal.returns-in-None-clause-found
returns-in-None-clause-found c = sym (none_found (λ b. b == c.args.at) c.args.text.now (sym c.find.ensures ∙ c.in-None.is))

pub returns-in-None-clause-whole : goal.returns-in-None-clause-whole
returns-in-None-clause-whole c = none_parts (λ b. b == c.args.at) c.args.text.now (sym c.find.ensures ∙ c.in-None.is)
