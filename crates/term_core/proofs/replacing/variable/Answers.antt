use Rattle.std.proofs.Common.{ap, ◌∙◌}
use Rattle.term_core.specs.Terms.{var}
use Rattle.term_core.proofs.PutLaws.{made_var}
use Rattle.term_core.proofs.replacing.variable.Goals as goal

pub returns : goal.returns
returns c = made_var c.in_ok-copy.field-0 ∙ ap var c.in_ok-copy.ensures
