use Rattle.std.proofs.Common.{rules, ◌≡◌, true, sym, Some}
use Rattle.ada_names.specs.Clauses.{listed, is_number}
use Rattle.ada_names.specs.Entries.{is_of, first_of}
use Rattle.scope_rules.proofs.Steps.{first_of_both}
use Rattle.scope_rules.proofs.scope.Scope.first_listed.Goals as goal

pub returns-then-is_number : goal.returns-then-is_number
returns-then-is_number c =
    let es = c.args.self.now in
    let mark = c.args.mark.now in
    let first : first_of es mark.space mark.region mark.name ≡ Some c.in-Some.first.now = search rules in
    let lists : is_number (listed es c.in-Some.first.now) c.args.id ≡ true = search rules in
    sym (first_of_both (is_of mark.space mark.region mark.name) (λ other. is_number (listed es other) c.args.id) es c.in-Some.first.now first lists)
