use Rattle.std.proofs.Common.{◌≡◌, drop}
use Rattle.std.specs.Prelude.{find}
use Rattle.ada_names.specs.Clauses.{lists_there, first_listed}
use Rattle.scope_rules.proofs.scope.Scope.first_listed.Given as goal

-- the first such mark is the first among the entries that are left
abbrev pub invariant-loop-other : goal.invariant-loop-other
invariant-loop-other l = find (lists_there l.self l.mark l.id) (drop l.other-index l.other-items) ≡ first_listed l.self l.mark l.id
