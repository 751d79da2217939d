use Rattle.std.proofs.Common.{◌≡◌, length}
use Rattle.ada_names.specs.Repeats.{hides_from}
use Rattle.scope_rules.proofs.scope.Scope.hides_object.Given as goal

-- the regions so far have no such object
abbrev pub invariant-loop-depth : goal.invariant-loop-depth
invariant-loop-depth l = hides_from l.self l.entry l.depth ≡ hides_from l.self l.entry (length l.entry.region)
