use Rattle.std.proofs.Common.{◌≡◌}
use Rattle.ada_types.specs.Declarations.{are_new}
use Rattle.ada_types.proofs.settling.are_new.Given as goal

-- those so far are new
abbrev pub invariant-loop-id : goal.invariant-loop-id
invariant-loop-id l = are_new l.kept l.id-iterator ≡ are_new l.kept l.added
