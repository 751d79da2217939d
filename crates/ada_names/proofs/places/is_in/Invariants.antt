use Rattle.std.proofs.Common.{length, ◌-◌, ◌≡◌, drop}
use Rattle.ada_names.specs.Places.{is_in}
use Rattle.ada_names.proofs.places.is_in.Given as goal

abbrev pub invariant-loop-i : goal.invariant-loop-i
invariant-loop-i l = is_in (drop l.i l.node) (drop l.i l.place) ≡ is_in l.node l.place

abbrev pub decreases-loop-i : goal.decreases-loop-i
decreases-loop-i l = length l.node - l.i
