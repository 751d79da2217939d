use Rattle.std.proofs.Common.{length, ◌-◌, ◌≡◌, drop}
use Rattle.ada_names.specs.Places.{has_ended}
use Rattle.ada_names.proofs.places.has_ended.Given as goal

abbrev pub invariant-loop-i : goal.invariant-loop-i
invariant-loop-i l = has_ended (drop l.i l.from) (drop l.i l.place) ≡ has_ended l.from l.place

abbrev pub decreases-loop-i : goal.decreases-loop-i
decreases-loop-i l = length l.from - l.i
