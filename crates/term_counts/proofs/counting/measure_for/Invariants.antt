use Rattle.std.proofs.Common.{◌≡◌, take}
use Rattle.term_counts.specs.Counts.{measure_of}
use Rattle.term_counts.proofs.counting.measure_for.Given as goal

abbrev pub invariant-loop-i : goal.invariant-loop-i
invariant-loop-i l = measure_of (take l.i l.measures) l.name ≡ measure_of l.measures l.name
