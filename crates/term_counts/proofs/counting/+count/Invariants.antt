use Rattle.std.proofs.Common.{◌≡◌, drop, map}
use Rattle.term_counts.specs.Counts.{all_beside, counted_by, capped_sum}
use Rattle.term_counts.proofs.counting.+count.Given as goal

abbrev pub invariant-loop-part : goal.invariant-loop-part
invariant-loop-part l = all_beside capped_sum l.all (map (counted_by capped_sum) (drop l.part-index l.part-items)) ≡ all_beside capped_sum l.initial.all (map (counted_by capped_sum) l.part-items)
