use Rattle.std.proofs.Common.{◌≡◌, drop}
use Rattle.term_counts.specs.Counts.{with_counts, capped_sum}
use Rattle.term_counts.proofs.counting.side_by_side.Given as goal

abbrev pub invariant-loop-count : goal.invariant-loop-count
invariant-loop-count l = with_counts capped_sum l.names.items (drop l.count-index l.count-items) ≡ with_counts capped_sum l.initial.names.items l.count-items
