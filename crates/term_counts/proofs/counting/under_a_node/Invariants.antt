use Rattle.std.proofs.Common.{◌≡◌, take, map}
use Rattle.term_counts.specs.Counts.{lowered, capped_sum}
use Rattle.term_counts.proofs.counting.under_a_node.Given as goal

abbrev pub invariant-loop-count : goal.invariant-loop-count
invariant-loop-count l = l.names.items ≡ map (lowered capped_sum) (take l.count-index l.count-items)
