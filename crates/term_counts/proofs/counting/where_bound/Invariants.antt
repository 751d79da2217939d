use Rattle.std.proofs.Common.{◌≡◌, ◌++◌, drop}
use Rattle.term_counts.specs.Counts.{own_with, others, capped_sum}
use Rattle.term_counts.proofs.counting.where_bound.Given as goal

abbrev pub invariant-loop-count : goal.invariant-loop-count
invariant-loop-count l = record {
  own : own_with capped_sum l.name l.own (drop l.count-index l.count-items) ≡ own_with capped_sum l.name l.initial.own l.count-items;
  others : l.names.items ++ others l.name (drop l.count-index l.count-items) ≡ others l.name l.count-items;
}
