use Rattle.std.proofs.Common.{◌≡◌, ◌+◌, ◌-◌, ◌^◌, min, max, take, map}
use Rattle.term_counts.specs.Counts.{depth_in}
use Rattle.term_core.specs.Terms.{largest}
use Rattle.term_counts.proofs.counting.depth_from.Given as goal

abbrev pub invariant-loop-count : goal.invariant-loop-count
invariant-loop-count l = l.most ≡ min (max l.counts.depth (largest (map (λ n. n.above + depth_in l.measures n.name) (take l.count-index l.count-items)))) (2 ^ 64 - 1)
