use Rattle.std.proofs.Common.{◌≡◌, ◌+◌, ◌*◌, ◌-◌, ◌^◌, min, take}
use Rattle.std.specs.List.{sum_by}
use Rattle.term_counts.specs.Counts.{size_in}
use Rattle.term_counts.proofs.counting.size_from.Given as goal

abbrev pub invariant-loop-count : goal.invariant-loop-count
invariant-loop-count l = l.total ≡ min (l.counts.own + sum_by (λ n. n.times * size_in l.measures n.name) (take l.count-index l.count-items)) (2 ^ 64 - 1)
