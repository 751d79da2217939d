use Rattle.std.proofs.Common.{◌≡◌, ◌+◌, ◌-◌, ◌^◌, min, not, take}
use Rattle.std.specs.Prelude.{sum_by}
use Rattle.ada_tree.specs.Nodes.{count_of, is_step}
use Rattle.ada_tree.proofs.counting.+add_counts.Given as goal

-- the nodes so far, and those below them, have been added
abbrev pub invariant-loop-node : goal.invariant-loop-node
invariant-loop-node l =
    (l.counts.tree ≡ min (l.initial.counts.tree + sum_by (count_of (λ k. not (is_step k))) (take l.node-index l.nodes)) (2 ^ 64 - 1))
    × (l.counts.proof ≡ min (l.initial.counts.proof + sum_by (count_of is_step) (take l.node-index l.nodes)) (2 ^ 64 - 1))
