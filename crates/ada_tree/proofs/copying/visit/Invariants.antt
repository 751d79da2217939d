use Rattle.std.proofs.Common.{◌≡◌, reverse}
use Rattle.ada_tree.specs.Building.{building, nodes_behind}
use Rattle.ada_tree.proofs.Weights.{weight}
use Rattle.ada_tree.proofs.copying.visit.Given as goal

-- the nodes that are still to be visited count as built
abbrev pub invariant-loop-node : goal.invariant-loop-node
invariant-loop-node l = building (reverse (nodes_behind l.visited.items)) (nodes_behind l.work.items) ≡ l.nodes

abbrev pub decreases-loop-node : goal.decreases-loop-node
decreases-loop-node l = weight (nodes_behind l.work.items)
