use Rattle.std.proofs.Common.{◌≡◌, reverse, length}
use Rattle.ada_tree.specs.Building.{building, nodes_behind}
use Rattle.ada_tree.proofs.copying.build.Given as goal

abbrev pub invariant-loop-node : goal.invariant-loop-node
invariant-loop-node l = building (reverse (nodes_behind l.visited.items)) l.built.items ≡ building (reverse (nodes_behind l.initial.visited.items)) l.initial.built.items

abbrev pub decreases-loop-node : goal.decreases-loop-node
decreases-loop-node l = length l.visited.items
