use Rattle.std.proofs.Common.{◌≡◌, ◌++◌, take}
use Rattle.ada_tree.specs.Building.{nodes_behind}
use Rattle.ada_tree.proofs.copying.push_all.Given as goal

abbrev pub invariant-loop-node : goal.invariant-loop-node
invariant-loop-node l = nodes_behind l.work.items ≡ nodes_behind l.initial.work.items ++ take l.node-index l.nodes
