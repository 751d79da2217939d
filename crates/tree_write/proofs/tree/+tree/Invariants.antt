use Rattle.std.proofs.Common.{◌≡◌, map, take}
use Rattle.tree_write.specs.TermTrees.{tree_of}
use Rattle.tree_write.proofs.tree.+tree.Given as goal

abbrev pub invariant-trees_of-loop-term : goal.invariant-trees_of-loop-term
invariant-trees_of-loop-term l = l.nodes.items ≡ map (tree_of l.names) (take l.term-index l.terms)
