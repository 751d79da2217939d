-- How many nodes there are, those of a list and those below them.
use Rattle.std.specs.Prelude.{ℕ, List, true, sum_by}
use Rattle.ada_tree.specs.declared.node.Node.{Node}
use Rattle.ada_tree.specs.Nodes.{count_of}

abbrev pub weight : List Node → ℕ
weight nodes = sum_by (count_of (λ k. true)) nodes
