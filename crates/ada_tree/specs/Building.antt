-- Building nodes from their kids: each takes as many of the nodes that were built last as it has kids.
use Rattle.std.specs.Prelude.{ℕ, ◌-◌, List, [], ◌∷◌, ◌++◌, length, take, drop, map}
use Rattle.std.specs.Borrow.{Bor}
use Rattle.ada_tree.specs.declared.node.Node.{Node}
use Rattle.ada_tree.specs.Nodes.{kind_of, text_of, notes_of, kids_of, node_of}

-- how many of the nodes that were built stay
abbrev pub kept : Node → List Node → ℕ
kept node built = length built - length (kids_of node)

abbrev pub with_node : Node → List Node → List Node
with_node node built = take (kept node built) built ++ node_of (kind_of node) (text_of node) (notes_of node) (drop (kept node built) built) ∷ []

abbrev pub building : List Node → List Node → List Node
building [] built = built
building (node ∷ nodes) built = building nodes (with_node node built)

-- the nodes behind references
abbrev pub nodes_behind : List (Bor Node) → List Node
nodes_behind nodes = map (λ (node : Bor Node). node.now) nodes
