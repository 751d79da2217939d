-- A node is what its parts make.
use Rattle.std.proofs.Common.{◌≡◌, ap, sym, ◌∙◌}
use Rattle.ada_tree.specs.declared.node.Node.{Node, roll-out-Node}
use Rattle.ada_tree.specs.Nodes.{node_of, kind_of, text_of, notes_of, kids_of}

pub same_parts : (a b : Node) → kind_of a ≡ kind_of b → text_of a ≡ text_of b → notes_of a ≡ notes_of b → kids_of a ≡ kids_of b → a ≡ b
same_parts a b kinds texts notes kids =
    sym (roll-out-Node a) ∙ ap (λ k. node_of k (text_of a) (notes_of a) (kids_of a)) kinds ∙ ap (λ t. node_of (kind_of b) t (notes_of a) (kids_of a)) texts
    ∙ ap (λ n. node_of (kind_of b) (text_of b) n (kids_of a)) notes ∙ ap (node_of (kind_of b) (text_of b) (notes_of b)) kids ∙ roll-out-Node b
