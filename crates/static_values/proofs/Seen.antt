-- What is read off a node, one field at a time.
use Rattle.std.proofs.Common.{◌≡◌, List, [], ◌∷◌, map, refl, ap, ◌∙◌}
use Rattle.ada_tree.specs.declared.kind.Kind.{Kind}
use Rattle.ada_tree.specs.declared.kind.Kind.TheVariants as kind
use Rattle.ada_tree.specs.declared.node.Node.{Node, fold_out-Node}
use Rattle.ada_tree.specs.Nodes.{kind_of, text_of, kids_of}
use Rattle.ada_tree.specs.Sights.{parts_of}
use Rattle.static_values.specs.Syntax.{Seen as Sight, see, seen, parts_by, select_parts, prefix_by}

pub seen_kind : (node : Node) → (seen node).kind ≡ kind_of node
seen_kind node = ap (λ (s : Sight). s.kind) (fold_out-Node Sight see node)

pub seen_text : (node : Node) → (seen node).text ≡ text_of node
seen_text node = ap (λ (s : Sight). s.text) (fold_out-Node Sight see node)

pub seen_exprs : (node : Node) → (seen node).exprs ≡ map (λ (s : Sight). s.expr) (map seen (kids_of node))
seen_exprs node = ap (λ (s : Sight). s.exprs) (fold_out-Node Sight see node)

pub seen_prefix : (node : Node) → (seen node).prefix ≡ prefix_by (kind_of node) (map seen (kids_of node))
seen_prefix node = ap (λ (s : Sight). s.prefix) (fold_out-Node Sight see node)

selected : (node : Node) (kids : List Node) → kind_of node ≡ kind.Select → kids_of node ≡ kids → select_parts (text_of node) (map seen kids) ≡ parts_of node
selected node [] k e = rw (k, e) refl
selected node (p ∷ []) k e = rw (k, e, seen_kind p, seen_text p) refl
selected node (p ∷ q ∷ ps) k e = rw (k, e) refl

by_kind : (node : Node) (k : Kind) → kind_of node ≡ k → parts_by k (text_of node) (map seen (kids_of node)) ≡ parts_of node
by_kind node kind.Name e = rw e refl
by_kind node kind.Select e = selected node (kids_of node) e refl
by_kind node _ e = rw e refl

pub seen_parts : (node : Node) → (seen node).parts ≡ parts_of node
seen_parts node = ap (λ (s : Sight). s.parts) (fold_out-Node Sight see node) ∙ by_kind node (kind_of node) refl
