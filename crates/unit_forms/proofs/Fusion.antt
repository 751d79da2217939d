-- A field that a fold reads off a node by the same field of its kids is a fold of its own.
use Rattle.std.proofs.Common.{◌≡◌, List, [], ◌∷◌, map, refl, ap, sym, ◌∙◌, subst}
use Rattle.ada_tree.specs.declared.node.Node.{Node, Node-F, fold-Node, fold-roll-Node, ind-Node}

abbrev pub over : {A B : Type 0} → (A → B) → Node-F A → Node-F B
over p layer = record { kind = layer.kind; text = layer.text; notes = layer.notes; kids = map p layer.kids }

module _ {A B : Type 0} (f : Node-F A → A) (g : Node-F B → B) (p : A → B) where
  each : (ys : List ((node : Node) × (p (fold-Node A f node) ≡ fold-Node B g node))) →
      map p (map (fold-Node A f) (map (λ y. y.0) ys)) ≡ map (fold-Node B g) (map (λ y. y.0) ys)
  each [] = refl
  each (y ∷ ys) = ap (λ m. m ∷ map p (map (fold-Node A f) (map (λ y. y.0) ys))) y.1 ∙ ap (λ ms. fold-Node B g y.0 ∷ ms) (each ys)

  pub fused : ((layer : Node-F A) → p (f layer) ≡ g (over p layer)) → (node : Node) → p (fold-Node A f node) ≡ fold-Node B g node
  fused step = ind-Node (λ node. p (fold-Node A f node) ≡ fold-Node B g node) (λ x y is.
      let P : Node-F Node → Type 0 = λ layer. map p (map (fold-Node A f) layer.kids) ≡ map (fold-Node B g) layer.kids in
      ap p (fold-roll-Node A f x) ∙ step (over (fold-Node A f) x)
      ∙ ap (λ ks. g (record { kind = x.kind; text = x.text; notes = x.notes; kids = ks })) (subst P is (each y.kids))
      ∙ sym (fold-roll-Node B g x))
