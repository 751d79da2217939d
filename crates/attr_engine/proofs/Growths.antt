-- What shapes, old trees and plans become.
use Rattle.std.proofs.Common.{◌≡◌, ℕ, ◌+◌, List, [], ◌∷◌, map, refl, sym, ◌∙◌, ap, subst}
use Rattle.std.specs.List.{AllByRecursion}
use Rattle.attr_engine.specs.declared.shape.Shape.{Shape, fold_out-Shape, fold-roll-Shape}
use Rattle.attr_engine.specs.declared.node.Node.{Node, Node-F, out-Node, out-roll-Node, fold_out-Node, fold-roll-Node, ind-Node}
use Rattle.attr_engine.specs.Rules.{Rules}
use Rattle.attr_engine.specs.Nodes.{shape, shape_label, parts_of, label_of, input_of, kids_of, node_of, outs, done}
use Rattle.attr_engine.specs.Fresh.{Growth, children, finished, needs, grown, regrowth, growth, IsFresh}

-- ---- one layer

module _ {Label Need In Out : Type 0} where
  pub regrowth_out : (rules : Rules Label Need In Out) (node : Node Label Need In Out) →
      regrowth rules node ≡ grown rules (label_of node) (map (regrowth rules) (kids_of node))
  unfolding regrowth
  regrowth_out rules node = fold_out-Node _ _ _ _ (Growth Label Need In Out) (λ layer. grown rules layer.label layer.kids) node

  pub regrowth_node : (rules : Rules Label Need In Out) (label : Label) (need : Need) (input : In) (out : Out) (kids : List (Node Label Need In Out)) →
      regrowth rules (node_of label need input out kids) ≡ grown rules label (map (regrowth rules) kids)
  unfolding regrowth
  regrowth_node rules label need input out kids = fold-roll-Node _ _ _ _ (Growth Label Need In Out) (λ layer. grown rules layer.label layer.kids)
      record { label = label; need = need; input = input; out = out; kids = kids }

module _ {Label Need In Out : Type 0} (rules : Rules Label Need In Out) (label : Label) (need : Need) (input : In) (kids : List (Node Label Need In Out)) where
  pub kids_of_finished : kids_of (finished rules label need input kids) ≡ kids
  kids_of_finished = ap (λ (l : Node-F Label Need In Out (Node Label Need In Out)). l.kids) (out-roll-Node _ _ _ _ _)

  pub input_of_finished : input_of (finished rules label need input kids) ≡ input
  input_of_finished = ap (λ (l : Node-F Label Need In Out (Node Label Need In Out)). l.input) (out-roll-Node _ _ _ _ _)

module _ {G Label Need In Out : Type 0} where
  pub growth_out : (rules : Rules Label Need In Out) (whole : Shape G Label Need In Out) →
      growth rules whole ≡ grown rules (shape_label whole) (map (growth rules) (parts_of whole))
  unfolding growth
  growth_out rules whole = fold_out-Shape _ _ _ _ _ (Growth Label Need In Out) (λ layer. grown rules layer.label layer.kids) whole

  pub growth_shape : (rules : Rules Label Need In Out) (label : Label) (parts : List (Shape G Label Need In Out)) →
      growth rules (shape label parts) ≡ grown rules label (map (growth rules) parts)
  unfolding growth
  growth_shape rules label parts = fold-roll-Shape _ _ _ _ _ (Growth Label Need In Out) (λ layer. grown rules layer.label layer.kids)
      record { label = label; kids = parts }

-- ---- what a growth gives is fresh

module _ {Label Need In Out : Type 0} where
  -- what it gives becomes the same again, and stands under what it was given
  pub record IsLawful (rules : Rules Label Need In Out) (g : Growth Label Need In Out) : Type 0 where
    pub again : (input : In) → regrowth rules (g.under input) ≡ g
    pub stands : (input : In) → input_of (g.under input) ≡ input

  pub fresh_from : (rules : Rules Label Need In Out) (g : Growth Label Need In Out) (input : In) → IsLawful rules g → IsFresh rules (g.under input)
  fresh_from rules g input law =
      sym (ap (λ (h : Growth Label Need In Out). h.under (input_of (g.under input))) (law.again input) ∙ ap g.under (law.stands input))

  children_again : (rules : Rules Label Need In Out) (label : Label) (input : In) (number : ℕ) (gs : List (Growth Label Need In Out)) →
      AllByRecursion (IsLawful rules) gs → map (regrowth rules) (children rules label input number gs) ≡ gs
  children_again rules label input number [] laws = refl
  children_again rules label input number (g ∷ gs) laws =
      let later = children rules label input (number + 1) gs in
      ap (λ h. h ∷ map (regrowth rules) later) (laws.0.again (rules.down label input number g.need (done later))) ∙ ap (λ hs. g ∷ hs) (children_again rules label input (number + 1) gs laws.1)

  pub lawful_grown : (rules : Rules Label Need In Out) (label : Label) (gs : List (Growth Label Need In Out)) →
      AllByRecursion (IsLawful rules) gs → IsLawful rules (grown rules label gs)
  lawful_grown rules label gs laws = record {
    again = λ input. regrowth_node rules label _ input _ (children rules label input 0 gs) ∙ ap (grown rules label) (children_again rules label input 0 gs laws);
    stands = λ input. ap (λ (layer : Node-F Label Need In Out (Node Label Need In Out)). layer.input) (out-roll-Node _ _ _ _ _);
  }

  pub children_fresh : (rules : Rules Label Need In Out) (label : Label) (input : In) (number : ℕ) (gs : List (Growth Label Need In Out)) →
      AllByRecursion (IsLawful rules) gs → AllByRecursion (IsFresh rules) (children rules label input number gs)
  children_fresh rules label input number [] laws = tt
  children_fresh rules label input number (g ∷ gs) laws =
      (fresh_from rules g _ laws.0, children_fresh rules label input (number + 1) gs laws.1)

module _ {Label Need In Out : Type 0} where
  lawful_each : (rules : Rules Label Need In Out) (ys : List ((node : Node Label Need In Out) × IsLawful rules (regrowth rules node))) →
      AllByRecursion (IsLawful rules) (map (regrowth rules) (map (λ y. y.0) ys))
  lawful_each rules [] = tt
  lawful_each rules (y ∷ ys) = (y.1, lawful_each rules ys)

  pub lawful : (rules : Rules Label Need In Out) (node : Node Label Need In Out) → IsLawful rules (regrowth rules node)
  lawful rules = ind-Node _ _ _ _ (λ node. IsLawful rules (regrowth rules node)) (λ x y is.
      let P = λ (layer : Node-F Label Need In Out (Node Label Need In Out)). IsLawful rules (grown rules layer.label (map (regrowth rules) layer.kids)) in
      let Q = λ (g : Growth Label Need In Out). IsLawful rules g in
      subst Q (sym (regrowth_node rules x.label x.need x.input x.out x.kids)) (subst P is (lawful_grown rules y.label _ (lawful_each rules y.kids))))

  pub lawful_all : (rules : Rules Label Need In Out) (nodes : List (Node Label Need In Out)) → AllByRecursion (IsLawful rules) (map (regrowth rules) nodes)
  lawful_all rules [] = tt
  lawful_all rules (node ∷ nodes) = (lawful rules node, lawful_all rules nodes)

  -- ---- a fresh tree, by its parts

  abbrev layer_of : Node Label Need In Out → Node-F Label Need In Out (Node Label Need In Out)
  layer_of node = out-Node _ _ _ _ node

  pub fresh_layer : (rules : Rules Label Need In Out) (node : Node Label Need In Out) → IsFresh rules node →
      let gs = map (regrowth rules) (kids_of node) in
      let kids = children rules (label_of node) (input_of node) 0 gs in
      out-Node _ _ _ _ node ≡ record { label = label_of node; need = rules.need (label_of node) (needs gs); input = input_of node; out = rules.up (label_of node) (input_of node) (outs kids); kids = kids }
  fresh_layer rules node h =
      ap layer_of (h ∙ ap (λ (g : Growth Label Need In Out). g.under (input_of node)) (regrowth_out rules node)) ∙ out-roll-Node _ _ _ _ _

  pub fresh_kids : (rules : Rules Label Need In Out) (node : Node Label Need In Out) → IsFresh rules node → AllByRecursion (IsFresh rules) (kids_of node)
  fresh_kids rules node h =
      let P = λ (nodes : List (Node Label Need In Out)). AllByRecursion (IsFresh rules) nodes in
      subst P (sym (ap (λ (layer : Node-F Label Need In Out (Node Label Need In Out)). layer.kids) (fresh_layer rules node h)))
      (children_fresh rules (label_of node) (input_of node) 0 _ (lawful_all rules (kids_of node)))
