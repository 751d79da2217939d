-- The fresh attribution of a shape: needs from the leaves up, then inherited attributes from the root down, children last to first,
-- each with the results of its later siblings, and results.
use Rattle.std.specs.Prelude.{◌≡◌, ℕ, ◌+◌, List, [], ◌∷◌, map}
use Rattle.attr_engine.specs.declared.shape.Shape.{Shape, fold-Shape}
use Rattle.attr_engine.specs.declared.node.Node.{Node, fold-Node}
use Rattle.attr_engine.specs.Rules.{Rules}
use Rattle.attr_engine.specs.Nodes.{shape, input_of, node_of, outs, done}

-- what a shape becomes: its need, and its attributed tree under each inherited attribute
pub record Growth (Label Need In Out : Type 0) : Type 0 where
  pub need : Need
  pub under : In → Node Label Need In Out

module _ {Label Need In Out : Type 0} where
  -- a child of this number before its later siblings, of a node with this label and inherited attribute
  abbrev pub with_child : Rules Label Need In Out → Label → In → ℕ → Growth Label Need In Out → List (Node Label Need In Out) → List (Node Label Need In Out)
  with_child rules label input number child later = child.under (rules.down label input number child.need (done later)) ∷ later

  -- the children from this number on
  abbrev pub children : Rules Label Need In Out → Label → In → ℕ → List (Growth Label Need In Out) → List (Node Label Need In Out)
  children rules label input number [] = []
  children rules label input number (child ∷ later) = with_child rules label input number child (children rules label input (number + 1) later)

  -- a node, once its children are there
  abbrev pub finished : Rules Label Need In Out → Label → Need → In → List (Node Label Need In Out) → Node Label Need In Out
  finished rules label need input kids = node_of label need input (rules.up label input (outs kids)) kids

  -- the needs of children
  abbrev pub needs : List (Growth Label Need In Out) → List Need
  needs kids = map (λ (kid : Growth _ _ _ _). kid.need) kids

  -- a node over its children
  abbrev pub grown : Rules Label Need In Out → Label → List (Growth Label Need In Out) → Growth Label Need In Out
  grown rules label kids = record {
    need = rules.need label (needs kids);
    under = λ input. finished rules label (rules.need label (needs kids)) input (children rules label input 0 kids);
  }

  -- what an attributed tree becomes again, by its labels alone
  unfoldable pub regrowth : Rules Label Need In Out → Node Label Need In Out → Growth Label Need In Out
  regrowth rules node = fold-Node _ _ _ _ (Growth Label Need In Out) (λ layer. grown rules layer.label layer.kids) node

  -- every attribute is as its labels and its root's inherited attribute make it
  abbrev pub IsFresh : Rules Label Need In Out → Node Label Need In Out → Type 0
  IsFresh rules node = node ≡ (regrowth rules node).under (input_of node)

module _ {G Label Need In Out : Type 0} where
  -- what a shape becomes
  unfoldable pub growth : Rules Label Need In Out → Shape G Label Need In Out → Growth Label Need In Out
  growth rules whole = fold-Shape _ _ _ _ _ (Growth Label Need In Out) (λ layer. grown rules layer.label layer.kids) whole

  -- the attributed tree of a shape under an inherited attribute
  abbrev pub fresh : Rules Label Need In Out → Shape G Label Need In Out → In → Node Label Need In Out
  fresh rules whole input = (growth rules whole).under input

  -- the labels of an attributed tree
  unfoldable pub shape_of : Node Label Need In Out → Shape G Label Need In Out
  shape_of node = fold-Node _ _ _ _ (Shape G Label Need In Out) (λ layer. shape layer.label layer.kids) node
