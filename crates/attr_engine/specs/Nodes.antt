-- Shapes, which have labels alone, and attributed nodes, by their parts.
use Rattle.std.specs.Prelude.{ℕ, ◌+◌, List, map, sum, reverse}
use Rattle.attr_engine.specs.declared.shape.Shape.{Shape, out-Shape, roll-Shape, fold-Shape}
use Rattle.attr_engine.specs.declared.node.Node.{Node, out-Node, roll-Node}

-- ---- shapes

module _ {G Label Need In Out : Type 0} where
  abbrev pub shape_label : Shape G Label Need In Out → Label
  shape_label shape = (out-Shape _ _ _ _ _ shape).label

  abbrev pub parts_of : Shape G Label Need In Out → List (Shape G Label Need In Out)
  parts_of shape = (out-Shape _ _ _ _ _ shape).kids

  abbrev pub shape : Label → List (Shape G Label Need In Out) → Shape G Label Need In Out
  shape label parts = roll-Shape _ _ _ _ _ record { label = label; kids = parts }

  -- the number of a shape's nodes
  unfoldable pub count : Shape G Label Need In Out → ℕ
  count whole = fold-Shape _ _ _ _ _ ℕ (λ layer. sum layer.kids + 1) whole

-- ---- nodes

module _ {Label Need In Out : Type 0} where
  abbrev pub label_of : Node Label Need In Out → Label
  label_of node = (out-Node _ _ _ _ node).label

  abbrev pub need_of : Node Label Need In Out → Need
  need_of node = (out-Node _ _ _ _ node).need

  abbrev pub input_of : Node Label Need In Out → In
  input_of node = (out-Node _ _ _ _ node).input

  abbrev pub out_of : Node Label Need In Out → Out
  out_of node = (out-Node _ _ _ _ node).out

  abbrev pub kids_of : Node Label Need In Out → List (Node Label Need In Out)
  kids_of node = (out-Node _ _ _ _ node).kids

  abbrev pub node_of : Label → Need → In → Out → List (Node Label Need In Out) → Node Label Need In Out
  node_of label need input out kids = roll-Node _ _ _ _ record { label = label; need = need; input = input; out = out; kids = kids }

  -- the results of nodes, in order
  abbrev pub outs : List (Node Label Need In Out) → List Out
  outs nodes = map out_of nodes

  -- the results of siblings in the order in which they are done, the last sibling's first
  abbrev pub done : List (Node Label Need In Out) → List Out
  done nodes = outs (reverse nodes)
