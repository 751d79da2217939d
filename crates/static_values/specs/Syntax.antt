-- What expressions are: the abstract syntax of those that may be static, read off the tree.
use Rattle.std.specs.Prelude.{ℕ, List, [], ◌∷◌, map, Option, Some, None, if◌then◌else◌}
use Rattle.ada_tree.specs.declared.kind.Kind.{Kind}
use Rattle.ada_tree.specs.declared.kind.Kind.TheVariants as kind
use Rattle.ada_tree.specs.declared.operator.Operator.{Operator}
use Rattle.ada_tree.specs.declared.operator.OperatorEntry.{OperatorEntry}
use Rattle.ada_tree.specs.declared.node.Node.{Node, Node-F, fold-Node}
use Rattle.ada_tree.specs.Kinds.{is_kind}
use Rattle.ada_tree.specs.Operators.{entry_of}
use Rattle.ada_tree.specs.Sights.{parts_of}

-- the parts of a name: one, or two joined by a dot; none of what is no name
abbrev pub Parts : Type 0
Parts = List (List ℕ)

pub data Expr : Type 0 where
  int : (digits : List ℕ) → Expr
  name : Parts → Expr
  unary : Operator → Expr → Expr
  binary : Operator → Expr → Expr → Expr
  -- T'FIRST: a prefix and an attribute
  attribute : Parts → (text : List ℕ) → Expr
  -- T'POS(E): a prefix, an attribute and its one argument
  applied : Parts → (text : List ℕ) → Expr → Expr
  -- E.A: a component of what is more than a name
  component : Expr → (text : List ℕ) → Expr
  -- a form that isn't judged here: a call, a conversion, an index, a membership, an aggregate
  other : Expr

-- what is read off a node
pub record Seen : Type 0 where
  pub kind : Kind
  pub text : List ℕ
  pub parts : Parts
  pub expr : Expr
  pub exprs : List Expr
  -- of an attribute, its prefix
  pub prefix : Option Parts

-- Select = primary "." <id>: a name where a name stands before the dot
abbrev pub select_parts : List ℕ → List Seen → Parts
select_parts text (p ∷ []) = if is_kind p.kind kind.Name then p.text ∷ text ∷ [] else []
select_parts text _ = []

abbrev pub parts_by : Kind → List ℕ → List Seen → Parts
parts_by kind.Name text kids = text ∷ []
parts_by kind.Select text kids = select_parts text kids
parts_by _ text kids = []

abbrev pub select_by : List ℕ → List Seen → Expr
select_by text (p ∷ []) = if is_kind p.kind kind.Name then name (p.text ∷ text ∷ []) else component p.expr text
select_by text _ = other

-- Unary = <op> expr
abbrev pub unary_with : Operator → List Seen → Expr
unary_with o (a ∷ []) = unary o a.expr
unary_with o _ = other

abbrev pub unary_by : Option OperatorEntry → List Seen → Expr
unary_by (Some entry) kids = unary_with entry.operator kids
unary_by None kids = other

-- Binary = expr <op> expr
abbrev pub binary_with : Operator → List Seen → Expr
binary_with o (a ∷ b ∷ []) = binary o a.expr b.expr
binary_with o _ = other

abbrev pub binary_by : Option OperatorEntry → List Seen → Expr
binary_by (Some entry) kids = binary_with entry.operator kids
binary_by None kids = other

-- Attr = primary "'" <id>
abbrev pub attribute_by : List ℕ → List Seen → Expr
attribute_by text (p ∷ []) = attribute p.parts text
attribute_by text _ = other

abbrev pub applied_with : List ℕ → Option Parts → List Expr → Expr
applied_with text (Some parts) (a ∷ []) = applied parts text a
applied_with text _ _ = other

-- Apply = primary "(" {arg ,} ")"
abbrev pub applied_by : List Seen → Expr
applied_by (p ∷ args ∷ []) = applied_with p.text p.prefix args.exprs
applied_by _ = other

abbrev pub expr_by : Kind → List ℕ → List Seen → Expr
expr_by kind.Int text kids = int text
expr_by kind.Name text kids = name (text ∷ [])
expr_by kind.Select text kids = select_by text kids
expr_by kind.Unary text kids = unary_by (entry_of kind.Unary text) kids
expr_by kind.Binary text kids = binary_by (entry_of kind.Binary text) kids
expr_by kind.Attr text kids = attribute_by text kids
expr_by kind.Apply text kids = applied_by kids
expr_by _ text kids = other

abbrev pub prefix_by : Kind → List Seen → Option Parts
prefix_by kind.Attr (p ∷ []) = Some p.parts
prefix_by _ _ = None

abbrev pub see : Node-F Seen → Seen
see layer = record {
  kind = layer.kind;
  text = layer.text;
  parts = parts_by layer.kind layer.text layer.kids;
  expr = expr_by layer.kind layer.text layer.kids;
  exprs = map (λ s. s.expr) layer.kids;
  prefix = prefix_by layer.kind layer.kids;
}

abbrev pub seen : Node → Seen
seen = fold-Node Seen see

abbrev pub expr_of : Node → Expr
expr_of node = (seen node).expr

abbrev pub prefix_in : Option Node → Option Parts
prefix_in (Some p) = Some (parts_of p)
prefix_in None = None
