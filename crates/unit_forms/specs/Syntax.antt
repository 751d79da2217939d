-- What expressions are: the abstract syntax, read off the tree.
use Rattle.std.specs.Prelude.{ℕ, List, [], ◌∷◌, Bool, true, false, Option, Some, None, if◌then◌else◌}
use Rattle.ada_tree.specs.declared.kind.Kind.{Kind}
use Rattle.ada_tree.specs.declared.kind.Kind.TheVariants as kind
use Rattle.ada_tree.specs.declared.operator.Operator.{Operator}
use Rattle.ada_tree.specs.declared.operator.OperatorEntry.{OperatorEntry}
use Rattle.ada_tree.specs.declared.node.Node.{Node, Node-F, fold-Node}
use Rattle.ada_tree.specs.Operators.{entry_of}
use Rattle.static_values.specs.declared.attribute.Attribute.{Attribute}
use Rattle.static_values.specs.declared.attribute.Attribute.TheVariants as attr
use Rattle.static_values.specs.Rules.{attribute_of}

infixr 5 ◌&◌
mutual
  pub data Expr : Type 0 where
    int : (digits : List ℕ) → Expr
    name : (text : List ℕ) → Expr
    -- what stands before a dot, and a name
    select : Expr → (text : List ℕ) → Expr
    -- what stands before a parenthesis, and arguments
    apply : Expr → Args → Expr
    -- what stands before a tick, and an attribute
    attribute : Expr → (text : List ℕ) → Expr
    -- T'POS(E): what stands before the tick, one of SUCC, PRED and POS, and arguments
    applied : Expr → (text : List ℕ) → Args → Expr
    aggregate : Args → Expr
    unary : Operator → Expr → Expr
    binary : Operator → Expr → Expr → Expr
    member : Operator → Expr → Range → Expr
    -- a node that is no expression
    odd : Expr

  -- dis = Span | mark | RangeOf
  pub data Range : Type 0 where
    span : Expr → Expr → Range
    marked : Expr → Range
    range_of : Expr → Range

  pub data Args : Type 0 where
    end : Args
    ◌&◌ : Arg → Args → Args

  -- arg = expr | Assoc
  pub data Arg : Type 0 where
    plain : Expr → Arg
    assoc : Choices → Expr → Arg

  -- choices = Others | Choices
  pub data Choices : Type 0 where
    others : Choices
    some_of : Options → Choices

  pub data Options : Type 0 where
    no_option : Options
    option : Choice → Options → Options

  -- choice = expr | Span
  pub data Choice : Type 0 where
    one : Expr → Choice
    between : Expr → Expr → Choice

-- what is read off a node
pub record Seen : Type 0 where
  pub expr : Expr
  -- of SUCC, PRED and POS, what stands before the tick, and the attribute
  pub step : Option (Expr × List ℕ)
  pub range : Range
  pub arg : Arg
  pub choices : Choices
  pub choice : Choice
  -- of a list
  pub args : Args
  pub options : Options

abbrev pub args_from : List Seen → Args
args_from [] = end
args_from (s ∷ ss) = s.arg & args_from ss

abbrev pub options_from : List Seen → Options
options_from [] = no_option
options_from (s ∷ ss) = option s.choice (options_from ss)

-- ---- by kind

-- Select = primary "." <id>
abbrev pub select_by : List ℕ → List Seen → Expr
select_by text (p ∷ []) = select p.expr text
select_by text _ = odd

-- Attr = primary "'" <id>
abbrev pub attribute_by : List ℕ → List Seen → Expr
attribute_by text (p ∷ []) = attribute p.expr text
attribute_by text _ = odd

-- Apply = primary "(" {arg ,} ")"
abbrev pub apply_with : Args → Expr → Option (Expr × List ℕ) → Expr
apply_with args e (Some s) = applied s.0 s.1 args
apply_with args e None = apply e args

abbrev pub apply_by : List Seen → Expr
apply_by (p ∷ list ∷ []) = apply_with list.args p.expr p.step
apply_by _ = odd

-- Aggr = "(" {arg ,} ")"
abbrev pub aggregate_by : List Seen → Expr
aggregate_by (list ∷ []) = aggregate list.args
aggregate_by _ = odd

-- Unary = <op> expr
abbrev pub unary_with : Operator → List Seen → Expr
unary_with o (a ∷ []) = unary o a.expr
unary_with o _ = odd

abbrev pub unary_by : Option OperatorEntry → List Seen → Expr
unary_by (Some entry) kids = unary_with entry.operator kids
unary_by None kids = odd

-- Binary = expr <op> expr
abbrev pub binary_with : Operator → List Seen → Expr
binary_with o (a ∷ b ∷ []) = binary o a.expr b.expr
binary_with o _ = odd

abbrev pub binary_by : Option OperatorEntry → List Seen → Expr
binary_by (Some entry) kids = binary_with entry.operator kids
binary_by None kids = odd

-- Member = expr <op> dis
abbrev pub member_with : Operator → List Seen → Expr
member_with o (a ∷ r ∷ []) = member o a.expr r.range
member_with o _ = odd

abbrev pub member_by : Option OperatorEntry → List Seen → Expr
member_by (Some entry) kids = member_with entry.operator kids
member_by None kids = odd

abbrev pub expr_by : Kind → List ℕ → List Seen → Expr
expr_by kind.Int text kids = int text
expr_by kind.Name text kids = name text
expr_by kind.Select text kids = select_by text kids
expr_by kind.Apply text kids = apply_by kids
expr_by kind.Attr text kids = attribute_by text kids
expr_by kind.Aggr text kids = aggregate_by kids
expr_by kind.Unary text kids = unary_by (entry_of kind.Unary text) kids
expr_by kind.Binary text kids = binary_by (entry_of kind.Binary text) kids
expr_by kind.Member text kids = member_by (entry_of kind.Member text) kids
expr_by _ text kids = odd

-- Span = expr ".." expr
abbrev pub span_by : List Seen → Range
span_by (a ∷ b ∷ []) = span a.expr b.expr
span_by _ = marked odd

-- RangeOf = mark "'" "range"
abbrev pub range_of_by : List Seen → Range
range_of_by (m ∷ []) = range_of m.expr
range_of_by _ = marked odd

abbrev pub range_by : Kind → Expr → List Seen → Range
range_by kind.Span e kids = span_by kids
range_by kind.RangeOf e kids = range_of_by kids
range_by _ e kids = marked e

abbrev pub between_by : List Seen → Choice
between_by (a ∷ b ∷ []) = between a.expr b.expr
between_by _ = one odd

abbrev pub choice_by : Kind → Expr → List Seen → Choice
choice_by kind.Span e kids = between_by kids
choice_by _ e kids = one e

-- Choices = {choice |}
abbrev pub choices_with : List Seen → Choices
choices_with (list ∷ []) = some_of list.options
choices_with _ = some_of no_option

abbrev pub choices_by : Kind → List Seen → Choices
choices_by kind.Others kids = others
choices_by _ kids = choices_with kids

-- Assoc = choices "=>" expr
abbrev pub assoc_by : List Seen → Arg
assoc_by (cs ∷ e ∷ []) = assoc cs.choices e.expr
assoc_by _ = plain odd

abbrev pub arg_by : Kind → Expr → List Seen → Arg
arg_by kind.Assoc e kids = assoc_by kids
arg_by _ e kids = plain e

abbrev pub is_step : Option Attribute → Bool
is_step (Some attr.Succ) = true
is_step (Some attr.Pred) = true
is_step (Some attr.Pos) = true
is_step _ = false

abbrev pub step_with : List ℕ → List Seen → Option (Expr × List ℕ)
step_with text (p ∷ []) = if is_step (attribute_of text) then Some (p.expr, text) else None
step_with text _ = None

abbrev pub step_by : Kind → List ℕ → List Seen → Option (Expr × List ℕ)
step_by kind.Attr text kids = step_with text kids
step_by _ text kids = None

abbrev pub see : Node-F Seen → Seen
see layer = record {
  expr = expr_by layer.kind layer.text layer.kids;
  step = step_by layer.kind layer.text layer.kids;
  range = range_by layer.kind (expr_by layer.kind layer.text layer.kids) layer.kids;
  arg = arg_by layer.kind (expr_by layer.kind layer.text layer.kids) layer.kids;
  choices = choices_by layer.kind layer.kids;
  choice = choice_by layer.kind (expr_by layer.kind layer.text layer.kids) layer.kids;
  args = args_from layer.kids;
  options = options_from layer.kids;
}

abbrev pub seen : Node → Seen
seen = fold-Node Seen see

abbrev pub expr_of : Node → Expr
expr_of node = (seen node).expr
