-- What the code finds a node to be.
use Rattle.std.specs.Prelude.{ℕ, List, ◌<◌, ◌≤◌, Option, Some, None}
use Rattle.ada_tree.specs.declared.node.Node.{Node, size-Node}
use Rattle.unit_forms.specs.declared.expressions.ExprForm.{ExprForm}
use Rattle.unit_forms.specs.declared.expressions.ExprForm.TheVariants as form
use Rattle.unit_forms.specs.declared.expressions.RangeForm.{RangeForm}
use Rattle.unit_forms.specs.declared.expressions.RangeForm.TheVariants as range
use Rattle.unit_forms.specs.declared.expressions.ArgForm.{ArgForm}
use Rattle.unit_forms.specs.declared.expressions.ArgForm.TheVariants as arg
use Rattle.unit_forms.specs.declared.expressions.ChoicesForm.{ChoicesForm}
use Rattle.unit_forms.specs.declared.expressions.ChoicesForm.TheVariants as choices
use Rattle.unit_forms.specs.declared.expressions.ChoiceForm.{ChoiceForm}
use Rattle.unit_forms.specs.declared.expressions.ChoiceForm.TheVariants as choice
use Rattle.unit_forms.specs.Syntax.{Expr, int, name, select, apply, attribute, applied, aggregate, unary, binary, member, odd, Range, span, marked, range_of, Args, Arg, plain, assoc, Choices, others, some_of, Options, no_option, Choice, one, between, seen, expr_of}

-- the arguments in a list, and the choices
abbrev pub args_of : Node → Args
args_of list = (seen list).args

abbrev pub options_of : Node → Options
options_of list = (seen list).options

abbrev pub choices_of : Node → Choices
choices_of node = (seen node).choices

abbrev pub range_at : Node → Range
range_at node = (seen node).range

abbrev pub arg_of : Node → Arg
arg_of node = (seen node).arg

abbrev pub choice_of : Node → Choice
choice_of node = (seen node).choice

abbrev pub expr_in : ExprForm → Expr
expr_in (form.Int text) = int text.now
expr_in (form.Name text) = name text.now
expr_in (form.Select p text) = select (expr_of p.now) text.now
expr_in (form.Apply p list) = apply (expr_of p.now) (args_of list.now)
expr_in (form.Attribute p text) = attribute (expr_of p.now) text.now
expr_in (form.Applied p text list) = applied (expr_of p.now) text.now (args_of list.now)
expr_in (form.Aggregate list) = aggregate (args_of list.now)
expr_in (form.Unary o a) = unary o (expr_of a.now)
expr_in (form.Binary o a b) = binary o (expr_of a.now) (expr_of b.now)
expr_in (form.Member o a r) = member o (expr_of a.now) (range_at r.now)
expr_in form.Odd = odd

abbrev pub range_in : RangeForm → Range
range_in (range.Span a b) = span (expr_of a.now) (expr_of b.now)
range_in (range.Marked m) = marked (expr_of m.now)
range_in (range.RangeOf m) = range_of (expr_of m.now)
range_in range.Odd = marked odd

abbrev pub arg_in : ArgForm → Arg
arg_in (arg.Plain e) = plain (expr_of e.now)
arg_in (arg.Assoc cs e) = assoc (choices_of cs.now) (expr_of e.now)
arg_in arg.Odd = plain odd

abbrev pub choices_in : ChoicesForm → Choices
choices_in choices.Others = others
choices_in (choices.Some list) = some_of (options_of list.now)
choices_in choices.Odd = some_of no_option

abbrev pub choice_in : ChoiceForm → Choice
choice_in (choice.One e) = one (expr_of e.now)
choice_in (choice.Between a b) = between (expr_of a.now) (expr_of b.now)
choice_in choice.Odd = one odd

-- of SUCC, PRED and POS, what stands before the tick, and the attribute
abbrev pub step_in : List ℕ → Option Node → Option (Expr × List ℕ)
step_in text (Some p) = Some (expr_of p, text)
step_in text None = None

-- ---- what is smaller than the node

abbrev pub IsLess : Node → Node → Type 0
IsLess part node = size-Node part < size-Node node

abbrev pub IsBelow : Node → Option Node → Type 0
IsBelow node (Some p) = IsLess p node
IsBelow node None = Unit {0}

abbrev pub Below : Node → ExprForm → Type 0
Below node (form.Int text) = Unit {0}
Below node (form.Name text) = Unit {0}
Below node (form.Select p text) = IsLess p.now node
Below node (form.Apply p list) = IsLess p.now node × IsLess list.now node
Below node (form.Attribute p text) = IsLess p.now node
Below node (form.Applied p text list) = IsLess p.now node × IsLess list.now node
Below node (form.Aggregate list) = IsLess list.now node
Below node (form.Unary o a) = IsLess a.now node
Below node (form.Binary o a b) = IsLess a.now node × IsLess b.now node
Below node (form.Member o a r) = IsLess a.now node × IsLess r.now node
Below node form.Odd = Unit {0}

abbrev pub RangeBelow : Node → RangeForm → Type 0
RangeBelow node (range.Span a b) = IsLess a.now node × IsLess b.now node
RangeBelow node (range.Marked m) = Unit {0}
RangeBelow node (range.RangeOf m) = IsLess m.now node
RangeBelow node range.Odd = Unit {0}

abbrev pub ArgBelow : Node → ArgForm → Type 0
ArgBelow node (arg.Plain e) = size-Node e.now ≤ size-Node node
ArgBelow node (arg.Assoc cs e) = IsLess cs.now node × IsLess e.now node
ArgBelow node arg.Odd = Unit {0}

abbrev pub ChoicesBelow : Node → ChoicesForm → Type 0
ChoicesBelow node choices.Others = Unit {0}
ChoicesBelow node (choices.Some list) = IsLess list.now node
ChoicesBelow node choices.Odd = Unit {0}

abbrev pub ChoiceBelow : Node → ChoiceForm → Type 0
ChoiceBelow node (choice.One e) = size-Node e.now ≤ size-Node node
ChoiceBelow node (choice.Between a b) = IsLess a.now node × IsLess b.now node
ChoiceBelow node choice.Odd = Unit {0}
