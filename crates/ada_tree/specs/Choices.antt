-- The choices of the grammar: which nodes may stand at a place, and which lists take comments.
use Rattle.std.specs.Prelude.{ℕ, List, [], Bool, true, false, ◌&&◌, ◌||◌, nat_le, not, Option, Some, None, is_some, bytes_eq, codes}
use Rattle.std.specs.Option.{option_map_or}
use denote.Enum.Bare.{sameb}
use denote.Enum.Declared.{tag_of}
use Rattle.ada_tree.specs.contracts.operator.Operator as operator_row
use Rattle.ada_tree.specs.contracts.operator.Level as level_row
use Rattle.ada_tree.specs.declared.choice.TheConstants.{ITEM, CLAUSE, LIB, SPEC, MARK, DECL, TDEF, DIS, CHOICES, CHOICE, STMT, HEAD, EXPR, ARG, WCLAUSE, CHAIN, BOUND, COEFFICIENT, LEMMA_NAME, EXPRESSION, TERM}
use Rattle.ada_tree.specs.declared.kind.Kind.{Kind}
use Rattle.ada_tree.specs.declared.kind.Kind.TheVariants as kind
use Rattle.ada_tree.specs.declared.grammar.Choice.{Choice}
use Rattle.ada_tree.specs.declared.grammar.Choice.TheVariants as choice
use Rattle.ada_tree.specs.declared.grammar.Comments.{Comments}
use Rattle.ada_tree.specs.declared.grammar.Comments.TheVariants as comments
use Rattle.ada_tree.specs.declared.operator.Level.{Level}
use Rattle.ada_tree.specs.declared.operator.Level.TheVariants as level
use Rattle.ada_tree.specs.declared.operator.Side.{Side}
use Rattle.ada_tree.specs.declared.operator.Side.TheVariants as side
use Rattle.ada_tree.specs.Kinds.{is_kind, is_among}
use Rattle.ada_tree.specs.Operators.{entry_of}

-- ---- the choices

-- Of a choice: its kinds, apart from the one of `Only` and those of expressions; the loosest level of an expression that stands there without parentheses, where expressions stand there; and which comments the members of a list of it take, and the list.
abbrev pub Row : Type 0
Row = record { now : List Kind } × Option Level × Comments

-- alternatives and handlers have the comments before the first one alone, and a file keeps its own
abbrev pub comments_of_kind : Kind → Comments
comments_of_kind kind.Handler = comments.First
comments_of_kind kind.Alt = comments.First
comments_of_kind kind.File = comments.Kept
comments_of_kind _ = comments.Nowhere

abbrev pub row_of : Choice → Row
row_of (choice.Only k) = (record { now = [] }, None, comments_of_kind k)
row_of choice.Item = ITEM
row_of choice.Clause = CLAUSE
row_of choice.Lib = LIB
row_of choice.Spec = SPEC
row_of choice.Mark = MARK
row_of choice.Decl = DECL
row_of choice.Tdef = TDEF
row_of choice.Dis = DIS
row_of choice.Choices = CHOICES
row_of choice.Choice = CHOICE
row_of choice.Stmt = STMT
row_of choice.Head = HEAD
row_of choice.Expr = EXPR
row_of choice.Arg = ARG
row_of choice.Wclause = WCLAUSE
row_of (choice.Operand l) = (record { now = [] }, Some l, comments.Nowhere)
row_of (choice.Chain o) = CHAIN
row_of choice.Bound = BOUND
row_of choice.Coefficient = COEFFICIENT
row_of choice.LemmaName = LEMMA_NAME

abbrev pub kinds : Choice → List Kind
kinds place = (row_of place).0.now

abbrev pub floor : Choice → Option Level
floor place = (row_of place).1

abbrev pub comments_of : Choice → Comments
comments_of place = (row_of place).2

-- the kinds of expressions, and in annotations those of terms
abbrev pub expression_kinds : Bool → List Kind
expression_kinds false = EXPRESSION.now
expression_kinds true = TERM.now

-- ---- levels

-- a greater rank binds tighter
abbrev pub rank : Level → ℕ
rank l = tag_of level_row.the_type l

-- a side has the operators of both sides and its own
abbrev pub has_side : Bool → Side → Bool
has_side note side.Both = true
has_side note side.Ada = not note
has_side note side.Note = note

abbrev pub has_operator : Bool → Kind → List ℕ → Bool
has_operator note k text = option_map_or (λ entry. has_side note entry.side) (entry_of k text) false

-- a node has an operator of the side, where nodes of its kind have one
abbrev pub on_side : Bool → Kind → List ℕ → Bool
on_side note kind.Binary text = has_operator note kind.Binary text
on_side note kind.Unary text = has_operator note kind.Unary text
on_side note kind.Member text = has_operator note kind.Member text
on_side note kind.Make text = has_operator note kind.Make text
on_side note _ text = true

abbrev pub operator_level : Kind → List ℕ → Option Level
operator_level k text = option_map_or (λ entry. Some entry.level) (entry_of k text) None

-- how tightly a node of an expression or a term binds
abbrev pub level_of : Kind → List ℕ → Option Level
level_of kind.Binary text = operator_level kind.Binary text
level_of kind.Unary text = operator_level kind.Unary text
level_of kind.Member text = operator_level kind.Member text
level_of kind.Make text = operator_level kind.Make text
level_of kind.All text = Some level.Term
level_of kind.Exists text = Some level.Term
level_of kind.Cond text = Some level.Term
level_of kind.Old text = Some level.Primary
level_of kind.Int text = Some level.Prefix
level_of kind.Name text = Some level.Prefix
level_of kind.Select text = Some level.Prefix
level_of kind.Apply text = Some level.Prefix
level_of kind.Attr text = Some level.Prefix
level_of kind.Aggr text = Some level.Prefix
level_of kind.Result text = Some level.Prefix
level_of _ text = None

abbrev pub is_tight : Level → Option Level → Bool
is_tight least None = false
is_tight least (Some l) = nat_le (rank least) (rank l)

-- ---- what stands at a place

-- what an operator of a row has joined already is its left operand as it is
abbrev pub goes_on : Choice → Kind → List ℕ → Bool
goes_on (choice.Chain o) k text = option_map_or (λ entry. sameb operator_row.the_type entry.operator o) (entry_of k text) false
goes_on _ k text = false

abbrev pub binds : Bool → Choice → Option Level → Kind → List ℕ → Bool
binds note place None k text = false
binds note place (Some least) k text = is_among k (expression_kinds note) && on_side note k text && (is_tight least (level_of k text) || goes_on place k text)

abbrev pub is_coefficient : Choice → Kind → List ℕ → Bool
is_coefficient choice.Coefficient k text = is_kind k kind.Unary && bytes_eq text (codes "-")
is_coefficient _ k text = false

abbrev pub is_only : Bool → Choice → Kind → List ℕ → Bool
is_only note (choice.Only wanted) k text = is_kind wanted k && on_side note k text
is_only note _ k text = false

-- A node of this kind with this text may stand at the place as it is, without parentheses. `note` tells that the place is in an annotation.
abbrev pub stands : Bool → Choice → Kind → List ℕ → Bool
stands note place k text = is_only note place k text || is_among k (kinds place) || is_coefficient place k text || binds note place (floor place) k text

-- an expression may stand there in parentheses
abbrev pub opens : Choice → Bool
opens place = is_some (floor place)
