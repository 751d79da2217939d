-- What the rules leave of themselves after a node at their beginning, where they leave something. It is a witness that the tests check; nothing
-- else stands on it.
use Rattle.std.proofs.Common.{ℕ, List, [], ◌∷◌, ◌++◌, Bool, true, false, not, ◌&&◌, ◌||◌, Option, Some, None, codes}
use Rattle.std.specs.Prelude.{bytes_eq}
use Rattle.std.specs.List.{list_any}
use denote.Enum.Bare.{sameb}
use Rattle.ada_tree.specs.contracts.operator.Level as level_row
use Rattle.ada_tree.specs.declared.kind.Kind.{Kind}
use Rattle.ada_tree.specs.declared.kind.Kind.TheVariants as kind
use Rattle.ada_tree.specs.declared.word.Mark.TheVariants as mark
use Rattle.ada_tree.specs.declared.operator.Level.{Level}
use Rattle.ada_tree.specs.declared.operator.Level.TheVariants as level
use Rattle.ada_tree.specs.Choices.{expression_kinds, on_side, level_of}
use Rattle.ada_tree.specs.Kinds.{is_kind, is_among}
use Rattle.reading_table.specs.declared.rule.Rule.{Rule}
use Rattle.reading_table.specs.declared.rule.Rule.TheVariants as rule
use Rattle.reading_table.specs.declared.symbol.Symbol.{Symbol}
use Rattle.reading_table.specs.declared.symbol.Symbol.TheVariants as symbol
use Rattle.reading_table.specs.declared.symbol.Tokens.TheVariants as tokens
use Rattle.reading_table.specs.Rows.{placed}
use Rattle.reading_complete.proofs.Classes.{Sort, plain, of_names, of_others, of_mark, in_brackets, Class}
use Rattle.reading_complete.proofs.Walks.{Route, is_name}

-- ---- classes

abbrev has_level : List Level → Option Level → Bool
has_level levels None = false
has_level levels (Some l) = list_any (sameb level_row.the_type l) levels

abbrev is_term : Bool → Class → Bool
is_term note c = is_among c.kind (expression_kinds note) && on_side note c.kind c.text

abbrev of_levels_by : Sort → Bool → List Level → Class → Bool
of_levels_by plain note levels c = elim (has_level levels (level_of c.kind c.text)) [ true ↦ is_term note c | false ↦ false ]
of_levels_by of_names note levels c = has_level levels (level_of c.kind c.text)
of_levels_by of_mark note levels c = has_level levels (level_of c.kind c.text)
of_levels_by of_others note levels c = has_level levels (level_of c.kind c.text)
of_levels_by _ note levels c = false

-- expressions, and terms, of these levels
abbrev of_levels : Bool → List Level → Class → Bool
of_levels note levels c = of_levels_by c.sort note levels c

abbrev pub is_bracket : Sort → Bool
is_bracket in_brackets = true
is_bracket _ = false

abbrev of_prefix : Bool → Class → Bool
of_prefix note c = is_bracket c.sort || of_levels note (level.Prefix ∷ []) c

abbrev is_joined_kind : Kind → Bool
is_joined_kind k = is_among k (kind.Select ∷ kind.Apply ∷ kind.Attr ∷ [])

abbrev of_atom : Bool → Class → Bool
of_atom note c = elim (of_prefix note c) [ true ↦ not (is_joined_kind c.kind) | false ↦ false ]

abbrev of_prefix_kind : Bool → Kind → Class → Bool
of_prefix_kind note k c = elim (is_kind c.kind k) [ true ↦ of_levels note (level.Prefix ∷ []) c | false ↦ false ]

abbrev of_operator : Bool → List ℕ → Class → Bool
of_operator note text c = elim (bytes_eq c.text text) [ true ↦ of_levels note (level.Logical ∷ []) c | false ↦ false ]

abbrev of_kind : Kind → Class → Bool
of_kind k c = is_kind c.kind k

-- ---- routes

abbrev leaves : Bool → (Class → Bool) → List Symbol → Route
leaves note reads rest = record { also = []; reads = reads; rest = placed note rest }

abbrev behind : Bool → Rule → (Class → Bool) → List Symbol → Route
behind note r reads rest = record { also = (note, symbol.Part r) ∷ []; reads = reads; rest = placed note rest }

abbrev prefix_tail : Symbol
prefix_tail = symbol.Part rule.PrefixTail

abbrev product_tail : Symbol
product_tail = symbol.Part rule.ProductTail

abbrev sum_tail : Symbol
sum_tail = symbol.Part rule.SumTail

abbrev rel_tail : Symbol
rel_tail = symbol.Part rule.RelTail

abbrev log_tail : Symbol
log_tail = symbol.Part rule.LogTail

abbrev implies_tail : Symbol
implies_tail = symbol.Part rule.ImpliesTail

abbrev iff_tail : Symbol
iff_tail = symbol.Part rule.IffTail

-- what follows the tails of `and` and its kin
abbrev looser : Bool → List Symbol
looser true = implies_tail ∷ iff_tail ∷ []
looser false = []

abbrev products : Bool → List Symbol → List Route
products note rest =
    leaves note (of_prefix note) (prefix_tail ∷ product_tail ∷ rest) ∷ leaves note (of_levels note (level.Product ∷ level.Factor ∷ level.Primary ∷ [])) (product_tail ∷ rest) ∷ []

abbrev sums : Bool → List Symbol → List Route
sums note rest = products note (sum_tail ∷ rest) ++ leaves note (of_levels note (level.Sum ∷ level.Signed ∷ [])) (sum_tail ∷ rest) ∷ []

abbrev chains : Bool → List Symbol → List Route
chains note rest =
    leaves note (of_operator note (codes "and")) (symbol.Part rule.AndTail ∷ rest) ∷ leaves note (of_operator note (codes "or")) (symbol.Part rule.OrTail ∷ rest)
    ∷ leaves note (of_operator note (codes "xor")) (symbol.Part rule.XorTail ∷ rest) ∷ leaves note (of_operator note (codes "and then")) (symbol.Part rule.ThenTail ∷ rest)
    ∷ leaves note (of_operator note (codes "or else")) (symbol.Part rule.ElseTail ∷ rest) ∷ []

-- relations and what binds less, before this end
abbrev relations : Bool → List Symbol → List Route
relations note end =
    leaves note (of_levels note (level.Relation ∷ [])) (log_tail ∷ (looser note ++ end)) ∷ (chains note (looser note ++ end)
    ++ leaves note (of_levels note (level.Implication ∷ [])) (iff_tail ∷ end) ∷ leaves note (of_levels note (level.Equivalence ∷ level.Term ∷ [])) end ∷ [])

abbrev expressions : Bool → List Symbol → List Symbol → List Route
expressions note rest end = sums note rest ++ relations note end

abbrev arrow : List Symbol
arrow = symbol.Take (tokens.Mark mark.Arrow) ∷ symbol.Part rule.Expr ∷ symbol.Build kind.Assoc 2 ∷ []

abbrev is_choices : Class → Bool
is_choices c = is_kind c.kind kind.Others || is_kind c.kind kind.Choices

-- a rule that reads an association first, with what follows it
abbrev associations : Bool → List Symbol → List Route
associations note end =
    leaves note (of_kind kind.Span) (symbol.Part rule.AssocTail ∷ end) ∷ leaves note is_choices (arrow ++ end) ∷ leaves note (of_kind kind.Assoc) end ∷ []

abbrev equations : List Symbol
equations = symbol.Build kind.List 1 ∷ symbol.Part rule.Eqns ∷ symbol.Part rule.TraitImplies ∷ []

abbrev first_variables : List Symbol
first_variables = symbol.Join ∷ symbol.Part rule.MoreVars ∷ symbol.Build kind.List 0 ∷ symbol.Part rule.Eqns ∷ symbol.Part rule.TraitImplies ∷ []

abbrev first_identifier : List Symbol
first_identifier = symbol.Build kind.List 1 ∷ symbol.Part rule.MoreIds ∷ symbol.Take (tokens.Mark mark.Colon) ∷ symbol.Part rule.Mark ∷ symbol.Build kind.Vars 2 ∷ first_variables

-- routes in Ada text alone, and in annotations alone
abbrev in_ada : Bool → List Route → List Route
in_ada note list = elim note [ true ↦ [] | false ↦ list ]

abbrev in_notes : Bool → List Route → List Route
in_notes note list = elim note [ true ↦ list | false ↦ [] ]

abbrev not_in_mark : Bool → Class → Bool
not_in_mark note c = elim (is_name c) [ true ↦ false | false ↦ of_prefix note c ]

abbrev joined : Bool → Rule → Kind → Rule → List Route
joined note r k was =
    behind note r (of_atom note) (symbol.Part r ∷ []) ∷ behind note r (of_prefix_kind note k) (symbol.Part was ∷ []) ∷ []

abbrev joins : Bool → List Route
joins note =
    leaves note (of_atom note) [] ∷ (joined note rule.ToSelect kind.Select rule.WasSelect ++ (joined note rule.ToApply kind.Apply rule.WasApply ++ (joined note rule.ToAttr kind.Attr rule.WasAttr
    ++ behind note rule.ToSelect (of_prefix_kind note kind.Apply) (symbol.Part rule.ToSelect ∷ []) ∷ behind note rule.ToSelect (of_prefix_kind note kind.Attr) (symbol.Part rule.ToSelect ∷ [])
    ∷ behind note rule.ToApply (of_prefix_kind note kind.Select) (symbol.Part rule.ToApply ∷ []) ∷ behind note rule.ToApply (of_prefix_kind note kind.Attr) (symbol.Part rule.ToApply ∷ [])
    ∷ behind note rule.ToAttr (of_prefix_kind note kind.Select) (symbol.Part rule.ToAttr ∷ []) ∷ behind note rule.ToAttr (of_prefix_kind note kind.Apply) (symbol.Part rule.ToAttr ∷ []) ∷ [])))

abbrev pub routes : Bool → Rule → List Route
routes note rule.Mark = leaves note is_name (symbol.Part rule.MarkTail ∷ []) ∷ []
routes note rule.Atom = joins note
routes note rule.Prefix = leaves note (of_prefix note) (prefix_tail ∷ []) ∷ []
routes note rule.Primary = leaves note (of_prefix note) (prefix_tail ∷ []) ∷ leaves note (of_levels note (level.Primary ∷ [])) [] ∷ []
routes note rule.Factor = leaves note (of_prefix note) (prefix_tail ∷ []) ∷ leaves note (of_levels note (level.Factor ∷ level.Primary ∷ [])) [] ∷ []
routes note rule.Product = products note []
routes note rule.Signed = products note [] ++ leaves note (of_levels note (level.Signed ∷ [])) [] ∷ []
routes note rule.Sum = sums note []
routes note rule.Rel = sums note (rel_tail ∷ []) ++ leaves note (of_levels note (level.Relation ∷ [])) [] ∷ []
routes note rule.Implication = in_notes note (sums note (rel_tail ∷ log_tail ∷ implies_tail ∷ [])
    ++ leaves note (of_levels note (level.Relation ∷ [])) (log_tail ∷ implies_tail ∷ []) ∷ (chains note (implies_tail ∷ []) ++ leaves note (of_levels note (level.Implication ∷ [])) [] ∷ []))
routes note rule.Expr = expressions note (symbol.Part rule.SumTails ∷ []) []
routes note rule.Choice = expressions note (symbol.Part rule.ChoiceTail ∷ []) [] ++ leaves note (of_kind kind.Span) [] ∷ []
routes note rule.Arg = expressions note (symbol.Part rule.ArgSum ∷ []) (symbol.Part rule.ArgExpr ∷ []) ++ associations note []
routes note rule.Assoc = expressions note (symbol.Part rule.AssocSum ∷ []) (symbol.Part rule.AssocTail ∷ []) ++ associations note []
routes note rule.Inner = in_ada note (expressions note (symbol.Part rule.InnerSum ∷ []) (symbol.Part rule.InnerExpr ∷ []) ++ associations note (symbol.Part rule.AggrTail ∷ []))
routes note rule.AggrInner = in_ada note (expressions note (symbol.Part rule.AggrSum ∷ []) (symbol.Part rule.AggrRest ∷ []) ++ associations note (symbol.Part rule.AggrTail ∷ []))
routes note rule.Dis = in_ada note (leaves note is_name (symbol.Part rule.DisName ∷ []) ∷ leaves note (not_in_mark note) (prefix_tail ∷ product_tail ∷ sum_tail ∷ symbol.Part rule.ToSpan ∷ [])
    ∷ leaves note (of_levels note (level.Product ∷ level.Factor ∷ level.Primary ∷ [])) (product_tail ∷ sum_tail ∷ symbol.Part rule.ToSpan ∷ [])
    ∷ leaves note (of_levels note (level.Sum ∷ level.Signed ∷ [])) (sum_tail ∷ symbol.Part rule.ToSpan ∷ []) ∷ [])
routes note rule.OfBinary =
    leaves note (of_prefix note) (prefix_tail ∷ symbol.Part rule.MustProduct ∷ []) ∷ leaves note (of_levels note (level.Factor ∷ level.Primary ∷ [])) (symbol.Part rule.MustProduct ∷ [])
    ∷ leaves note (of_levels note (level.Product ∷ [])) (product_tail ∷ sum_tail ∷ symbol.Part rule.BinaryEnd ∷ []) ∷ leaves note (of_levels note (level.Signed ∷ [])) (symbol.Part rule.MustSum ∷ [])
    ∷ leaves note (of_levels note (level.Sum ∷ [])) (sum_tail ∷ symbol.Part rule.BinaryEnd ∷ [])
    ∷ leaves note (λ c. of_levels note (level.Relation ∷ []) c && is_kind c.kind kind.Binary) (symbol.Part rule.BinaryLog ∷ [])
    ∷ leaves note (λ c. of_levels note (level.Relation ∷ []) c && is_kind c.kind kind.Member) (symbol.Part rule.LogRow ∷ [])
    ∷ (chains note (looser note) ++ leaves note (of_levels note (level.Implication ∷ [])) (iff_tail ∷ []) ∷ leaves note (of_levels note (level.Equivalence ∷ [])) [] ∷ [])
routes note rule.Lemma = in_notes note (leaves note (of_kind kind.Lemma) [] ∷ [])
routes note rule.AssertsRest = in_notes note (expressions note (symbol.Part rule.SumTails ∷ symbol.Part rule.EqnTail ∷ equations) (symbol.Part rule.EqnTail ∷ equations)
    ++ leaves note (of_kind kind.Eqn) equations ∷ [])
routes note rule.ForAll = in_notes note (leaves note (of_kind kind.Id) first_identifier ∷ leaves note (of_kind kind.Vars) first_variables ∷ [])
routes note _ = []
