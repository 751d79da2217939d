-- The sort of a term, and which sequents are well sorted.
use Rattle.std.specs.Prelude.{◌≡◌, ℕ, List, [], ◌∷◌, map, length, find, Bool, true, false, ◌&&◌, ◌==◌, not, bytes_eq, if◌then◌else◌, Option, Some, None}
use Rattle.std.specs.List.{list_all}
use Rattle.std.specs.Option.{option_map, option_and_then}
use Rattle.term_core.specs.declared.sort.Sort.{Sort}
use Rattle.term_core.specs.declared.sort.Sort.TheOpen.{Sort-F}
use Rattle.term_core.specs.declared.sort.Sort.TheViews.{out-Sort}
use Rattle.term_sorts.specs.declared.sorting.Basic.{Basic}
use Rattle.term_sorts.specs.declared.sorting.Basic.TheVariants.{Number, TruthValue}
use Rattle.term_sorts.specs.declared.sorting.Usual.{Usual}
use Rattle.term_sorts.specs.declared.sorting.OpSort.{OpSort}
use Rattle.term_core.specs.declared.sequent.Var.{Var}
use Rattle.term_core.specs.declared.sequent.Sequent.{Sequent}
use Rattle.term_core.specs.declared.term.Oper.{Oper}
use Rattle.term_core.specs.declared.term.Oper.TheVariants as oper
use Rattle.term_core.specs.declared.term.Term.{Term}
use Rattle.term_core.specs.declared.term.Term.TheOpen.{Term-F}
use Rattle.term_core.specs.declared.term.Term.TheFolds.{fold-Term}
use Rattle.term_core.specs.Names.{has}
use Rattle.term_core.specs.Opers.{same_operator}
use Rattle.term_core.specs.Options.{all_some}
use Rattle.term_core.specs.Sorts.{whole, truths, plain, each_same, same_sort, is_formed}
use Rattle.term_core.specs.Validity.{sort_in}
use Rattle.term_core.specs.Values.{Generator}

-- ---- operators

abbrev pub basic_sort : Basic → Sort
basic_sort Number = whole
basic_sort TruthValue = truths

-- operators of numbers and of truth values: how many operands they take, of which sort, and the sort that they give
abbrev pub usual_of : Oper → Option Usual
usual_of oper.Add = Some record { count = 2; operand = Number; result = Number }
usual_of oper.Sub = Some record { count = 2; operand = Number; result = Number }
usual_of oper.Mul = Some record { count = 2; operand = Number; result = Number }
usual_of oper.Div = Some record { count = 2; operand = Number; result = Number }
usual_of oper.Rem = Some record { count = 2; operand = Number; result = Number }
usual_of oper.Mod = Some record { count = 2; operand = Number; result = Number }
usual_of oper.Neg = Some record { count = 1; operand = Number; result = Number }
usual_of oper.Abs = Some record { count = 1; operand = Number; result = Number }
usual_of oper.Lt = Some record { count = 2; operand = Number; result = TruthValue }
usual_of oper.Le = Some record { count = 2; operand = Number; result = TruthValue }
usual_of oper.Gt = Some record { count = 2; operand = Number; result = TruthValue }
usual_of oper.Ge = Some record { count = 2; operand = Number; result = TruthValue }
usual_of oper.And = Some record { count = 2; operand = TruthValue; result = TruthValue }
usual_of oper.Or = Some record { count = 2; operand = TruthValue; result = TruthValue }
usual_of oper.Xor = Some record { count = 2; operand = TruthValue; result = TruthValue }
usual_of oper.Not = Some record { count = 1; operand = TruthValue; result = TruthValue }
usual_of oper.Implies = Some record { count = 2; operand = TruthValue; result = TruthValue }
usual_of oper.Iff = Some record { count = 2; operand = TruthValue; result = TruthValue }
usual_of _ = None

abbrev pub usual_sort : Usual → List Sort → Option Sort
usual_sort u ss = if length ss == u.count && list_all (same_sort (basic_sort u.operand)) ss then Some (basic_sort u.result) else None

-- two of one sort
abbrev pub equal_sort : List Sort → Option Sort
equal_sort (a ∷ b ∷ []) = if same_sort a b then Some truths else None
equal_sort _ = None

-- a truth value, and two of one sort
abbrev pub if_sort : List Sort → Option Sort
if_sort (c ∷ a ∷ b ∷ []) = if same_sort truths c && same_sort a b then Some a else None
if_sort _ = None

abbrev pub element_of : Sort-F Sort → Option Sort
element_of (Sort-F.Array low high element) = Some element
element_of _ = None

abbrev pub is_element : Sort-F Sort → Sort → Bool
is_element (Sort-F.Array low high element) sort = same_sort element sort
is_element _ sort = false

-- a list and an index
abbrev pub select_sort : List Sort → Option Sort
select_sort (a ∷ i ∷ []) = if same_sort whole i then element_of (out-Sort a) else None
select_sort _ = None

-- a list, an index and an element
abbrev pub store_sort : List Sort → Option Sort
store_sort (a ∷ i ∷ e ∷ []) = if same_sort whole i && is_element (out-Sort a) e then Some a else None
store_sort _ = None

-- operands of the listed sorts, ranges apart
abbrev pub listed_sort : Option OpSort → List Sort → Option Sort
listed_sort None ss = None
listed_sort (Some o) ss = if each_same (map same_sort (map plain o.args)) ss then Some (plain o.result) else None

-- the first entry of an operator counts
abbrev pub other_sort : List OpSort → Oper → List Sort → Option Sort
other_sort ops oper.Eq ss = equal_sort ss
other_sort ops oper.If ss = if_sort ss
other_sort ops oper.Select ss = select_sort ss
other_sort ops oper.Store ss = store_sort ss
other_sort ops o ss = listed_sort (find (λ entry. same_operator entry.oper o) ops) ss

abbrev pub by_usual : Option Usual → List OpSort → Oper → List Sort → Option Sort
by_usual (Some u) ops o ss = usual_sort u ss
by_usual None ops o ss = other_sort ops o ss

-- the sort that an operator gives, from those of its operands
unfoldable pub result_sort : List OpSort → Oper → List Sort → Option Sort
result_sort ops o ss = by_usual (usual_of o) ops o ss

-- ---- terms

-- the sort of each name
abbrev pub Scope : Type 0
Scope = List ℕ → Option Sort

-- variables have their sorts without ranges
abbrev pub scope_of : List Var → Scope
scope_of vars = λ x. option_map plain (sort_in vars x)

-- within a quantifier its name is a number
abbrev pub with_bound : Scope → List ℕ → Scope
with_bound scope x = λ y. if bytes_eq x y then Some whole else scope y

abbrev pub Sorted : Type 0
Sorted = Scope → Option Sort

abbrev pub in_scope : Scope → List Sorted → List (Option Sort)
in_scope scope [] = []
in_scope scope (f ∷ fs) = f scope ∷ in_scope scope fs

abbrev pub is_sort : Sort → Option Sort → Bool
is_sort sort None = false
is_sort sort (Some s) = same_sort sort s

-- the bounds are numbers, and the body is a truth value
abbrev pub quantifier_sort : Option Sort → Option Sort → Option Sort → Option Sort
quantifier_sort low high body = if is_sort whole low && is_sort whole high && is_sort truths body then Some truths else None

abbrev pub sort_step : List OpSort → Term-F Sorted → Sorted
sort_step ops (Term-F.Int n) scope = Some whole
sort_step ops (Term-F.Truth b) scope = Some truths
sort_step ops (Term-F.Var x) scope = scope x
sort_step ops (Term-F.Op o fs) scope = option_and_then (result_sort ops o) (all_some (in_scope scope fs))
sort_step ops (Term-F.All x low high body) scope = quantifier_sort (low scope) (high scope) (body (with_bound scope x))
sort_step ops (Term-F.Some x low high body) scope = quantifier_sort (low scope) (high scope) (body (with_bound scope x))

unfoldable pub sort_with : List OpSort → Term → Sorted
sort_with ops = fold-Term Sorted (sort_step ops)

-- the sort of a term over variables; none where the term is ill sorted
abbrev pub sort_of_term : List OpSort → List Var → Term → Option Sort
sort_of_term ops vars t = sort_with ops t (scope_of vars)

abbrev pub sorts_each : List OpSort → Scope → List Term → List (Option Sort)
sorts_each ops scope [] = []
sorts_each ops scope (t ∷ ts) = sort_with ops t scope ∷ sorts_each ops scope ts

-- ---- the scope within quantifiers, the innermost last

abbrev pub within : Scope → List (List ℕ) → Scope
within scope [] = scope
within scope (x ∷ xs) = within (with_bound scope x) xs

-- ---- well sorted sequents

abbrev pub are_distinct : List (List ℕ) → Bool
are_distinct [] = true
are_distinct (x ∷ xs) = not (has xs x) && are_distinct xs

abbrev pub is_entry_formed : List Generator → Option OpSort → Bool
is_entry_formed gs None = true
is_entry_formed gs (Some o) = list_all (is_formed gs) o.args && is_formed gs o.result

abbrev pub named_step : List Generator → List OpSort → Term-F Bool → Bool
named_step gs ops (Term-F.Op o parts) = is_entry_formed gs (find (λ entry. same_operator entry.oper o) ops) && list_all (λ b. b) parts
named_step gs ops (Term-F.All x low high body) = low && high && body
named_step gs ops (Term-F.Some x low high body) = low && high && body
named_step gs ops _ = true

-- the sorts that a term names are formed
abbrev pub names_formed : List Generator → List OpSort → Term → Bool
names_formed gs ops = fold-Term Bool (named_step gs ops)

pub record IsWellSorted (gs : List Generator) (ops : List OpSort) (sequent : Sequent) : Type 0 where
  -- no two variables have one name
  pub names : are_distinct (map (λ v. v.name) sequent.vars) ≡ true
  pub sorts : list_all (λ v. is_formed gs v.sort) sequent.vars ≡ true
  -- the goal and each hypothesis is a truth value
  pub terms : list_all (λ t. is_sort truths (sort_of_term ops sequent.vars t)) (sequent.goal ∷ sequent.hyps) ≡ true
  pub named : list_all (names_formed gs ops) (sequent.goal ∷ sequent.hyps) ≡ true
