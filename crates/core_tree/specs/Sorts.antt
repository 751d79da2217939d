-- The sorts of core expressions, ranges apart, and which statements are typed.
use Rattle.std.specs.Prelude.{ℕ, ℤ, List, [], ◌∷◌, map, find, slice_get, int_le, nat_eq, Bool, true, false, ◌&&◌, if◌then◌else◌, Option, Some, None, is_none}
use Rattle.std.specs.Option.{option_map, option_and_then}
use Rattle.term_core.specs.declared.sort.Sort.{Sort}
use Rattle.term_core.specs.declared.sort.Sort.TheOpen.{Sort-F}
use Rattle.term_core.specs.declared.sort.Sort.TheViews.{out-Sort}
use Rattle.term_core.specs.declared.term.Oper.{Oper}
use Rattle.term_core.specs.declared.term.Oper.TheVariants as oper
use Rattle.term_core.specs.declared.sequent.Var.{Var}
use Rattle.term_core.specs.Options.{all_some}
use Rattle.term_core.specs.Sorts.{whole, truths, plain, same_sort, each_same}
use Rattle.term_sorts.specs.declared.sorting.OpSort.{OpSort}
use Rattle.term_sorts.specs.Sorting.{result_sort, is_sort}
use Rattle.core_tree.specs.declared.spec.Formal.{Formal}
use Rattle.core_tree.specs.declared.spec.Spec.{Spec}
use Rattle.core_tree.specs.declared.units.UnitSpec.{UnitSpec}
use Rattle.core_tree.specs.Trees.{Expr, lit, truth, get, select, field, unary, binary, and_then, or_else, within, succ, pred, position, convert, call, fill, put, make, aggregate, given, Exprs, end, ◌&◌, Starts, none, start, Stmt, null, assign, call_of, branch, choose, forever, repeat, count, block, exit, give, raise, claim, Stmts, done, next, Choices, no_choice, choice, Catches, no_catch, catch}

-- ---- operators of the core

abbrev pub takes_one : Oper → Bool
takes_one oper.Neg = true
takes_one oper.Abs = true
takes_one oper.Not = true
takes_one _ = false

abbrev pub takes_two : Oper → Bool
takes_two oper.Add = true
takes_two oper.Sub = true
takes_two oper.Mul = true
takes_two oper.Div = true
takes_two oper.Rem = true
takes_two oper.Mod = true
takes_two oper.Eq = true
takes_two oper.Lt = true
takes_two oper.Le = true
takes_two oper.Gt = true
takes_two oper.Ge = true
takes_two oper.And = true
takes_two oper.Or = true
takes_two oper.Xor = true
takes_two _ = false

-- ---- rules of one node, given the sorts of its parts

-- a number of numbers, which gives a sort
abbrev pub of_numbers : Sort → List (Option Sort) → Option Sort
of_numbers result [] = Some result
of_numbers result (s ∷ ss) = if is_sort whole s then of_numbers result ss else None

-- to a sort whose base type has another
abbrev pub converted : Sort → Sort → Option Sort → Option Sort
converted subtype base (Some s) = if same_sort (plain subtype) s && same_sort (plain base) s then Some s else None
converted subtype base None = None

abbrev pub is_index : ℤ → Sort-F Sort → Bool
is_index i (Sort-F.Array low high element) = int_le low i && int_le i high
is_index i _ = false

abbrev pub has_index : ℤ → Option Sort → Bool
has_index i (Some s) = is_index i (out-Sort s)
has_index i None = false

-- the specification of the unit of this number
abbrev pub spec_of : List UnitSpec → ℕ → Option Spec
spec_of us n = option_map (λ u. u.spec) (find (λ u. nat_eq u.id.0 n) us)

-- an actual of its sort for each formal
abbrev pub fits : List Formal → Option (List Sort) → Bool
fits formals (Some ss) = each_same (map (λ f. same_sort (plain f.sort)) formals) ss
fits formals None = false

abbrev pub result_of : Option Formal → Option Sort
result_of (Some f) = Some (plain f.sort)
result_of None = None

-- of a function
abbrev pub called : Option Spec → Option (List Sort) → Option Sort
called (Some s) ss = if fits s.formals ss then result_of s.result else None
called None ss = None

-- of a procedure
abbrev pub is_invoked : Option Spec → Option (List Sort) → Bool
is_invoked (Some s) ss = fits s.formals ss && is_none s.result
is_invoked None ss = false

abbrev pub same_known : Option Sort → Option Sort → Bool
same_known (Some a) b = is_sort a b
same_known None b = false

module _ (specs : List UnitSpec) (ops : List OpSort) (objects : List Var) where
  -- what an operator of terms gives
  abbrev pub given_by : Oper → List (Option Sort) → Option Sort
  given_by o ss = option_and_then (result_sort ops o) (all_some ss)

  abbrev pub object_sort : ℕ → Option Sort
  object_sort o = option_map (λ v. plain v.sort) (slice_get objects o)

  -- The sort of an expression; none where it is ill sorted. In the second part of an aggregate `gs` are the sorts of its values.
  abbrev mutual
    pub sort_of : List Sort → Expr → Option Sort
    sort_of gs (lit v) = Some whole
    sort_of gs (truth b) = Some truths
    sort_of gs (get o) = object_sort o
    sort_of gs (select a i) = given_by oper.Select (sort_of gs a ∷ sort_of gs i ∷ [])
    sort_of gs (field r c) = given_by (oper.Field c) (sort_of gs r ∷ [])
    sort_of gs (unary o a) = if takes_one o then given_by o (sort_of gs a ∷ []) else None
    sort_of gs (binary o a b) = if takes_two o then given_by o (sort_of gs a ∷ sort_of gs b ∷ []) else None
    sort_of gs (and_then a b) = given_by oper.And (sort_of gs a ∷ sort_of gs b ∷ [])
    sort_of gs (or_else a b) = given_by oper.Or (sort_of gs a ∷ sort_of gs b ∷ [])
    sort_of gs (within e l h) = of_numbers truths (sort_of gs e ∷ sort_of gs l ∷ sort_of gs h ∷ [])
    sort_of gs (succ e last) = of_numbers whole (sort_of gs e ∷ [])
    sort_of gs (pred e first last) = of_numbers whole (sort_of gs e ∷ [])
    sort_of gs (position e) = of_numbers whole (sort_of gs e ∷ [])
    sort_of gs (convert e s w) = converted s w (sort_of gs e)
    sort_of gs (call n u es) = called (spec_of specs u) (all_some (sorts_of gs es))
    sort_of gs (fill n e) = given_by (oper.Fill n) (sort_of gs e ∷ [])
    sort_of gs (put a i e) = if has_index i (sort_of gs a) then given_by oper.Store (sort_of gs a ∷ Some whole ∷ sort_of gs e ∷ []) else None
    sort_of gs (make n es) = given_by (oper.Make n) (sorts_of gs es)
    sort_of gs (aggregate es e) = option_and_then (λ ss. sort_of ss e) (all_some (sorts_of [] es))
    sort_of gs (given k) = slice_get gs k

    pub sorts_of : List Sort → Exprs → List (Option Sort)
    sorts_of gs end = []
    sorts_of gs (e & es) = sort_of gs e ∷ sorts_of gs es

  abbrev pub sort_at : Expr → Option Sort
  sort_at e = sort_of [] e

  -- each object has an initial value of its sort
  abbrev pub starts_typed : Starts → Bool
  starts_typed none = true
  starts_typed (start o e ss) = same_known (object_sort o) (sort_at e) && starts_typed ss

  -- what is returned: a value of the result's sort, or nothing
  abbrev pub is_given : Option Sort → Option Expr → Bool
  is_given (Some s) (Some e) = is_sort s (sort_at e)
  is_given None None = true
  is_given _ _ = false

  module _ (result : Option Sort) where
    abbrev mutual
      pub is_typed : Stmt → Bool
      is_typed null = true
      is_typed (assign t v) = same_known (sort_at t) (sort_at v)
      is_typed (call_of n u es) = is_invoked (spec_of specs u) (all_some (sorts_of [] es))
      is_typed (branch c a b) = is_sort truths (sort_at c) && (are_typed a && are_typed b)
      is_typed (choose e cs) = is_sort whole (sort_at e) && choices_typed cs
      is_typed (forever n t ss) = are_typed ss
      is_typed (repeat n c t ss) = is_sort truths (sort_at c) && are_typed ss
      is_typed (count n o r l h t ss) =
          is_sort whole (object_sort o) && (is_sort whole (sort_at l) && (is_sort whole (sort_at h) && are_typed ss))
      is_typed (block is ss hs) = starts_typed is && (are_typed ss && catches_typed hs)
      is_typed exit = true
      is_typed (give e) = is_given result e
      is_typed (raise e) = true
      is_typed (claim n t) = true

      pub are_typed : Stmts → Bool
      are_typed done = true
      are_typed (next s ss) = is_typed s && are_typed ss

      pub choices_typed : Choices → Bool
      choices_typed no_choice = true
      choices_typed (choice low high ss cs) = are_typed ss && choices_typed cs

      pub catches_typed : Catches → Bool
      catches_typed no_catch = true
      catches_typed (catch es ss hs) = are_typed ss && catches_typed hs
