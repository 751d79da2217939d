-- The facts that hypotheses and the negated goal give.
use Rattle.std.specs.Prelude.{ℕ, zero, suc, ℤ, pos, List, [], ◌∷◌, ◌++◌, slice_get, Bool, true, false, not, ◌&&◌, if◌then◌else◌, Option, Some, None}
use Rattle.std.specs.Option.{option_map_or, option_and_then, option_or}
use Rattle.term_core.specs.declared.sort.Sort.{Sort}
use Rattle.term_core.specs.declared.sort.Sort.TheOpen.{Sort-F}
use Rattle.term_core.specs.declared.sort.Sort.TheViews.{out-Sort}
use Rattle.term_core.specs.declared.term.Oper.{Oper}
use Rattle.term_core.specs.declared.term.Oper.TheVariants as oper
use Rattle.term_core.specs.declared.term.Term.{Term}
use Rattle.term_core.specs.declared.term.Term.TheOpen.{Term-F}
use Rattle.term_core.specs.declared.term.Term.TheViews.{out-Term}
use Rattle.term_core.specs.declared.sequent.Var.{Var}
use Rattle.term_core.specs.declared.sequent.Sequent.{Sequent}
use Rattle.term_core.specs.Validity.{sort_in}
use Rattle.linear_facts.specs.Forms.{Form, form, plus, minus, number, taken_apart}

-- a fact has a form d: it says that d <= 0, or that d = 0
pub data Fact : Type 0 where
  -- a <= b: a - b <= 0
  at_most : Term → Term → Fact
  -- a < b: a - b + 1 <= 0
  below : Term → Term → Fact
  -- a = b: a - b = 0
  equal_to : Term → Term → Fact

abbrev pub form_of : Fact → Form
form_of (at_most a b) = minus (form a) (form b)
form_of (below a b) = plus (minus (form a) (form b)) (number (pos 1))
form_of (equal_to a b) = minus (form a) (form b)

abbrev pub is_equation : Fact → Bool
is_equation (equal_to a b) = true
is_equation _ = false

-- the terms that are taken apart in it
abbrev pub apart_in : Fact → List Term
apart_in (at_most a b) = taken_apart a ++ taken_apart b
apart_in (below a b) = taken_apart a ++ taken_apart b
apart_in (equal_to a b) = taken_apart a ++ taken_apart b

-- not (a <= b) is b < a, and not (a < b) is b <= a
abbrev pub denied : Fact → Option Fact
denied (at_most a b) = Some (below b a)
denied (below a b) = Some (at_most b a)
denied (equal_to a b) = None

-- ---- its sides

abbrev pub left_of : Fact → Term
left_of (at_most a b) = a
left_of (below a b) = a
left_of (equal_to a b) = a

abbrev pub right_of : Fact → Term
right_of (at_most a b) = b
right_of (below a b) = b
right_of (equal_to a b) = b

-- what the form of a fact has besides the difference
abbrev pub extra_of : Fact → ℤ
extra_of (below a b) = pos 1
extra_of _ = pos 0

-- ---- comparisons

abbrev pub compared : Oper → List Term → Option Fact
compared oper.Le (a ∷ b ∷ []) = Some (at_most a b)
compared oper.Ge (b ∷ a ∷ []) = Some (at_most a b)
compared oper.Lt (a ∷ b ∷ []) = Some (below a b)
compared oper.Gt (b ∷ a ∷ []) = Some (below a b)
compared _ _ = None

abbrev pub comparison_in : Term-F Term → Option Fact
comparison_in (Term-F.Op o ts) = compared o ts
comparison_in _ = None

-- of a <= b, b >= a, a < b, b > a
abbrev pub comparison : Term → Option Fact
comparison t = comparison_in (out-Term t)

abbrev pub bound_by : Oper → List Term → Option Fact
bound_by oper.Not (t ∷ []) = option_and_then denied (comparison t)
bound_by o ts = compared o ts

abbrev pub bound_in : Term-F Term → Option Fact
bound_in (Term-F.Op o ts) = bound_by o ts
bound_in _ = None

-- of a comparison, and of `not` over one
abbrev pub bound : Term → Option Fact
bound t = bound_in (out-Term t)

-- ---- equations

abbrev pub is_number_sort : Sort-F Sort → Bool
is_number_sort Sort-F.Whole = true
is_number_sort (Sort-F.Range low high) = true
is_number_sort _ = false

-- the operators that give no number, whatever their operands are
abbrev pub gives_no_number : Oper → Bool
gives_no_number oper.Eq = true
gives_no_number oper.Lt = true
gives_no_number oper.Le = true
gives_no_number oper.Gt = true
gives_no_number oper.Ge = true
gives_no_number oper.And = true
gives_no_number oper.Or = true
gives_no_number oper.Xor = true
gives_no_number oper.Not = true
gives_no_number oper.Implies = true
gives_no_number oper.Iff = true
gives_no_number oper.Store = true
gives_no_number (oper.Update k) = true
gives_no_number (oper.Fill k) = true
gives_no_number (oper.Make k) = true
gives_no_number _ = false

abbrev pub is_number_variable : List Var → List ℕ → Bool
is_number_variable vars x = option_map_or (λ sort. is_number_sort (out-Sort sort)) (sort_in vars x) false

abbrev pub is_number_in : List Var → Term-F Term → Bool
is_number_in vars (Term-F.Int n) = true
is_number_in vars (Term-F.Truth b) = false
is_number_in vars (Term-F.Var x) = is_number_variable vars x
is_number_in vars (Term-F.Op o ts) = not (gives_no_number o)
is_number_in vars (Term-F.All x low high body) = false
is_number_in vars (Term-F.Some x low high body) = false

-- a side of an equation of whole numbers: no truth literal, no quantifier, no variable that isn't of a number sort, and no
-- application of an operator that gives no number
abbrev pub may_be_number : List Var → Term → Bool
may_be_number vars t = is_number_in vars (out-Term t)

abbrev pub equation_by : List Var → Oper → List Term → Option Fact
equation_by vars oper.Eq (a ∷ b ∷ []) = if may_be_number vars a && may_be_number vars b then Some (equal_to a b) else None
equation_by vars _ _ = None

abbrev pub equation_in : List Var → Term-F Term → Option Fact
equation_in vars (Term-F.Op o ts) = equation_by vars o ts
equation_in vars _ = None

abbrev pub equation : List Var → Term → Option Fact
equation vars t = equation_in vars (out-Term t)

-- ---- the facts of a sequent

-- that of a hypothesis
abbrev pub fact_of : List Var → Term → Option Fact
fact_of vars t = option_or (bound t) (equation vars t)

-- that of `not G`, for a goal G that is a comparison or `not` over one
abbrev pub against : Term → Option Fact
against goal = option_and_then denied (bound goal)

-- that of the hypothesis of this index
abbrev pub hypothesis_at : Sequent → ℕ → Option Fact
hypothesis_at sequent i = option_and_then (fact_of sequent.vars) (slice_get sequent.hyps i)

-- coefficient 0 weighs the goal's negation, and each further one the hypothesis of its number
abbrev pub fact_at : Sequent → ℕ → Option Fact
fact_at sequent zero = against sequent.goal
fact_at sequent (suc i) = hypothesis_at sequent i
