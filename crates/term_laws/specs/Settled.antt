-- Where every term has a value from some bound on: the one value of each term, and whether it is true. No bound is left.
use Rattle.std.specs.Prelude.{◌≡◌, ℕ, ℤ, List, Bool, true, false, Some}
use Rattle.term_core.specs.declared.term.Oper.{Oper}
use Rattle.term_core.specs.declared.term.Oper.TheVariants as oper
use Rattle.term_core.specs.declared.term.Term.{Term}
use Rattle.term_core.specs.Evaluation.{Meaning, value, calls}
use Rattle.term_core.specs.Values.{Value, Env, as_truth, as_number}

-- every application of an operator of a trait has a value from some bound on
abbrev pub CallsSettle : Meaning → Type 0
CallsSettle me = (f : ℕ) (vs : List Value) → (n : ℕ) × ((v : Value) × (calls n me f vs ≡ Some v))

-- every term has one in every state
pub record Settled (me : Meaning) : Type 0 where
  pub settle : (t : Term) (env : Env) → (n : ℕ) × ((v : Value) × (value n me t env ≡ Some v))

-- the value of a term
unfoldable pub val : (me : Meaning) → Settled me → Term → Env → Value
val me settled t env = (settled.settle t env).1.0

-- whether a term is true
unfoldable pub true_in : (me : Meaning) → Settled me → Env → Term → Bool
true_in me settled env t = as_truth (val me settled t env)

-- the number that a term gives
unfoldable pub number_in : (me : Meaning) → Settled me → Env → Term → ℤ
number_in me settled env t = as_number (val me settled t env)

-- the operators whose table is `outcome`: not `if`, which takes one side alone, and none of a trait
abbrev pub is_plain : Oper → Bool
is_plain oper.If = false
is_plain (oper.User f) = false
is_plain _ = true
