-- What terms mean: the value of a term in a state, with equations unfolded within one another at most n times.
use Rattle.std.specs.Prelude.{ℕ, zero, suc, ℤ, pos, ◌+ℤ◌, List, [], ◌∷◌, ◌++◌, Bool, true, false, ◌&&◌, ◌||◌, ◌==◌, if◌then◌else◌, Option, Some, None}
use Rattle.std.specs.List.{list_any}
use Rattle.std.specs.Option.{option_map, option_map_or, option_and_then, option_or}
use Rattle.term_core.specs.declared.term.Oper.{Oper}
use Rattle.term_core.specs.declared.term.Oper.TheVariants as oper
use Rattle.term_core.specs.declared.term.Term.{Term}
use Rattle.term_core.specs.declared.term.Term.TheOpen.{Term-F}
use Rattle.term_core.specs.declared.term.Term.TheFolds.{fold-Term}
use Rattle.term_core.specs.declared.names.SortEntry.{SortEntry}
use Rattle.term_core.specs.Options.{all_some}
use Rattle.term_core.specs.Terms.{Quantifier, for_all, exists}
use Rattle.term_core.specs.Values.{Value, a_number, a_truth, a_made, values, items, as_number, as_truth, how_many, Generator, default_made, Env, set, bind_all}
use Rattle.term_core.specs.Operations.{Tables, place_of, bounds_of, outcome}

-- ---- where the operators of traits are known

-- what an operator of a trait gives for these operands, where it is known
abbrev pub Calls : Type 0
Calls = ℕ → List Value → Option Value

abbrev pub result_of : Tables → Calls → Oper → List Value → Option Value
result_of m c (oper.User f) vs = c f vs
result_of m c o vs = Some (outcome m o vs)

abbrev pub Meant : Type 0
Meant = Env → Option Value

abbrev pub in_env : Env → List Meant → List (Option Value)
in_env env [] = []
in_env env (f ∷ fs) = f env ∷ in_env env fs

abbrev pub chosen : Option Value → Option Value → Option Value → Option Value
chosen c a b = option_and_then (λ v. if as_truth v then a else b) c

abbrev pub if_of : List (Option Value) → Option Value
if_of (c ∷ a ∷ b ∷ []) = chosen c a b
if_of _ = Some (a_number (pos 0))

-- `if` takes the chosen side alone; every other operator needs all its operands
abbrev pub applied : Tables → Calls → Oper → List (Option Value) → Option Value
applied m c oper.If os = if_of os
applied m c o os = option_and_then (result_of m c o) (all_some os)

-- at count numbers, from low on
abbrev pub along : (ℤ → Option Value) → ℤ → ℕ → List (Option Value)
along f low zero = []
along f low (suc n) = f low ∷ along f (low +ℤ pos 1) n

abbrev pub every : List Value → Bool
every [] = true
every (v ∷ vs) = as_truth v && every vs

abbrev pub any : List Value → Bool
any [] = false
any (v ∷ vs) = as_truth v || any vs

abbrev pub holds : Quantifier → List Value → Bool
holds for_all = every
holds exists = any

-- a quantifier needs all its instances
abbrev pub over : Quantifier → Option Value → Option Value → (Value → Option Value) → Option Value
over q low high body = option_and_then (λ l. option_and_then (λ h. within (as_number l) (as_number h)) high) low
  where
    within : ℤ → ℤ → Option Value
    within l h = option_map (λ vs. a_truth (holds q vs)) (all_some (along (λ i. body (a_number i)) l (how_many l h)))

abbrev pub value_step : Tables → Calls → Term-F Meant → Meant
value_step m c (Term-F.Int n) env = Some (a_number n)
value_step m c (Term-F.Truth b) env = Some (a_truth b)
value_step m c (Term-F.Var x) env = Some (env x)
value_step m c (Term-F.Op o fs) env = applied m c o (in_env env fs)
value_step m c (Term-F.All x low high body) env = over for_all (low env) (high env) (λ v. body (set env x v))
value_step m c (Term-F.Some x low high body) env = over exists (low env) (high env) (λ v. body (set env x v))

unfoldable pub value_by : Tables → Calls → Term → Meant
value_by m c = fold-Term Meant (value_step m c)

-- ---- equations

-- f (x, ..) == right; or f (g (y, ..), x, ..) == right, for the generator g, its parameters being y, .. and then x, ..
pub record Equation : Type 0 where
  pub operator : ℕ
  pub generator : Option ℕ
  pub params : List (List ℕ)
  pub right : Term

-- the types, generators and equations that the numbers in operators and sorts stand for
pub record Meaning : Type 0 where
  pub types : List SortEntry
  pub generators : List Generator
  pub equations : List Equation

abbrev pub tables_of : Meaning → Tables
tables_of me = record { place = place_of me.types; bounds = bounds_of me.types; made = default_made me.generators }

abbrev pub is_generator : Meaning → ℕ → Bool
is_generator me f = list_any (λ g. g.operator == f) me.generators

-- the values of the parameters, for an equation for this generator
abbrev pub matched : Option ℕ → List Value → Option (List Value)
matched None vs = Some vs
matched (Some g) (a_made h parts ∷ vs) = if g == h then Some (items parts ++ vs) else None
matched (Some g) _ = None

-- the equation's right side and the state that it is taken in, where it fits the operator's operands
abbrev pub unfolded : ℕ → List Value → Equation → Option (Term × Env)
unfolded f vs e = if e.operator == f then option_map (λ ws. (e.right, bind_all e.params ws)) (matched e.generator vs) else None

-- those of the first equation that fits
abbrev pub fitting : List Equation → ℕ → List Value → Option (Term × Env)
fitting [] f vs = None
fitting (e ∷ es) f vs = option_or (unfolded f vs e) (fitting es f vs)

-- a generator makes a value of its operands; where no equation fits, the value is 0
abbrev pub called : Meaning → (Term → Meant) → Calls
called me right f vs = if is_generator me f then Some (a_made f (values vs)) else option_map_or (λ e. right e.0 e.1) (fitting me.equations f vs) (Some (a_number (pos 0)))

-- an equation's right side has one step less, and with no step none has a value
abbrev pub calls : ℕ → Meaning → Calls
calls zero me = called me (λ t env. None)
calls (suc n) me = called me (value_by (tables_of me) (calls n me))

-- the value, with at most n equations within one another
abbrev pub value : ℕ → Meaning → Term → Meant
value n me = value_by (tables_of me) (calls n me)
