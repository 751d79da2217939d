-- When coefficients close a sequent: its facts, weighed by them, add up to a contradiction.
use Rattle.std.specs.Prelude.{◌≡◌, ℕ, suc, ◌<◌, ◌≤◌, ℤ, pos, ◌<ℤ◌, int_le, unsigned_abs, List, [], ◌∷◌, ◌++◌, count_by, Bool, true, not, ◌&&◌, ◌||◌, if◌then◌else◌, Option, Some, None}
use Rattle.std.specs.List.{All}
use Rattle.term_core.specs.declared.term.Term.{Term}
use Rattle.term_core.specs.declared.sequent.Sequent.{Sequent}
use Rattle.term_core.specs.Operations.{is_zero}
use Rattle.linear_facts.specs.declared.limits.TheConstants.{MOST_COEFFICIENT, TOO_MANY, MOST_NUMBER}
use Rattle.linear_facts.specs.Forms.{Form, Part, atom, constant, form, plus, times, number}
use Rattle.linear_facts.specs.Facts.{Fact, form_of, is_equation, apart_in, fact_at}

-- ---- what the coefficients weigh

-- a coefficient other than 0 weighs a fact, and one that says d <= 0 has none below 0
abbrev pub may_weigh : ℤ → Option Fact → Bool
may_weigh c None = is_zero c
may_weigh c (Some fact) = is_equation fact || int_le (pos 0) c

-- each of the coefficients, of which the first is coefficient i
abbrev pub each_may_weigh : Sequent → ℕ → List ℤ → Bool
each_may_weigh sequent i [] = true
each_may_weigh sequent i (c ∷ cs) = may_weigh c (fact_at sequent i) && each_may_weigh sequent (suc i) cs

-- a coefficient other than 0, with its fact
abbrev pub weighed : ℤ → Option Fact → List (ℤ × Fact)
weighed c None = []
weighed c (Some fact) = if is_zero c then [] else (c, fact) ∷ []

abbrev pub weights_from : Sequent → ℕ → List ℤ → List (ℤ × Fact)
weights_from sequent i [] = []
weights_from sequent i (c ∷ cs) = weighed c (fact_at sequent i) ++ weights_from sequent (suc i) cs

abbrev pub weights : Sequent → List ℤ → List (ℤ × Fact)
weights sequent cs = weights_from sequent 0 cs

-- the weighted sum of the forms
abbrev pub total : List (ℤ × Fact) → Form
total [] = number (pos 0)
total (w ∷ ws) = plus (times w.0 (form_of w.1)) (total ws)

-- ---- bounds

-- no coefficient and no constant of the form is above 10 ^ 18 in size
abbrev pub IsSmall : Form → Type 0
IsSmall f = (p : Part) → unsigned_abs (f p) ≤ MOST_NUMBER

-- nor of the form of a term that is taken apart; the form of a literal is its value
abbrev pub IsBounded : Fact → Type 0
IsBounded fact = IsSmall (form_of fact) × All (λ t. IsSmall (form t)) (apart_in fact)

-- ---- closing

pub record Closes (sequent : Sequent) (cs : List ℤ) : Type 0 where
  pub allowed : each_may_weigh sequent 0 cs ≡ true
  pub given : All (λ c. unsigned_abs c ≤ MOST_COEFFICIENT) cs
  pub few : count_by (λ c. not (is_zero c)) cs < TOO_MANY
  pub bounded : All (λ w. IsBounded w.1) (weights sequent cs)
  -- the sum has no atom left, and a constant above 0
  pub no_atom : (t : Term) → total (weights sequent cs) (atom t) ≡ pos 0
  pub positive : pos 0 <ℤ total (weights sequent cs) constant
