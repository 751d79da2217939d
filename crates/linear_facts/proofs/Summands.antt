-- Forms as lists of numbers with atoms: where each atom's numbers add up to 0, the sum under any numbers for atoms is 0.
use Rattle.std.proofs.Common.{◌≡◌, ℕ, zero, suc, ◌≤◌, ℤ, pos, ◌+ℤ◌, ◌-ℤ◌, ◌*ℤ◌, neg_ℤ, List, [], ◌∷◌, ◌++◌, length, Bool, true, false, if◌then◌else◌, refl, sym, ◌∙◌, ap, arith}
use Rattle.std.proofs.lemmas.Int.{ints}
use Rattle.std.proofs.Math.IntN.{*ℤ-zero, zero-*ℤ, +ℤ_idr}
use Rattle.term_core.specs.contracts.term.Term as term
use Rattle.term_core.specs.declared.term.Term.{Term}
use Rattle.base_kit.specs.Sameness.{same_decides}
use Rattle.linear_facts.specs.Closing.{total}
use Rattle.linear_facts.specs.Facts.{Fact, form_of, left_of, right_of}
use Rattle.linear_facts.specs.Forms.{Shape, literal, sum, difference, opposite, multiple, whole, shape_of, within_shape, over_shapes, atom, form_by, form, same_term}
use Rattle.linear_facts.proofs.Integers.{minus_one, times-sum, times-times, sum-times}
use Rattle.linear_facts.proofs.ShapeLaws.{EachPart, over_is, by_shape}
use Rattle.linear_facts.proofs.SumLaws.{form_is, fact_form}

abbrev pub Summands : Type 0
Summands = List (ℤ × Term)

abbrev pub scaled : ℤ → Summands → Summands
scaled n [] = []
scaled n (o ∷ os) = (n *ℤ o.0, o.1) ∷ scaled n os

abbrev pub summands_by : Term → Shape Summands → Summands
summands_by t (literal n) = []
summands_by t (sum os ps) = os ++ ps
summands_by t (difference os ps) = os ++ scaled (neg_ℤ (pos 1)) ps
summands_by t (opposite os) = scaled (neg_ℤ (pos 1)) os
summands_by t (multiple n os) = scaled n os
summands_by t whole = (pos 1, t) ∷ []

abbrev pub summands : Term → Summands
summands = over_shapes summands_by

-- the number of an atom in the list
abbrev pub number_of : Term → Summands → ℤ
number_of u [] = pos 0
number_of u (o ∷ os) = (if same_term o.1 u then o.0 else pos 0) +ℤ number_of u os

-- the sum, for a number for each atom
abbrev pub valued : (Term → ℤ) → Summands → ℤ
valued f [] = pos 0
valued f (o ∷ os) = o.0 *ℤ f o.1 +ℤ valued f os

-- ---- lists one after another, and times a number

first_more : (a b c d : ℤ) → b ≡ c +ℤ d → a +ℤ b ≡ (a +ℤ c) +ℤ d
first_more a b c d e = omega (arith, ints)

none_first : (z : ℤ) → z ≡ pos 0 +ℤ z
none_first z = omega (arith, ints)

pub number-append : (u : Term) (os ps : Summands) → number_of u (os ++ ps) ≡ number_of u os +ℤ number_of u ps
number-append u [] ps = none_first (number_of u ps)
number-append u (o ∷ os) ps = first_more (if same_term o.1 u then o.0 else pos 0) _ (number_of u os) (number_of u ps) (number-append u os ps)

pub valued-append : (f : Term → ℤ) (os ps : Summands) → valued f (os ++ ps) ≡ valued f os +ℤ valued f ps
valued-append f [] ps = none_first (valued f ps)
valued-append f (o ∷ os) ps = first_more (o.0 *ℤ f o.1) _ (valued f os) (valued f ps) (valued-append f os ps)

pub number-scaled : (n : ℤ) (u : Term) (os : Summands) → number_of u (scaled n os) ≡ n *ℤ number_of u os
number-scaled n u [] = sym (*ℤ-zero n)
number-scaled n u (o ∷ os) = (λ i. here (same_term o.1 u) i +ℤ number-scaled n u os i) ∙ sym (times-sum n (if same_term o.1 u then o.0 else pos 0) (number_of u os))
  where
    here : (b : Bool) → (if b then n *ℤ o.0 else pos 0) ≡ n *ℤ (if b then o.0 else pos 0)
    here true = refl
    here false = sym (*ℤ-zero n)

pub valued-scaled : (n : ℤ) (f : Term → ℤ) (os : Summands) → valued f (scaled n os) ≡ n *ℤ valued f os
valued-scaled n f [] = sym (*ℤ-zero n)
valued-scaled n f (o ∷ os) = (λ i. times-times n o.0 (f o.1) i +ℤ valued-scaled n f os i) ∙ sym (times-sum n (o.0 *ℤ f o.1) (valued f os))

-- ---- the numbers of a form

number_is : (u t : Term) → number_of u (summands t) ≡ form t (atom u)
number_is u = by_shape (λ t. number_of u (summands t) ≡ form t (atom u)) (λ t h. ap (number_of u) (over_is summands_by t) ∙ (at t (shape_of t) h ∙ sym (form_is t (atom u))))
  where
    at : (t : Term) (s : Shape Term) → EachPart (λ t. number_of u (summands t) ≡ form t (atom u)) s → number_of u (summands_by t (within_shape summands s)) ≡ form_by t (within_shape form s) (atom u)
    at t (literal n) h = refl
    at t (sum a b) h = number-append u (summands a) (summands b) ∙ (λ i. h.0 i +ℤ h.1 i)
    at t (difference a b) h = number-append u (summands a) (scaled (neg_ℤ (pos 1)) (summands b))
        ∙ (λ i. h.0 i +ℤ (number-scaled (neg_ℤ (pos 1)) u (summands b) ∙ (minus_one (number_of u (summands b)) ∙ ap neg_ℤ h.1)) i)
    at t (opposite a) h = number-scaled (neg_ℤ (pos 1)) u (summands a) ∙ (minus_one (number_of u (summands a)) ∙ ap neg_ℤ h)
    at t (multiple n a) h = number-scaled n u (summands a) ∙ ap (λ z. n *ℤ z) h
    at t whole h = +ℤ_idr (if same_term t u then pos 1 else pos 0)

abbrev pub summands_in : Fact → Summands
summands_in fact = summands (left_of fact) ++ scaled (neg_ℤ (pos 1)) (summands (right_of fact))

number_in : (u : Term) (fact : Fact) → number_of u (summands_in fact) ≡ form_of fact (atom u)
number_in u fact = number-append u (summands (left_of fact)) (scaled (neg_ℤ (pos 1)) (summands (right_of fact)))
    ∙ ((λ i. number_is u (left_of fact) i +ℤ (number-scaled (neg_ℤ (pos 1)) u (summands (right_of fact)) ∙ (minus_one (number_of u (summands (right_of fact))) ∙ ap neg_ℤ (number_is u (right_of fact)))) i)
    ∙ (sym (+ℤ_idr (form (left_of fact) (atom u) -ℤ form (right_of fact) (atom u))) ∙ fact_form fact (atom u)))

abbrev pub summands_of : List (ℤ × Fact) → Summands
summands_of [] = []
summands_of (w ∷ ws) = scaled w.0 (summands_in w.1) ++ summands_of ws

pub number_total : (u : Term) (ws : List (ℤ × Fact)) → number_of u (summands_of ws) ≡ total ws (atom u)
number_total u [] = refl
number_total u (w ∷ ws) = number-append u (scaled w.0 (summands_in w.1)) (summands_of ws)
    ∙ (λ i. (number-scaled w.0 u (summands_in w.1) ∙ ap (λ z. w.0 *ℤ z) (number_in u w.1)) i +ℤ number_total u ws i)

-- ---- where each atom's numbers add up to 0

abbrev without : Term → Summands → Summands
without u [] = []
without u (o ∷ os) = if same_term o.1 u then without u os else o ∷ without u os

same_is : (t u : Term) → same_term t u ≡ true → t ≡ u
same_is t u = (same_decides term.the_row.coded t u).0

same_self : (t : Term) → same_term t t ≡ true
same_self t = (same_decides term.the_row.coded t t).1 refl

shorter : (u : Term) (os : Summands) → length (without u os) ≤ length os
shorter u [] = omega arith
shorter u (o ∷ os) = by_test (same_term o.1 u) (shorter u os)
  where
    by_test : (b : Bool) → length (without u os) ≤ length os → length (if b then without u os else o ∷ without u os) ≤ suc (length os)
    by_test true h = omega arith
    by_test false h = omega arith

moved : (a b c d e f : ℤ) → a ≡ b +ℤ c → d +ℤ a ≡ b +ℤ (d +ℤ c)
moved a b c d e f h = omega (arith, ints)

-- the atom's part of the sum apart
split : (f : Term → ℤ) (u : Term) (os : Summands) → valued f os ≡ number_of u os *ℤ f u +ℤ valued f (without u os)
split f u [] = sym (ap (λ z. z +ℤ pos 0) (zero-*ℤ (f u)))
split f u (o ∷ os) = by_test (same_term o.1 u) refl (split f u os)
  where
    by_test : (b : Bool) → same_term o.1 u ≡ b → valued f os ≡ number_of u os *ℤ f u +ℤ valued f (without u os)
        → o.0 *ℤ f o.1 +ℤ valued f os ≡ ((if same_term o.1 u then o.0 else pos 0) +ℤ number_of u os) *ℤ f u +ℤ valued f (if same_term o.1 u then without u os else o ∷ without u os)
    by_test true s h = first_more (o.0 *ℤ f o.1) (valued f os) (number_of u os *ℤ f u) (valued f (without u os)) h
        ∙ ((λ i. (o.0 *ℤ f (same_is o.1 u s i) +ℤ number_of u os *ℤ f u) +ℤ valued f (without u os))
        ∙ ((λ i. sym (sum-times o.0 (number_of u os) (f u)) i +ℤ valued f (without u os))
        ∙ ap (λ b. ((if b then o.0 else pos 0) +ℤ number_of u os) *ℤ f u +ℤ valued f (if b then without u os else o ∷ without u os)) (sym s)))
    by_test false s h = moved (valued f os) (number_of u os *ℤ f u) (valued f (without u os)) (o.0 *ℤ f o.1) (pos 0) (pos 0) h
        ∙ ((λ i. none_first (number_of u os) i *ℤ f u +ℤ (o.0 *ℤ f o.1 +ℤ valued f (without u os)))
        ∙ ap (λ b. ((if b then o.0 else pos 0) +ℤ number_of u os) *ℤ f u +ℤ valued f (if b then without u os else o ∷ without u os)) (sym s))

-- the others keep their numbers
kept : (u v : Term) (os : Summands) → same_term v u ≡ false → number_of v (without u os) ≡ number_of v os
kept u v [] e = refl
kept u v (o ∷ os) e = by_test (same_term o.1 u) refl (kept u v os e)
  where
    apart : (b : Bool) → same_term o.1 u ≡ true → same_term o.1 v ≡ b → b ≡ false
    apart false s t = refl
    apart true s t = sym s ∙ (ap (λ w. same_term w u) (same_is o.1 v t) ∙ e)

    by_test : (b : Bool) → same_term o.1 u ≡ b → number_of v (without u os) ≡ number_of v os
        → number_of v (if same_term o.1 u then without u os else o ∷ without u os) ≡ (if same_term o.1 v then o.0 else pos 0) +ℤ number_of v os
    by_test true s h = ap (λ b. number_of v (if b then without u os else o ∷ without u os)) s
        ∙ (h ∙ (none_first (number_of v os) ∙ ap (λ b. (if b then o.0 else pos 0) +ℤ number_of v os) (sym (apart (same_term o.1 v) s refl))))
    by_test false s h = ap (λ b. number_of v (if b then without u os else o ∷ without u os)) s ∙ ap (λ z. (if same_term o.1 v then o.0 else pos 0) +ℤ z) h

gone : (u : Term) (os : Summands) → number_of u (without u os) ≡ pos 0
gone u [] = refl
gone u (o ∷ os) = by_test (same_term o.1 u) refl (gone u os)
  where
    by_test : (b : Bool) → same_term o.1 u ≡ b → number_of u (without u os) ≡ pos 0 → number_of u (if same_term o.1 u then without u os else o ∷ without u os) ≡ pos 0
    by_test true s h = ap (λ b. number_of u (if b then without u os else o ∷ without u os)) s ∙ h
    by_test false s h = ap (λ b. number_of u (if b then without u os else o ∷ without u os)) s ∙ (ap (λ b. (if b then o.0 else pos 0) +ℤ number_of u (without u os)) s ∙ (sym (none_first (number_of u (without u os))) ∙ h))

all_gone : (u : Term) (os : Summands) → ((v : Term) → number_of v os ≡ pos 0) → (v : Term) → number_of v (without u os) ≡ pos 0
all_gone u os h v = by_test (same_term v u) refl
  where
    by_test : (b : Bool) → same_term v u ≡ b → number_of v (without u os) ≡ pos 0
    by_test true s = ap (λ w. number_of w (without u os)) (same_is v u s) ∙ gone u os
    by_test false s = kept u v os s ∙ h v

vanishes : (n : ℕ) (f : Term → ℤ) (os : Summands) → length os ≤ n → ((v : Term) → number_of v os ≡ pos 0) → valued f os ≡ pos 0
vanishes n f [] l h = refl
vanishes zero f (o ∷ os) l h = absurd (let k : suc (length os) ≤ 0 = l in omega arith)
vanishes (suc n) f (o ∷ os) l h = split f o.1 (o ∷ os)
    ∙ ((λ i. (ap (λ z. z *ℤ f o.1) (h o.1) ∙ zero-*ℤ (f o.1)) i +ℤ vanishes n f (without o.1 (o ∷ os)) less (all_gone o.1 (o ∷ os) h) i))
  where
    by_test : (b : Bool) → b ≡ true → length (without o.1 os) ≤ length os → length (if b then without o.1 os else o ∷ without o.1 os) ≤ n
    by_test true e k = omega arith
    by_test false e k = absurd cc

    less : length (without o.1 (o ∷ os)) ≤ n
    less = by_test (same_term o.1 o.1) (same_self o.1) (shorter o.1 os)

pub all_vanish : (f : Term → ℤ) (os : Summands) → ((v : Term) → number_of v os ≡ pos 0) → valued f os ≡ pos 0
all_vanish f os h = vanishes (length os) f os (omega arith) h
