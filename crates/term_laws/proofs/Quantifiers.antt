-- Quantifiers range over their bounds.
use Rattle.std.proofs.Common.{◌≡◌, ℕ, zero, suc, ◌≤◌, ◌<◌, ℤ, pos, negsuc, ◌+ℤ◌, ◌-ℤ◌, ◌≤ℤ◌, List, [], ◌∷◌, Bool, true, false, ◌&&◌, ◌||◌, Option, Some, refl, sym, ◌∙◌, ap, subst, arith}
use Rattle.std.specs.Option.{option_map}
use Rattle.std.proofs.lemmas.Bool.{and_parts}
use Rattle.std.proofs.lemmas.Int.{ints}
use Rattle.term_core.specs.declared.term.Term.{Term}
use Rattle.term_core.specs.Options.{all_some}
use Rattle.term_core.specs.Terms.{Quantifier, for_all, exists, quantify, all, some}
use Rattle.term_core.specs.Values.{Value, a_number, a_truth, as_truth, as_number, count_from, how_many, Env, set}
use Rattle.term_core.specs.Evaluation.{Meaning, tables_of, calls, value, along, every, any, holds}
use Rattle.term_laws.specs.Settled.{Settled, true_in, number_in}
use Rattle.term_laws.proofs.Meanings.{is_val, val_found, parts_of, mapped_parts}
use Rattle.term_laws.proofs.ValueLaws.{value_quantifier}

-- ---- the numbers of a range

shift : (l : ℤ) (k : ℕ) → (l +ℤ pos 1) +ℤ pos k ≡ l +ℤ pos (suc k)
shift l k = omega (arith, ints)

same_start : (l : ℤ) → l +ℤ pos 0 ≡ l
same_start l = omega (arith, ints)

-- z is one of the numbers of l .. h
within_range : (l h z : ℤ) → l ≤ℤ z → z ≤ℤ h → (k : ℕ) × ((k < how_many l h) × (l +ℤ pos k ≡ z))
within_range l h z p q = by_signs (z -ℤ l) (h -ℤ l) refl refl
  where
    by_signs : (d w : ℤ) → z -ℤ l ≡ d → h -ℤ l ≡ w → (k : ℕ) × ((k < how_many l h) × (l +ℤ pos k ≡ z))
    by_signs (pos k) (pos n) e f = let g : how_many l h ≡ suc n = ap count_from f in let c : k ≤ n = omega (arith, ints) in (k, (omega arith, omega (arith, ints)))
    by_signs (negsuc k) w e f = absurd (omega (arith, ints))
    by_signs (pos k) (negsuc n) e f = absurd (omega (arith, ints))

within_count : (l h : ℤ) (k : ℕ) → k < how_many l h → (l +ℤ pos k) ≤ℤ h
within_count l h k p = by_sign (h -ℤ l) refl
  where
    by_sign : (w : ℤ) → h -ℤ l ≡ w → (l +ℤ pos k) ≤ℤ h
    by_sign (pos n) e = let g : how_many l h ≡ suc n = ap count_from e in let c : k < suc n = subst (λ m. k < m) g p in omega (arith, ints)
    by_sign (negsuc n) e = let g : how_many l h ≡ 0 = ap count_from e in let c : k < 0 = subst (λ m. k < m) g p in absurd (omega arith)

from_low : (l : ℤ) (k : ℕ) → l ≤ℤ (l +ℤ pos k)
from_low l k = omega (arith, ints)

-- ---- values along a range, that are all there

abbrev TrueAt : (ℤ → Option Value) → ℤ → Type 0
TrueAt f i = (v : Value) × ((f i ≡ Some v) × (as_truth v ≡ true))

-- the first one and the others
first_and_rest : (f : ℤ → Option Value) (l : ℤ) (c : ℕ) (vs : List Value) → all_some (along f l (suc c)) ≡ Some vs
    → (v : Value) × ((ws : List Value) × ((f l ≡ Some v) × ((all_some (along f (l +ℤ pos 1) c) ≡ Some ws) × (v ∷ ws ≡ vs))))
first_and_rest f l c vs e =
    let p = parts_of (f l) (λ v. option_map (λ ws. v ∷ ws) (all_some (along f (l +ℤ pos 1) c))) vs e in
    let q = mapped_parts (all_some (along f (l +ℤ pos 1) c)) (λ ws. p.0 ∷ ws) vs p.1.1 in
    (p.0, (q.0, (p.1.0, (q.1.0, q.1.1))))

every_at : (f : ℤ → Option Value) (l : ℤ) (c : ℕ) (vs : List Value) → all_some (along f l c) ≡ Some vs → every vs ≡ true → (k : ℕ) → k < c → TrueAt f (l +ℤ pos k)
every_at f l zero vs e t k lt = absurd (omega arith)
every_at f l (suc c) vs e t zero lt =
    let p = first_and_rest f l c vs e in
    let s = and_parts (as_truth p.0) (every p.1.0) (ap every p.1.1.1.1 ∙ t) in
    subst (TrueAt f) (sym (same_start l)) (p.0, (p.1.1.0, s.0))
every_at f l (suc c) vs e t (suc k) lt =
    let p = first_and_rest f l c vs e in
    let s = and_parts (as_truth p.0) (every p.1.0) (ap every p.1.1.1.1 ∙ t) in
    subst (TrueAt f) (shift l k) (every_at f (l +ℤ pos 1) c p.1.0 p.1.1.1.0 s.1 k (omega arith))

every_from : (f : ℤ → Option Value) (l : ℤ) (c : ℕ) (vs : List Value) → all_some (along f l c) ≡ Some vs
    → ((k : ℕ) → k < c → (u : Value) → f (l +ℤ pos k) ≡ Some u → as_truth u ≡ true) → every vs ≡ true
every_from f l zero vs e h = let d : ◌≡◌ {A = List Value} [] vs = cc in ap every (sym d)
every_from f l (suc c) vs e h =
    let p = first_and_rest f l c vs e in
    let one = h 0 (omega arith) p.0 (ap f (same_start l) ∙ p.1.1.0) in
    let rest = every_from f (l +ℤ pos 1) c p.1.0 p.1.1.1.0 (λ k lt u g. h (suc k) (omega arith) u (ap f (sym (shift l k)) ∙ g)) in
    ap every (sym p.1.1.1.1) ∙ (λ i. one i && rest i)

any_at : (f : ℤ → Option Value) (l : ℤ) (c : ℕ) (vs : List Value) → all_some (along f l c) ≡ Some vs → (k : ℕ) → k < c → ((u : Value) → f (l +ℤ pos k) ≡ Some u → as_truth u ≡ true) → any vs ≡ true
any_at f l zero vs e k lt h = absurd (omega arith)
any_at f l (suc c) vs e zero lt h =
    let p = first_and_rest f l c vs e in
    let one = h p.0 (ap f (same_start l) ∙ p.1.1.0) in
    ap any (sym p.1.1.1.1) ∙ ap (λ b. b || any p.1.0) one
any_at f l (suc c) vs e (suc k) lt h =
    let p = first_and_rest f l c vs e in
    let rest = any_at f (l +ℤ pos 1) c p.1.0 p.1.1.1.0 k (omega arith) (λ u g. h u (ap f (sym (shift l k)) ∙ g)) in
    ap any (sym p.1.1.1.1) ∙ (ap (λ b. as_truth p.0 || b) rest ∙ or_yes (as_truth p.0))
  where
    or_yes : (b : Bool) → (b || true) ≡ true
    or_yes true = refl
    or_yes false = refl

any_from : (f : ℤ → Option Value) (l : ℤ) (c : ℕ) (vs : List Value) → all_some (along f l c) ≡ Some vs → any vs ≡ true → (k : ℕ) × ((k < c) × TrueAt f (l +ℤ pos k))
any_from f l zero vs e t = absurd (let d : ◌≡◌ {A = List Value} [] vs = cc in let g : false ≡ true = ap any d ∙ t in cc)
any_from f l (suc c) vs e t = let p = first_and_rest f l c vs e in by_first p.0 p.1.0 p.1.1.0 p.1.1.1.0 (as_truth p.0) refl (ap any p.1.1.1.1 ∙ t) (any_from f (l +ℤ pos 1) c p.1.0 p.1.1.1.0)
  where
    by_first : (v : Value) (ws : List Value) → f l ≡ Some v → all_some (along f (l +ℤ pos 1) c) ≡ Some ws → (b : Bool) → as_truth v ≡ b → (as_truth v || any ws) ≡ true
        → (any ws ≡ true → (k : ℕ) × ((k < c) × TrueAt f ((l +ℤ pos 1) +ℤ pos k))) → (k : ℕ) × ((k < suc c) × TrueAt f (l +ℤ pos k))
    by_first v ws g h true e t u = (0, (omega arith, subst (TrueAt f) (sym (same_start l)) (v, (g, e))))
    by_first v ws g h false e t u = let r = u (ap (λ b. b || any ws) (sym e) ∙ t) in (suc r.0, (let lt = r.1.0 in omega arith, subst (TrueAt f) (shift l r.0) r.1.1))

-- ---- the quantifiers

-- at some bound: the values along the range, and what they give
found : (me : Meaning) (s : Settled me) (q : Quantifier) (x : List ℕ) (l h b : Term) (env : Env)
    → (n : ℕ) × ((vs : List Value) × ((all_some (along (λ i. value n me b (set env x (a_number i))) (number_in me s env l) (how_many (number_in me s env l) (number_in me s env h))) ≡ Some vs)
    × (holds q vs ≡ true_in me s env (quantify q x l h b))))
unfolding number_in true_in
found me s q x l h b env =
    let f = val_found me s (quantify q x l h b) env in
    let e = sym (value_quantifier (tables_of me) (calls f.0 me) q x l h b env) ∙ f.1 in
    let p = parts_of (value f.0 me l env) _ _ e in
    let r = parts_of (value f.0 me h env) _ _ p.1.1 in
    let low = ap as_number (is_val me s f.0 l env p.0 p.1.0) in
    let high = ap as_number (is_val me s f.0 h env r.0 r.1.0) in
    let t = mapped_parts (all_some (along (λ i. value f.0 me b (set env x (a_number i))) (as_number p.0) (how_many (as_number p.0) (as_number r.0)))) (λ vs. a_truth (holds q vs)) _ r.1.1 in
    (f.0, (t.0, ((λ i. all_some (along (λ i. value f.0 me b (set env x (a_number i))) (low i) (how_many (low i) (high i)))) ∙ t.1.0, ap as_truth t.1.1)))

truth_of : (me : Meaning) (s : Settled me) (n : ℕ) (t : Term) (env : Env) (v : Value) → value n me t env ≡ Some v → true_in me s env t ≡ as_truth v
unfolding true_in
truth_of me s n t env v e = ap as_truth (is_val me s n t env v e)

-- a true `for all` is true at each number within its bounds
pub all_at : (me : Meaning) (s : Settled me) (x : List ℕ) (l h b : Term) (env : Env) → true_in me s env (all x l h b) ≡ true
    → (z : ℤ) → number_in me s env l ≤ℤ z → z ≤ℤ number_in me s env h → true_in me s (set env x (a_number z)) b ≡ true
all_at me s x l h b env t z p q =
    let f = found me s for_all x l h b env in
    let k = within_range (number_in me s env l) (number_in me s env h) z p q in
    let a = every_at (λ i. value f.0 me b (set env x (a_number i))) (number_in me s env l) (how_many (number_in me s env l) (number_in me s env h)) f.1.0 f.1.1.0 (f.1.1.1 ∙ t) k.0 k.1.0 in
    ap (λ i. true_in me s (set env x (a_number i)) b) (sym k.1.1) ∙ (truth_of me s f.0 b (set env x (a_number (number_in me s env l +ℤ pos k.0))) a.0 a.1.0 ∙ a.1.1)

-- one whose body is true at each number within its bounds is true
pub all_from : (me : Meaning) (s : Settled me) (x : List ℕ) (l h b : Term) (env : Env)
    → ((z : ℤ) → number_in me s env l ≤ℤ z → z ≤ℤ number_in me s env h → true_in me s (set env x (a_number z)) b ≡ true) → true_in me s env (all x l h b) ≡ true
all_from me s x l h b env k =
    let f = found me s for_all x l h b env in
    sym f.1.1.1 ∙ every_from (λ i. value f.0 me b (set env x (a_number i))) (number_in me s env l) (how_many (number_in me s env l) (number_in me s env h)) f.1.0 f.1.1.0
    (λ j lt u g. sym (truth_of me s f.0 b (set env x (a_number (number_in me s env l +ℤ pos j))) u g) ∙ k (number_in me s env l +ℤ pos j) (from_low (number_in me s env l) j) (within_count (number_in me s env l) (number_in me s env h) j lt))

-- a true `exists` is true at a number within its bounds
pub some_at : (me : Meaning) (s : Settled me) (x : List ℕ) (l h b : Term) (env : Env) → true_in me s env (some x l h b) ≡ true
    → (z : ℤ) × ((number_in me s env l ≤ℤ z) × ((z ≤ℤ number_in me s env h) × (true_in me s (set env x (a_number z)) b ≡ true)))
some_at me s x l h b env t =
    let f = found me s exists x l h b env in
    let low = number_in me s env l in
    let a = any_from (λ i. value f.0 me b (set env x (a_number i))) low (how_many low (number_in me s env h)) f.1.0 f.1.1.0 (f.1.1.1 ∙ t) in
    (low +ℤ pos a.0, (from_low low a.0, (within_count low (number_in me s env h) a.0 a.1.0, truth_of me s f.0 b (set env x (a_number (low +ℤ pos a.0))) a.1.1.0 a.1.1.1.0 ∙ a.1.1.1.1)))

-- one whose body is true at a number within its bounds is true
pub some_from : (me : Meaning) (s : Settled me) (x : List ℕ) (l h b : Term) (env : Env) (z : ℤ) → number_in me s env l ≤ℤ z → z ≤ℤ number_in me s env h
    → true_in me s (set env x (a_number z)) b ≡ true → true_in me s env (some x l h b) ≡ true
some_from me s x l h b env z p q t =
    let f = found me s exists x l h b env in
    let low = number_in me s env l in
    let k = within_range low (number_in me s env h) z p q in
    sym f.1.1.1 ∙ any_at (λ i. value f.0 me b (set env x (a_number i))) low (how_many low (number_in me s env h)) f.1.0 f.1.1.0 k.0 k.1.0
    (λ u g. sym (truth_of me s f.0 b (set env x (a_number (low +ℤ pos k.0))) u g) ∙ (ap (λ i. true_in me s (set env x (a_number i)) b) k.1.1 ∙ t))
