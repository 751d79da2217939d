-- The proofs that are carried stand in the places of what they take.
use Rattle.std.proofs.Common.{◌≡◌, ℕ, zero, suc, ◌<◌, List, [], ◌∷◌, filter, length, take, Bool, true, false, cond, Option, Some, None, refl, ap, ◌∙◌, arith}
use Rattle.std.specs.List.{filter_map, cons_option}
use Rattle.std.specs.Option.{option_map, option_map_or, option_and_then}
use Rattle.std.specs.Prelude.{slice_get, is_some}
use Rattle.term_core.specs.declared.obligation.Obligation.{Obligation}
use Rattle.term_core.specs.declared.sequent.Sequent.{Sequent}
use Rattle.proof_replay.proofs.BothPasses.{there}
use Rattle.proof_replay.specs.Carrying.{is_laid_on}
use Rattle.proof_replay.specs.Words.{proof_of}
use Rattle.proof_replay.specs.declared.carrying.Laid.{Laid}

-- ---- lists

pub same_lists : {X : Type 0} (xs ys : List X) → length xs ≡ length ys → ((i : ℕ) (y : X) → slice_get ys i ≡ Some y → slice_get xs i ≡ Some y) → xs ≡ ys
same_lists [] [] e h = refl
same_lists [] (y ∷ ys) e h = let f = h 0 y refl in cc
same_lists (x ∷ xs) [] e h = absurd (omega (arith, e))
same_lists (x ∷ xs) (y ∷ ys) e h =
    let s : x ≡ y = (let f = h 0 y refl in cc) in
    let r = same_lists xs ys (omega (arith, e)) (λ i z k. h (suc i) z k) in
    λ i. s i ∷ r i

pub all_some : {X : Type 0} (ts : List (Option X)) → ((i : ℕ) → slice_get ts i ≡ Some None → ⊥) → filter is_some ts ≡ ts
all_some [] h = refl
all_some (None ∷ ts) h = absurd (h 0 refl)
all_some (Some x ∷ ts) h = ap (λ r. Some x ∷ r) (all_some ts (λ i e. h (suc i) e))

-- where none of the first passes
pub none_of : {X : Type 0} (test : X → Bool) (xs : List X) (n : ℕ) → ((d : ℕ) (x : X) → d < n → slice_get xs d ≡ Some x → test x ≡ false) → length (filter test (take n xs)) ≡ 0
none_of test [] zero h = refl
none_of test [] (suc n) h = refl
none_of test (x ∷ xs) zero h = refl
none_of test (x ∷ xs) (suc n) h = by (test x) (h 0 x (omega arith) refl) (none_of test xs n (λ d y l e. h (suc d) y (omega (arith, l)) e))
  where
    by : (b : Bool) → b ≡ false → length (filter test (take n xs)) ≡ 0 → length (cond b (x ∷ filter test (take n xs)) (filter test (take n xs))) ≡ 0
    by true e ih = cc
    by false e ih = ih

-- one that passes makes the number greater
pub one_more : {X : Type 0} (test : X → Bool) (xs : List X) (i : ℕ) (x : X) → slice_get xs i ≡ Some x → test x ≡ true → length (filter test (take i xs)) < length (filter test xs)
one_more test [] i x h t = cc
one_more test (y ∷ ys) zero x h t = by (test y) (ap test (let e : y ≡ x = cc in e) ∙ t)
  where
    by : (b : Bool) → b ≡ true → 0 < length (cond b (y ∷ filter test ys) (filter test ys))
    by true e = omega arith
    by false e = cc
one_more test (y ∷ ys) (suc i) x h t = by (test y) (one_more test ys i x h t)
  where
    by : (b : Bool) → length (filter test (take i ys)) < length (filter test ys)
        → length (cond b (y ∷ filter test (take i ys)) (filter test (take i ys))) < length (cond b (y ∷ filter test ys) (filter test ys))
    by true ih = omega (arith, ih)
    by false ih = ih

-- what stands among those that are there stands in the list, after as many as are before it
pub stood : {X : Type 0} (ts : List (Option X)) (i : ℕ) (t : Option X) → slice_get (filter is_some ts) i ≡ Some t
    → (a : ℕ) × ((slice_get ts a ≡ Some t) × (i ≡ length (filter is_some (take a ts))))
stood [] i t h = cc
stood (None ∷ ts) i t h = let r = stood ts i t h in (suc r.0, (r.1.0, r.1.1))
stood (Some x ∷ ts) zero t h = (0, (h, refl))
stood (Some x ∷ ts) (suc i) t h = let r = stood ts i t h in (suc r.0, (r.1.0, omega (arith, r.1.1)))

-- ---- the carried proofs

module _ (new : List Obligation) where
  -- the proof that has taken this, if it has
  abbrev pub carried_by : Option ℕ → Option Laid
  carried_by = option_and_then (λ j. option_map proof_of (slice_get new j))

  -- each number is an obligation's
  abbrev pub AllThere : List (Option ℕ) → Type 0
  AllThere [] = Unit {0}
  AllThere (None ∷ ts) = AllThere ts
  AllThere (Some j ∷ ts) = ((o : Obligation) × (slice_get new j ≡ Some o)) × AllThere ts

  pub all_there : (ts : List (Option ℕ)) → ((i j : ℕ) → slice_get ts i ≡ Some (Some j) → (o : Obligation) × (slice_get new j ≡ Some o)) → AllThere ts
  all_there [] h = tt
  all_there (None ∷ ts) h = all_there ts (λ i j e. h (suc i) j e)
  all_there (Some j ∷ ts) h = (h 0 j refl, all_there ts (λ i k e. h (suc i) k e))

  pub carried_long : (ts : List (Option ℕ)) → AllThere ts → length (filter_map carried_by ts) ≡ length (filter is_some ts)
  carried_long [] a = refl
  carried_long (None ∷ ts) a = carried_long ts a
  carried_long (Some j ∷ ts) a = rw a.0.1 (ap suc (carried_long ts a.1))

  pub carried_at : (ts : List (Option ℕ)) (i : ℕ) (t : Option ℕ) → AllThere ts → slice_get (filter is_some ts) i ≡ Some t
      → (j : ℕ) × ((o : Obligation) × ((t ≡ Some j) × ((slice_get new j ≡ Some o) × (slice_get (filter_map carried_by ts) i ≡ Some (proof_of o)))))
  carried_at [] i t a h = cc
  carried_at (None ∷ ts) i t a h = carried_at ts i t a h
  carried_at (Some j ∷ ts) zero t a h = (j, (a.0.0, (cc, (a.0.1, rw a.0.1 refl))))
  carried_at (Some j ∷ ts) (suc i) t a h = let r = carried_at ts i t a.1 h in (r.0, (r.1.0, (r.1.1.0, (r.1.1.1.0, rw a.0.1 r.1.1.1.1))))

  pub at_carried : (ts : List (Option ℕ)) (i : ℕ) (p : Laid) → AllThere ts → slice_get (filter_map carried_by ts) i ≡ Some p
      → (j : ℕ) × ((o : Obligation) × ((slice_get (filter is_some ts) i ≡ Some (Some j)) × ((slice_get new j ≡ Some o) × (p ≡ proof_of o))))
  at_carried ts i p a h =
      let t = there (filter_map carried_by ts) (filter is_some ts) i p (carried_long ts a) h in
      let r = carried_at ts i t.0 a t.1 in
      (r.0, (r.1.0, (t.1 ∙ ap Some r.1.1.0, (r.1.1.1.0, (let e = r.1.1.1.1 in cc)))))

  pub carried_before : (ts : List (Option ℕ)) (a : ℕ) → AllThere ts → take (length (filter is_some (take a ts))) (filter_map carried_by ts) ≡ filter_map carried_by (take a ts)
  carried_before [] zero h = refl
  carried_before [] (suc a) h = refl
  carried_before (t ∷ ts) zero h = by (filter_map carried_by (t ∷ ts))
    where
      by : (l : List Laid) → take 0 l ≡ []
      by [] = refl
      by (x ∷ l) = refl
  carried_before (None ∷ ts) (suc a) h = carried_before ts a h
  carried_before (Some j ∷ ts) (suc a) h = rw h.0.1 (ap (λ l. proof_of h.0.0 ∷ l) (carried_before ts a h.1))

  -- what was taken is on this sequent
  abbrev pub carries : Sequent → Option ℕ → Bool
  carries s t = option_map_or (is_laid_on s) (carried_by t) false

  pub same_count : (s : Sequent) (ps : List Laid) (ts : List (Option ℕ)) (a : ℕ) → length ts ≡ length ps
      → ((b : ℕ) (p : Laid) (t : Option ℕ) → b < a → slice_get ps b ≡ Some p → slice_get ts b ≡ Some t → is_laid_on s p ≡ carries s t)
      → length (filter (is_laid_on s) (filter_map carried_by (take a ts))) ≡ length (filter (is_laid_on s) (take a ps))
  same_count s [] [] zero e h = refl
  same_count s [] [] (suc a) e h = refl
  same_count s [] (t ∷ ts) a e h = absurd (omega (arith, e))
  same_count s (p ∷ ps) [] a e h = absurd (omega (arith, e))
  same_count s (p ∷ ps) (t ∷ ts) zero e h = refl
  same_count s (p ∷ ps) (t ∷ ts) (suc a) e h =
      by (carried_by t) (is_laid_on s p) (h 0 p t (omega arith) refl refl) (same_count s ps ts a (omega (arith, e)) (λ b q u l. h (suc b) q u (omega (arith, l))))
    where
      by : (q : Option Laid) (b : Bool) → b ≡ option_map_or (is_laid_on s) q false → length (filter (is_laid_on s) (filter_map carried_by (take a ts))) ≡ length (filter (is_laid_on s) (take a ps))
          → length (filter (is_laid_on s) (cons_option q (filter_map carried_by (take a ts)))) ≡ length (cond b (p ∷ filter (is_laid_on s) (take a ps)) (filter (is_laid_on s) (take a ps)))
      by None true e ih = cc
      by None false e ih = ih
      by (Some q) b e ih = rw e (more (is_laid_on s q))
        where
          more : (c : Bool) → length (cond c (q ∷ filter (is_laid_on s) (filter_map carried_by (take a ts))) (filter (is_laid_on s) (filter_map carried_by (take a ts))))
              ≡ length (cond c (p ∷ filter (is_laid_on s) (take a ps)) (filter (is_laid_on s) (take a ps)))
          more true = omega (arith, ih)
          more false = ih
