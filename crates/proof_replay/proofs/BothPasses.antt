-- What two passes take, the second over what the first left, whatever fits in each.
use Rattle.std.proofs.Common.{◌≡◌, ℕ, zero, suc, ◌+◌, ◌<◌, List, [], ◌∷◌, map, length, Bool, true, false, not, ◌==◌, Option, Some, None, ◌⊎◌, inl, inr, refl, ap, sym, ◌∙◌, subst, arith, eqb-true, eq-eqb}
use Rattle.std.proofs.lemmas.Bool.{cases_Bool, or_cases, or_left, or_right, not_from_false, not-true}
use Rattle.std.specs.Option.{option_map_or}
use Rattle.std.specs.Prelude.{slice_get}
use Rattle.proof_replay.proofs.LeftLaws.{Has, Apart, has_filter, filter_has, filter_apart, numbered_has, has_numbered, numbered_apart}
use Rattle.proof_replay.proofs.TakingLaws.{pass_long, stays, source, once, no_fit}
use Rattle.proof_replay.specs.Carrying.{is_taken, numbered_from, untaken, pass}

-- ---- what is taken, and what is left

pub taken_at : (t : List (Option ℕ)) (j : ℕ) → is_taken t j ≡ true → (k : ℕ) × (slice_get t k ≡ Some (Some j))
taken_at [] j h = cc
taken_at (x ∷ t) j h = by x (or_cases (option_map_or (λ k. k == j) x false) (is_taken t j) h) (taken_at t j)
  where
    by : (x : Option ℕ) → (option_map_or (λ k. k == j) x false ≡ true) ⊎ (is_taken t j ≡ true) → (is_taken t j ≡ true → (k : ℕ) × (slice_get t k ≡ Some (Some j)))
        → (k : ℕ) × (slice_get (x ∷ t) k ≡ Some (Some j))
    by None (inl e) ih = cc
    by (Some k) (inl e) ih = (0, ap (λ n. Some (Some n)) (eqb-true k j e))
    by x (inr e) ih = let r = ih e in (suc r.0, r.1)

pub at_taken : (t : List (Option ℕ)) (k j : ℕ) → slice_get t k ≡ Some (Some j) → is_taken t j ≡ true
at_taken [] k j h = cc
at_taken (x ∷ t) zero j h = let e : x ≡ Some j = cc in or_left (option_map_or (λ k. k == j) x false) (is_taken t j) (ap (λ y. option_map_or (λ k. k == j) y false) e ∙ eq-eqb j j refl)
at_taken (x ∷ t) (suc k) j h = or_right (option_map_or (λ k. k == j) x false) (is_taken t j) (at_taken t k j h)

module _ {P : Type 0} where
  pub none_taken : (ps : List P) (j : ℕ) → is_taken (map (λ p. None) ps) j ≡ false
  none_taken [] j = refl
  none_taken (p ∷ ps) j = none_taken ps j

  pub none_at : (ps : List P) (i : ℕ) (p : P) → slice_get ps i ≡ Some p → slice_get (map {B = Option ℕ} (λ p. None) ps) i ≡ Some None
  none_at [] i p h = cc
  none_at (q ∷ ps) zero p h = refl
  none_at (q ∷ ps) (suc i) p h = none_at ps i p h

  pub nones_long : (ps : List P) → length (map {B = Option ℕ} (λ p. None) ps) ≡ length ps
  nones_long [] = refl
  nones_long (p ∷ ps) = ap suc (nones_long ps)

module _ {O : Type 0} where
  pub left_is : (t : List (Option ℕ)) (os : List O) (o : O) (j : ℕ) → Has (o, j) (untaken t os) → (slice_get os j ≡ Some o) × (is_taken t j ≡ false)
  left_is t os o j h =
      let f = filter_has (λ e. not (is_taken t e.1)) (o, j) (numbered_from 0 os) h in
      let r = numbered_has 0 os o j f.0 in
      let s : r.0 ≡ j = omega (arith, r.1.0) in
      (ap (slice_get os) (sym s) ∙ r.1.1, not-true (is_taken t j) f.1)

  pub is_left : (t : List (Option ℕ)) (os : List O) (o : O) (j : ℕ) → slice_get os j ≡ Some o → is_taken t j ≡ false → Has (o, j) (untaken t os)
  is_left t os o j h e =
      let s : 0 + j ≡ j = omega arith in
      has_filter (λ e. not (is_taken t e.1)) (o, j) (numbered_from 0 os) (subst (λ m. Has (o, m) (numbered_from 0 os)) s (has_numbered 0 os j o h)) (not_from_false (is_taken t j) e)

  pub untaken_apart : (t : List (Option ℕ)) (os : List O) → Apart (untaken t os)
  untaken_apart t os = filter_apart (λ e. not (is_taken t e.1)) (numbered_from 0 os) (numbered_apart 0 os)

pub there : {X Y : Type 0} (xs : List X) (ys : List Y) (i : ℕ) (x : X) → length xs ≡ length ys → slice_get xs i ≡ Some x → (y : Y) × (slice_get ys i ≡ Some y)
there [] ys i x e h = cc
there (z ∷ xs) [] i x e h = cc
there (z ∷ xs) (y ∷ ys) zero x e h = (y, refl)
there (z ∷ xs) (y ∷ ys) (suc i) x e h = there xs ys i x (cc) h

-- ---- both passes

module _ {P O : Type 0} (fits after : P → O → Bool) (ps : List P) (os : List O) where
  abbrev pub first_taken : List (Option ℕ)
  first_taken = pass fits ps os (map (λ p. None) ps)

  abbrev pub both_taken : List (Option ℕ)
  both_taken = pass after ps os first_taken

  pub first_long : length first_taken ≡ length ps
  first_long = pass_long fits ps (map (λ p. None) ps) (untaken (map (λ p. None) ps) os) (nones_long ps)

  pub both_long : length both_taken ≡ length ps
  both_long = pass_long after ps first_taken (untaken first_taken os) first_long

  pub first_stays : (i j : ℕ) (p : P) → slice_get ps i ≡ Some p → slice_get first_taken i ≡ Some (Some j) → slice_get both_taken i ≡ Some (Some j)
  first_stays i j p h e = stays after ps first_taken (untaken first_taken os) i p j h e

  -- what is taken in the first pass, or in the second
  abbrev pub InFirst : P → ℕ → ℕ → Type 0
  InFirst p i j = (slice_get first_taken i ≡ Some (Some j)) × ((o : O) × ((slice_get os j ≡ Some o) × (fits p o ≡ true)))

  abbrev pub InSecond : P → ℕ → ℕ → Type 0
  InSecond p i j = (slice_get first_taken i ≡ Some None) × ((o : O) × ((slice_get os j ≡ Some o) × ((is_taken first_taken j ≡ false) × (after p o ≡ true))))

  pub in_first : (i j : ℕ) (p : P) → slice_get ps i ≡ Some p → slice_get first_taken i ≡ Some (Some j) → InFirst p i j
  in_first i j p h e =
      let s = source fits ps (map (λ p. None) ps) (untaken (map (λ p. None) ps) os) i p j h (none_at ps i p h) e in
      (e, (s.0, ((left_is (map (λ p. None) ps) os s.0 j s.1.0).0, s.1.1)))

  pub in_either : (i j : ℕ) (p : P) → slice_get ps i ≡ Some p → slice_get both_taken i ≡ Some (Some j) → InFirst p i j ⊎ InSecond p i j
  in_either i j p h e = let t = there ps first_taken i p (sym first_long) h in by t.0 t.1
    where
      by : (t : Option ℕ) → slice_get first_taken i ≡ Some t → InFirst p i j ⊎ InSecond p i j
      by (Some k) f =
          let s : slice_get first_taken i ≡ Some (Some j) = (let g = first_stays i k p h f in cc) in
          inl (in_first i j p h s)
      by None f =
          let s = source after ps first_taken (untaken first_taken os) i p j h f e in
          let l = left_is first_taken os s.0 j s.1.0 in
          inr (f, (s.0, (l.0, (l.1, s.1.1))))

  pub taken_once : (i k j : ℕ) → slice_get both_taken i ≡ Some (Some j) → slice_get both_taken k ≡ Some (Some j) → i ≡ k
  taken_once i k j e f =
      let p = there both_taken ps i (Some j) both_long e in
      let q = there both_taken ps k (Some j) both_long f in
      by p.0 p.1 q.0 q.1 (in_either i j p.0 p.1 e) (in_either k j q.0 q.1 f)
    where
      by : (p : P) → slice_get ps i ≡ Some p → (q : P) → slice_get ps k ≡ Some q → InFirst p i j ⊎ InSecond p i j → InFirst q k j ⊎ InSecond q k j → i ≡ k
      by p h q g (inl a) (inl b) = once fits ps (map (λ p. None) ps) (untaken (map (λ p. None) ps) os) i k p q j (untaken_apart (map (λ p. None) ps) os) h g (none_at ps i p h) (none_at ps k q g) a.0 b.0
      by p h q g (inr a) (inr b) = once after ps first_taken (untaken first_taken os) i k p q j (untaken_apart first_taken os) h g a.0 b.0 e f
      by p h q g (inl a) (inr b) = let t = at_taken first_taken i j a.0 in let f = b.1.1.1.0 in cc
      by p h q g (inr a) (inl b) = let t = at_taken first_taken k j b.0 in let f = a.1.1.1.0 in cc

  pub taken_below : (i j : ℕ) → slice_get both_taken i ≡ Some (Some j) → (o : O) × (slice_get os j ≡ Some o)
  taken_below i j e = let p = there both_taken ps i (Some j) both_long e in by p.0 (in_either i j p.0 p.1 e)
    where
      by : (p : P) → InFirst p i j ⊎ InSecond p i j → (o : O) × (slice_get os j ≡ Some o)
      by p (inl a) = (a.1.0, a.1.1.0)
      by p (inr a) = (a.1.0, a.1.1.0)

  -- where none is taken, none is in the first pass
  pub none_first : (i : ℕ) (p : P) → slice_get ps i ≡ Some p → slice_get both_taken i ≡ Some None → slice_get first_taken i ≡ Some None
  none_first i p h e = let t = there ps first_taken i p (sym first_long) h in by t.0 t.1
    where
      by : (t : Option ℕ) → slice_get first_taken i ≡ Some t → slice_get first_taken i ≡ Some None
      by None f = f
      by (Some k) f = let g = first_stays i k p h f in cc

  -- what fits first is taken by an earlier one that it fits too
  pub no_first : (i j : ℕ) (p : P) (o : O) → slice_get ps i ≡ Some p → slice_get first_taken i ≡ Some None → slice_get os j ≡ Some o → fits p o ≡ true
      → (k : ℕ) × ((q : P) × ((k < i) × ((slice_get ps k ≡ Some q) × ((fits q o ≡ true) × (slice_get first_taken k ≡ Some (Some j))))))
  no_first i j p o h e g f =
      let none = map (λ p. None) ps in
      let r = no_fit fits ps none (untaken none os) i p o j h (none_at ps i p h) e (is_left none os o j g (none_taken ps j)) f in
      (r.0, (r.1.0, (r.1.1.0, (r.1.1.1.0, r.1.1.1.1.1))))

  -- what fits then is taken, in the second pass by an earlier one
  pub no_second : (i j : ℕ) (p : P) (o : O) → slice_get ps i ≡ Some p → slice_get both_taken i ≡ Some None → slice_get os j ≡ Some o → after p o ≡ true
      → (k : ℕ) × ((slice_get both_taken k ≡ Some (Some j)) × ((k < i) ⊎ (slice_get first_taken k ≡ Some (Some j))))
  no_second i j p o h e g f = by (cases_Bool (is_taken first_taken j))
    where
      by : (is_taken first_taken j ≡ true) ⊎ (is_taken first_taken j ≡ false) → (k : ℕ) × ((slice_get both_taken k ≡ Some (Some j)) × ((k < i) ⊎ (slice_get first_taken k ≡ Some (Some j))))
      by (inl t) =
          let k = taken_at first_taken j t in
          let q = there first_taken ps k.0 (Some j) first_long k.1 in
          (k.0, (first_stays k.0 j q.0 q.1 k.1, inr k.1))
      by (inr t) =
          let r = no_fit after ps first_taken (untaken first_taken os) i p o j h (none_first i p h e) e (is_left first_taken os o j g t) f in
          (r.0, (r.1.1.1.1.1.1, inl r.1.1.0))
