-- What a pass takes: what was taken before stays, what is new fits and was left, nothing is taken twice, and where nothing is taken nothing fits.
use Rattle.std.proofs.Common.{◌≡◌, ℕ, zero, suc, ◌<◌, List, [], ◌∷◌, length, Bool, true, Option, Some, None, ◌⊎◌, inl, inr, refl, ap, sym, ◌∙◌, arith}
use Rattle.std.specs.Map.{lookup, remove_entry}
use Rattle.std.specs.Prelude.{slice_get}
use Rattle.proof_replay.proofs.LeftLaws.{Has, Apart, found, others_have, others_apart, gone, taken_or_left, none_fits}
use Rattle.proof_replay.specs.Carrying.{pass_over}

module _ {P O : Type 0} (fits : P → O → Bool) where
  pub pass_long : (ps : List P) (ts : List (Option ℕ)) (l : List (O × ℕ)) → length ts ≡ length ps → length (pass_over fits ps ts l) ≡ length ps
  pass_long [] ts l e = refl
  pass_long (p ∷ ps) [] l e = e
  pass_long (p ∷ ps) (Some j ∷ ts) l e = ap suc (pass_long ps ts l cc)
  pass_long (p ∷ ps) (None ∷ ts) l e = ap suc (pass_long ps ts (remove_entry (fits p) l) cc)

  -- what was taken stays
  pub stays : (ps : List P) (ts : List (Option ℕ)) (l : List (O × ℕ)) (i : ℕ) (p : P) (j : ℕ) → slice_get ps i ≡ Some p → slice_get ts i ≡ Some (Some j)
      → slice_get (pass_over fits ps ts l) i ≡ Some (Some j)
  stays [] ts l i p j h t = cc
  stays (q ∷ ps) [] l i p j h t = cc
  stays (q ∷ ps) (Some k ∷ ts) l zero p j h t = t
  stays (q ∷ ps) (None ∷ ts) l zero p j h t = cc
  stays (q ∷ ps) (Some k ∷ ts) l (suc i) p j h t = stays ps ts l i p j h t
  stays (q ∷ ps) (None ∷ ts) l (suc i) p j h t = stays ps ts (remove_entry (fits q) l) i p j h t

  -- what is new was left, and fits
  pub source : (ps : List P) (ts : List (Option ℕ)) (l : List (O × ℕ)) (i : ℕ) (p : P) (j : ℕ) → slice_get ps i ≡ Some p → slice_get ts i ≡ Some None
      → slice_get (pass_over fits ps ts l) i ≡ Some (Some j) → (o : O) × (Has (o, j) l × (fits p o ≡ true))
  source [] ts l i p j h t r = cc
  source (q ∷ ps) [] l i p j h t r = cc
  source (q ∷ ps) (Some k ∷ ts) l zero p j h t r = cc
  source (q ∷ ps) (None ∷ ts) l zero p j h t r =
      let s : q ≡ p = cc in
      let e : lookup (fits q) l ≡ Some j = cc in
      let f = found (fits q) l j e in
      (f.0, (f.1.0, ap (λ x. fits x f.0) (sym s) ∙ f.1.1))
  source (q ∷ ps) (Some k ∷ ts) l (suc i) p j h t r = source ps ts l i p j h t r
  source (q ∷ ps) (None ∷ ts) l (suc i) p j h t r =
      let f = source ps ts (remove_entry (fits q) l) i p j h t r in
      (f.0, (others_have (fits q) l (f.0, j) f.1.0, f.1.1))

  -- nothing new is taken twice
  pub once : (ps : List P) (ts : List (Option ℕ)) (l : List (O × ℕ)) (i k : ℕ) (p q : P) (j : ℕ) → Apart l
      → slice_get ps i ≡ Some p → slice_get ps k ≡ Some q → slice_get ts i ≡ Some None → slice_get ts k ≡ Some None
      → slice_get (pass_over fits ps ts l) i ≡ Some (Some j) → slice_get (pass_over fits ps ts l) k ≡ Some (Some j) → i ≡ k
  once [] ts l i k p q j a h g t u r s = cc
  once (x ∷ ps) [] l i k p q j a h g t u r s = cc
  once (x ∷ ps) (Some y ∷ ts) l zero k p q j a h g t u r s = cc
  once (x ∷ ps) (Some y ∷ ts) l (suc i) zero p q j a h g t u r s = cc
  once (x ∷ ps) (Some y ∷ ts) l (suc i) (suc k) p q j a h g t u r s = ap suc (once ps ts l i k p q j a h g t u r s)
  once (x ∷ ps) (None ∷ ts) l zero zero p q j a h g t u r s = refl
  once (x ∷ ps) (None ∷ ts) l zero (suc k) p q j a h g t u r s =
      let e : lookup (fits x) l ≡ Some j = cc in
      let f = source ps ts (remove_entry (fits x) l) k q j g u s in
      absurd (gone (fits x) l j (f.0, j) a e f.1.0 refl)
  once (x ∷ ps) (None ∷ ts) l (suc i) zero p q j a h g t u r s =
      let e : lookup (fits x) l ≡ Some j = cc in
      let f = source ps ts (remove_entry (fits x) l) i p j h t r in
      absurd (gone (fits x) l j (f.0, j) a e f.1.0 refl)
  once (x ∷ ps) (None ∷ ts) l (suc i) (suc k) p q j a h g t u r s =
      ap suc (once ps ts (remove_entry (fits x) l) i k p q j (others_apart (fits x) l a) h g t u r s)

  -- a proof before the one of number i that had none takes what has this number, which fits it
  abbrev pub TakenEarlier : List P → List (Option ℕ) → List (O × ℕ) → ℕ → O → ℕ → Type 0
  TakenEarlier ps ts l i o j = (k : ℕ) × ((q : P) × ((k < i) × ((slice_get ps k ≡ Some q) × ((slice_get ts k ≡ Some None)
      × ((fits q o ≡ true) × (slice_get (pass_over fits ps ts l) k ≡ Some (Some j)))))))

  -- where none is taken, what fits and was left is taken earlier
  pub no_fit : (ps : List P) (ts : List (Option ℕ)) (l : List (O × ℕ)) (i : ℕ) (p : P) (o : O) (j : ℕ) → slice_get ps i ≡ Some p → slice_get ts i ≡ Some None
      → slice_get (pass_over fits ps ts l) i ≡ Some None → Has (o, j) l → fits p o ≡ true → TakenEarlier ps ts l i o j
  no_fit [] ts l i p o j h t r m f = cc
  no_fit (x ∷ ps) [] l i p o j h t r m f = cc
  no_fit (x ∷ ps) (Some y ∷ ts) l zero p o j h t r m f = cc
  no_fit (x ∷ ps) (Some y ∷ ts) l (suc i) p o j h t r m f =
      let e = no_fit ps ts l i p o j h t r m f in (suc e.0, (e.1.0, (omega (arith, e.1.1.0), e.1.1.1)))
  no_fit (x ∷ ps) (None ∷ ts) l zero p o j h t r m f =
      let e : lookup (fits x) l ≡ None = cc in
      let s : x ≡ p = cc in
      absurd (none_fits (fits x) l o j e m (ap (λ y. fits y o) s ∙ f))
  no_fit (x ∷ ps) (None ∷ ts) l (suc i) p o j h t r m f = by (taken_or_left (fits x) l o j m) (no_fit ps ts (remove_entry (fits x) l) i p o j h t r)
    where
      by : ((lookup (fits x) l ≡ Some j) × (fits x o ≡ true)) ⊎ Has (o, j) (remove_entry (fits x) l)
          → (Has (o, j) (remove_entry (fits x) l) → fits p o ≡ true → TakenEarlier ps ts (remove_entry (fits x) l) i o j) → TakenEarlier (x ∷ ps) (None ∷ ts) l (suc i) o j
      by (inl d) ih = (0, (x, (omega arith, (refl, (refl, (d.1, ap Some d.0))))))
      by (inr d) ih = let e = ih d f in (suc e.0, (e.1.0, (omega (arith, e.1.1.0), e.1.1.1)))
