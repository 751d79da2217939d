-- Carrying again to the same obligations.
use Rattle.std.proofs.Common.{◌≡◌, ℕ, zero, suc, ◌<◌, ◌≤◌, List, [], ◌∷◌, filter, length, take, Bool, true, false, cond, ◌==◌, Option, Some, None, ◌⊎◌, inl, inr, refl, ap, sym, ◌∙◌, arith, eqb, eqb-true, eq-eqb}
use Rattle.std.proofs.lemmas.Bool.{cases_Bool, or_cases, or_left, or_right, or_parts}
use Rattle.std.proofs.lemmas.Map.Made.{length-le_from_is_member}
use Rattle.std.specs.Cmp.{nat_eq_equiv}
use Rattle.std.specs.List.{filter_map, cons_option, list_any, AllByRecursion, IsDistinct}
use Rattle.std.specs.Option.{option_map, option_map_or}
use Rattle.std.specs.Prelude.{slice_get, is_some}
use Rattle.term_core.specs.declared.obligation.Obligation.{Obligation}
use Rattle.term_core.specs.declared.sequent.Sequent.{Sequent}
use Rattle.proof_replay.proofs.BothPasses.{there, first_stays, in_first, none_first, no_first, taken_once, taken_below, both_long, taken_at}
use Rattle.proof_replay.proofs.CarriedLists.{same_lists, all_some, none_of, one_more, stood, AllThere, all_there, carried_by, carried_long, carried_at, at_carried, carried_before, carries, same_count}
use Rattle.proof_replay.proofs.Fitting.{laid_says, says_laid}
use Rattle.proof_replay.proofs.SequentPairs.{firsts, standing, first_pairs, standing_at, pairs_taken, taken_pairs}
use Rattle.proof_replay.specs.Carrying.{is_taken, is_laid_on, takes, fits_by_sequent, fits_by_key}
use Rattle.proof_replay.specs.Sequents.{same_sequent, sequent_decides}
use Rattle.proof_replay.specs.Words.{Takes, IsOrphan, laid_on, having, SequentsApart, proof_of, carried, kept, InOrder, AllBySequent}
use Rattle.proof_replay.specs.declared.carrying.Laid.{Laid}

module _ (ps : List Laid) (new : List Obligation) where
  pub all_taken_there : AllThere new (takes ps new)
  all_taken_there = all_there new (takes ps new) (taken_below fits_by_sequent fits_by_key ps new)

  -- what is kept is kept once
  pub kept_once : (i k j : ℕ) → slice_get (kept ps new) i ≡ Some (Some j) → slice_get (kept ps new) k ≡ Some (Some j) → i ≡ k
  kept_once i k j e f =
      let u = stood (takes ps new) i (Some j) e in
      let v = stood (takes ps new) k (Some j) f in
      let one : u.0 ≡ v.0 = taken_once fits_by_sequent fits_by_key ps new u.0 v.0 j u.1.0 v.1.0 in
      u.1.1 ∙ (ap (λ n. length (filter is_some (take n (takes ps new)))) one ∙ sym v.1.1)

  -- ---- exactly where they stand in order

  pub same_in_order : InOrder ps new → takes (carried ps new) new ≡ kept ps new
  same_in_order order =
      same_lists (takes (carried ps new) new) (kept ps new)
      (both_long fits_by_sequent fits_by_key (carried ps new) new ∙ carried_long new (takes ps new) all_taken_there)
      (λ i t e. let r = carried_at new (takes ps new) i t all_taken_there e in
      pairs_taken (carried ps new) new i r.0 (proof_of r.1.0) r.1.0 r.1.1.1.1 r.1.1.1.0 refl (order i r.0 r.1.0 (e ∙ ap Some r.1.1.0) r.1.1.1.0)
      ∙ ap Some (sym r.1.1.0))

  pub in_order_same : takes (carried ps new) new ≡ kept ps new → InOrder ps new
  in_order_same same i j o e g =
      let r = carried_at new (takes ps new) i (Some j) all_taken_there e in
      let p : slice_get (carried ps new) i ≡ Some (proof_of o) = (let h = r.1.1.1.1 in let k = r.1.1.1.0 in let l = r.1.1.0 in
      let m : r.0 ≡ j = cc in let n : slice_get new j ≡ Some r.1.0 = ap (slice_get new) (sym m) ∙ k in let q : r.1.0 ≡ o = cc in h ∙ ap (λ x. Some (proof_of x)) q) in
      taken_pairs (carried ps new) new i j (proof_of o) o p g refl (ap (λ ts. slice_get ts i) same ∙ e)

  -- ---- where each was carried by its sequent

  pub by_sequent_in_order : AllBySequent ps new → InOrder ps new
  by_sequent_in_order all i j o e g =
      let u = stood (takes ps new) i (Some j) e in
      let q = there (takes ps new) ps u.0 (Some j) (both_long fits_by_sequent fits_by_key ps new) u.1.0 in
      let count = same_count new o.sequent ps (takes ps new) u.0 (both_long fits_by_sequent fits_by_key ps new)
      (λ b p t l h k. before b p t u.0 l h k u.1.0 (cases_Bool (is_laid_on o.sequent p))) in
      ap (λ n. laid_on o.sequent (take n (carried ps new))) u.1.1
      ∙ (ap (λ l. length (filter (is_laid_on o.sequent) l)) (carried_before new (takes ps new) u.0 all_taken_there)
      ∙ (count ∙ taken_pairs ps new u.0 j q.0 o q.1 g (all u.0 j q.0 o q.1 g u.1.0) u.1.0))
    where
      carries_it : (p : Laid) (k b : ℕ) → slice_get ps b ≡ Some p → Takes ps new b k → (c : Bool) → is_laid_on o.sequent p ≡ c → c ≡ carries new o.sequent (Some k)
      carries_it p k b h t c d =
          let r = taken_below fits_by_sequent fits_by_key ps new b k t in
          let s : p.sequent ≡ Some r.0.sequent = all b k p r.0 h r.1 t in
          rw r.1 (sym d ∙ ap (λ q. option_map_or (λ t. same_sequent t o.sequent) q false) s)

      before : (b : ℕ) (p : Laid) (t : Option ℕ) (a : ℕ) → b < a → slice_get ps b ≡ Some p → slice_get (takes ps new) b ≡ Some t → Takes ps new a j
          → (is_laid_on o.sequent p ≡ true) ⊎ (is_laid_on o.sequent p ≡ false) → is_laid_on o.sequent p ≡ carries new o.sequent t
      before b p (Some k) a l h t ta (inl d) = d ∙ carries_it p k b h t true d
      before b p (Some k) a l h t ta (inr d) = d ∙ carries_it p k b h t false d
      before b p None a l h t ta (inr d) = d
      before b p None a l h t ta (inl d) =
          let r = no_first fits_by_sequent fits_by_key ps new b j p o h (none_first fits_by_sequent fits_by_key ps new b p h t) g d in
          let s = first_stays fits_by_sequent fits_by_key ps new r.0 j r.1.0 r.1.1.1.0 r.1.1.1.1.1 in
          let same : r.0 ≡ a = taken_once fits_by_sequent fits_by_key ps new r.0 a j s ta in
          absurd (omega (arith, r.1.1.0, l, same))

  -- ---- where no two obligations have one sequent

  pub apart_in_order : SequentsApart new → InOrder ps new
  apart_in_order apart i j o e g = no_proofs ∙ sym no_obligations
    where
      unlike : (s t : Sequent) (b : Bool) → same_sequent s t ≡ b → (s ≡ t → ⊥) → b ≡ false
      unlike s t true d h = absurd (h ((sequent_decides s t).0 d))
      unlike s t false d h = refl

      no_proofs : laid_on o.sequent (take i (carried ps new)) ≡ 0
      no_proofs = none_of (is_laid_on o.sequent) (carried ps new) i (λ d p l h.
          let r = at_carried new (takes ps new) d p all_taken_there h in
          ap (is_laid_on o.sequent) r.1.1.1.1 ∙ unlike r.1.0.sequent o.sequent _ refl (λ s.
          let same : r.0 ≡ j = apart r.0 j r.1.0 o r.1.1.1.0 g s in
          let one : d ≡ i = kept_once d i j (r.1.1.0 ∙ ap (λ n. Some (Some n)) same) e in
          omega (arith, l, one)))

      no_obligations : having o.sequent (take j new) ≡ 0
      no_obligations = none_of (λ q. same_sequent o.sequent q.sequent) new j (λ d q l h. unlike o.sequent q.sequent _ refl (λ s.
          let same : d ≡ j = apart d j q o h g (sym s) in omega (arith, l, same)))

-- ---- from the second time on

any_at : (xs : List ℕ) (c q : ℕ) → slice_get xs c ≡ Some q → list_any (eqb q) xs ≡ true
any_at [] c q h = cc
any_at (x ∷ xs) zero q h = or_left (eqb q x) (list_any (eqb q) xs) (eq-eqb q x (let e : x ≡ q = cc in sym e))
any_at (x ∷ xs) (suc c) q h = or_right (eqb q x) (list_any (eqb q) xs) (any_at xs c q h)

inside : (xs : List ℕ) (n : ℕ) → n < length xs → (x : ℕ) × (slice_get xs n ≡ Some x)
inside [] n l = absurd (omega arith)
inside (x ∷ xs) zero l = (x, refl)
inside (x ∷ xs) (suc n) l = inside xs n (omega arith)

-- the numbers taken that are on a sequent
abbrev taken_on : List Obligation → Sequent → List (Option ℕ) → List ℕ
taken_on new s [] = []
taken_on new s (None ∷ ts) = taken_on new s ts
taken_on new s (Some j ∷ ts) = cond (carries new s (Some j)) (j ∷ taken_on new s ts) (taken_on new s ts)

-- no number twice
abbrev OnceEach : List (Option ℕ) → Type 0
OnceEach [] = Unit {0}
OnceEach (None ∷ ts) = OnceEach ts
OnceEach (Some j ∷ ts) = (is_taken ts j ≡ false) × OnceEach ts

once_each : (ts : List (Option ℕ)) → ((i k j : ℕ) → slice_get ts i ≡ Some (Some j) → slice_get ts k ≡ Some (Some j) → i ≡ k) → OnceEach ts
once_each [] h = tt
once_each (None ∷ ts) h = once_each ts (λ i k j e f. omega (arith, h (suc i) (suc k) j e f))
once_each (Some j ∷ ts) h = (by (cases_Bool (is_taken ts j)), once_each ts (λ i k l e f. omega (arith, h (suc i) (suc k) l e f)))
  where
    by : (is_taken ts j ≡ true) ⊎ (is_taken ts j ≡ false) → is_taken ts j ≡ false
    by (inl t) = let k = taken_at ts j t in absurd (omega (arith, h 0 (suc k.0) j refl k.1))
    by (inr f) = f

module _ (new : List Obligation) (s : Sequent) where
  on_long : (ts : List (Option ℕ)) → length (filter (is_laid_on s) (filter_map (carried_by new) ts)) ≡ length (taken_on new s ts)
  on_long [] = refl
  on_long (None ∷ ts) = on_long ts
  on_long (Some j ∷ ts) = by (carried_by new (Some j)) (on_long ts)
    where
      by : (q : Option Laid) → length (filter (is_laid_on s) (filter_map (carried_by new) ts)) ≡ length (taken_on new s ts)
          → length (filter (is_laid_on s) (cons_option q (filter_map (carried_by new) ts))) ≡ length (cond (option_map_or (is_laid_on s) q false) (j ∷ taken_on new s ts) (taken_on new s ts))
      by None ih = ih
      by (Some q) ih = more (is_laid_on s q)
        where
          more : (b : Bool) → length (cond b (q ∷ filter (is_laid_on s) (filter_map (carried_by new) ts)) (filter (is_laid_on s) (filter_map (carried_by new) ts)))
              ≡ length (cond b (j ∷ taken_on new s ts) (taken_on new s ts))
          more true = ap suc ih
          more false = ih

  on_apart : (ts : List (Option ℕ)) (j : ℕ) → is_taken ts j ≡ false → AllByRecursion (λ k. eqb j k ≡ false) (taken_on new s ts)
  on_apart [] j h = tt
  on_apart (None ∷ ts) j h = on_apart ts j h
  on_apart (Some k ∷ ts) j h = by (carries new s (Some k)) (or_parts (k == j) (is_taken ts j) h) (on_apart ts j)
    where
      by : (b : Bool) → ((k == j) ≡ false) × (is_taken ts j ≡ false) → (is_taken ts j ≡ false → AllByRecursion (λ k. eqb j k ≡ false) (taken_on new s ts))
          → AllByRecursion (λ k. eqb j k ≡ false) (cond b (k ∷ taken_on new s ts) (taken_on new s ts))
      by true r ih = (nat_eq_equiv.symm j k ∙ r.0, ih r.1)
      by false r ih = ih r.1

  on_distinct : (ts : List (Option ℕ)) → OnceEach ts → IsDistinct eqb (taken_on new s ts)
  unfolding IsDistinct
  on_distinct [] h = tt
  on_distinct (None ∷ ts) h = on_distinct ts h
  on_distinct (Some j ∷ ts) h = by (carries new s (Some j)) (on_apart ts j h.0) (on_distinct ts h.1)
    where
      by : (b : Bool) → AllByRecursion (λ k. eqb j k ≡ false) (taken_on new s ts) → IsDistinct eqb (taken_on new s ts) → IsDistinct eqb (cond b (j ∷ taken_on new s ts) (taken_on new s ts))
      by true a d = (a, d)
      by false a d = d

  on_there : (ts : List (Option ℕ)) (q : ℕ) → list_any (eqb q) (taken_on new s ts) ≡ true → carries new s (Some q) ≡ true
  on_there [] q h = cc
  on_there (None ∷ ts) q h = on_there ts q h
  on_there (Some j ∷ ts) q h = by (carries new s (Some j)) refl h (on_there ts q)
    where
      by : (b : Bool) → carries new s (Some j) ≡ b → list_any (eqb q) (cond b (j ∷ taken_on new s ts) (taken_on new s ts)) ≡ true
          → (list_any (eqb q) (taken_on new s ts) ≡ true → carries new s (Some q) ≡ true) → carries new s (Some q) ≡ true
      by true e h ih = or (or_cases (eqb q j) (list_any (eqb q) (taken_on new s ts)) h)
        where
          or : (eqb q j ≡ true) ⊎ (list_any (eqb q) (taken_on new s ts) ≡ true) → carries new s (Some q) ≡ true
          or (inl t) = ap (λ n. carries new s (Some n)) (eqb-true q j t) ∙ e
          or (inr t) = ih t
      by false e h ih = ih h

  -- what carries the sequent is one of those that have it
  has_standing : (q : ℕ) → carries new s (Some q) ≡ true → list_any (eqb q) (standing s new) ≡ true
  has_standing q h = by (slice_get new q) refl h
    where
      by : (o : Option Obligation) → slice_get new q ≡ o → option_map_or (is_laid_on s) (option_map proof_of o) false ≡ true → list_any (eqb q) (standing s new) ≡ true
      by None e h = cc
      by (Some o) e h =
          let same : o.sequent ≡ s = (sequent_decides o.sequent s).0 h in
          any_at (standing s new) _ q (ap (λ t. slice_get (standing t new) (having o.sequent (take q new))) (sym same) ∙ standing_at [] new q o e)

module _ (ps : List Laid) (new : List Obligation) where
  enough : (s : Sequent) → laid_on s (carried ps new) ≤ length (standing s new)
  enough s =
      let once = once_each (takes ps new) (taken_once fits_by_sequent fits_by_key ps new) in
      let few = length-le_from_is_member nat_eq_equiv (taken_on new s (takes ps new)) (standing s new) (on_distinct new s (takes ps new) once) (λ q h. has_standing new s q (on_there new s (takes ps new) q h)) in
      omega (arith, on_long new s (takes ps new), few)

  -- each carried proof is carried again by its sequent
  pub again_first : (i : ℕ) (p : Laid) → slice_get (carried ps new) i ≡ Some p → (j : ℕ) × (slice_get (firsts (carried ps new) new) i ≡ Some (Some j))
  again_first i p h =
      let r = at_carried new (takes ps new) i p (all_taken_there ps new) h in
      let e : p.sequent ≡ Some r.1.0.sequent = ap (λ q. q.sequent) r.1.1.1.1 in
      let less = one_more (is_laid_on r.1.0.sequent) (carried ps new) i p h (says_laid r.1.0.sequent p e) in
      let n : laid_on r.1.0.sequent (take i (carried ps new)) < length (standing r.1.0.sequent new) = omega (arith, less, enough r.1.0.sequent) in
      let x = inside (standing r.1.0.sequent new) (laid_on r.1.0.sequent (take i (carried ps new))) n in
      (x.0, first_pairs (carried ps new) new i p r.1.0.sequent h e ∙ ap Some x.1)

  pub again_by_sequent : AllBySequent (carried ps new) new
  again_by_sequent i j p o h g t =
      let f = again_first i p h in
      let same : f.0 ≡ j = (let u = first_stays fits_by_sequent fits_by_key (carried ps new) new i f.0 p h f.1 in cc) in
      let w = in_first fits_by_sequent fits_by_key (carried ps new) new i f.0 p h f.1 in
      let one : w.1.0 ≡ o = (let a = w.1.1.0 in let b : slice_get new f.0 ≡ Some o = ap (slice_get new) same ∙ g in cc) in
      laid_says w.1.0.sequent p w.1.1.1 ∙ ap (λ q. Some q.sequent) one

  pub again_no_orphans : (i : ℕ) → IsOrphan (carried ps new) new i → ⊥
  again_no_orphans i e =
      let p = there (takes (carried ps new) new) (carried ps new) i None (both_long fits_by_sequent fits_by_key (carried ps new) new) e in
      let f = again_first i p.0 p.1 in
      let n = none_first fits_by_sequent fits_by_key (carried ps new) new i p.0 p.1 e in
      cc

module _ (ps : List Laid) (new : List Obligation) where
  pub settled : takes (carried (carried ps new) new) new ≡ takes (carried ps new) new
  settled =
      same_in_order (carried ps new) new (by_sequent_in_order (carried ps new) new (again_by_sequent ps new))
      ∙ all_some (takes (carried ps new) new) (again_no_orphans ps new)
