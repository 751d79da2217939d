-- Proofs that are read, with their keys alone: the first of a key takes its obligation. So carried proofs take what they took.
use Rattle.std.proofs.Common.{◌<◌, arith, ◌≡◌, ℕ, suc, List, [], ◌∷◌, map, length, Option, Some, None, ◌⊎◌, inl, inr, refl, ap, sym, ◌∙◌}
use Rattle.std.proofs.lemmas.Option.{slice_get-map}
use Rattle.std.specs.Option.{option_map}
use Rattle.std.specs.Prelude.{slice_get}
use Rattle.term_core.specs.declared.obligation.Obligation.{Obligation}
use Rattle.proof_replay.proofs.AgainLaws.{all_taken_there, kept_once}
use Rattle.proof_replay.proofs.BothPasses.{first_taken, InFirst, InSecond, there, both_long, in_first, in_either, no_second, taken_once}
use Rattle.proof_replay.proofs.CarriedLists.{same_lists, carried_long, carried_at, at_carried}
use Rattle.proof_replay.proofs.Fitting.{laid_says, key_says, says_key}
use Rattle.proof_replay.specs.Carrying.{takes, fits_by_sequent, fits_by_key}
use Rattle.proof_replay.specs.Keys.{key_of}
use Rattle.proof_replay.specs.Words.{Takes, KeysApart, IsFirstOfKey, proof_of, carried, kept, unlaid}
use Rattle.proof_replay.specs.declared.carrying.Laid.{Laid}

maps_long : {X Y : Type 0} (f : X → Y) (xs : List X) → length (map f xs) ≡ length xs
maps_long f [] = refl
maps_long f (x ∷ xs) = ap suc (maps_long f xs)

-- ---- proofs that are read, with their keys alone

module _ (ps : List Laid) (new : List Obligation) (apart : KeysApart new) where
  abbrev read : List Laid
  read = map unlaid ps

  read_at : (i : ℕ) (p : Laid) → slice_get ps i ≡ Some p → slice_get read i ≡ Some (unlaid p)
  read_at i p h = slice_get-map unlaid ps i ∙ ap (option_map unlaid) h

  there_read : (i : ℕ) (t : Option ℕ) → slice_get (takes read new) i ≡ Some t → (p : Laid) × (slice_get ps i ≡ Some p)
  there_read i t e = there (takes read new) ps i t (both_long fits_by_sequent fits_by_key read new ∙ maps_long unlaid ps) e

  -- none is taken in the first pass
  not_first : (i j : ℕ) (p : Laid) → InFirst fits_by_sequent fits_by_key read new (unlaid p) i j → ⊥
  not_first i j p a = let e = laid_says a.1.0.sequent (unlaid p) a.1.1.1 in cc

  -- what one of them takes has its key
  its_key : (i j : ℕ) (p : Laid) → slice_get ps i ≡ Some p → Takes read new i j → (o : Obligation) × ((slice_get new j ≡ Some o) × (p.key ≡ key_of o))
  its_key i j p h t = by (in_either fits_by_sequent fits_by_key read new i j (unlaid p) (read_at i p h) t)
    where
      by : InFirst fits_by_sequent fits_by_key read new (unlaid p) i j ⊎ InSecond fits_by_sequent fits_by_key read new (unlaid p) i j
          → (o : Obligation) × ((slice_get new j ≡ Some o) × (p.key ≡ key_of o))
      by (inl a) = absurd (not_first i j p a)
      by (inr a) = (a.1.0, (a.1.1.0, key_says (unlaid p) a.1.0 a.1.1.1.1))

  -- one takes the obligation of its key, or an earlier one of this key does
  its_obligation : (i j : ℕ) (p : Laid) (o : Obligation) → slice_get ps i ≡ Some p → slice_get new j ≡ Some o → p.key ≡ key_of o
      → Takes read new i j ⊎ ((k : ℕ) × ((q : Laid) × ((k < i) × ((slice_get ps k ≡ Some q) × ((q.key ≡ p.key) × Takes read new k j)))))
  its_obligation i j p o h g e =
      let t = there read (takes read new) i (unlaid p) (sym (both_long fits_by_sequent fits_by_key read new)) (read_at i p h) in
      by t.0 t.1
    where
      by : (t : Option ℕ) → slice_get (takes read new) i ≡ Some t
          → Takes read new i j ⊎ ((k : ℕ) × ((q : Laid) × ((k < i) × ((slice_get ps k ≡ Some q) × ((q.key ≡ p.key) × Takes read new k j)))))
      by (Some l) t =
          let r = its_key i l p h t in
          let same : l ≡ j = apart l j r.0 o r.1.0 g (◌∙◌ {c = key_of o} (sym r.1.1) e) in
          inl (t ∙ ap (λ n. Some (Some n)) same)
      by None t =
          let k = no_second fits_by_sequent fits_by_key read new i j (unlaid p) o (read_at i p h) t g (says_key (unlaid p) o e) in
          let q = there_read k.0 (Some j) k.1.0 in
          earlier k.0 q.0 q.1 k.1.0 k.1.1
        where
          earlier : (k : ℕ) (q : Laid) → slice_get ps k ≡ Some q → Takes read new k j → (k < i) ⊎ (slice_get (first_taken fits_by_sequent fits_by_key read new) k ≡ Some (Some j))
              → Takes read new i j ⊎ ((k : ℕ) × ((q : Laid) × ((k < i) × ((slice_get ps k ≡ Some q) × ((q.key ≡ p.key) × Takes read new k j)))))
          earlier k q f u (inl l) =
              let r = its_key k j q f u in
              let one : r.0 ≡ o = (let a = r.1.0 in cc) in
              inr (k, (q, (l, (f, (r.1.1 ∙ (ap key_of one ∙ sym e), u)))))
          earlier k q f u (inr v) = absurd (not_first k j q (in_first fits_by_sequent fits_by_key read new k j (unlaid q) (read_at k q f) v))

  -- so the first of a key takes its obligation, and no other
  pub first_takes : (i j : ℕ) (p : Laid) (o : Obligation) → slice_get ps i ≡ Some p → slice_get new j ≡ Some o → p.key ≡ key_of o → IsFirstOfKey ps i p → Takes read new i j
  first_takes i j p o h g e first = by (its_obligation i j p o h g e)
    where
      by : Takes read new i j ⊎ ((k : ℕ) × ((q : Laid) × ((k < i) × ((slice_get ps k ≡ Some q) × ((q.key ≡ p.key) × Takes read new k j))))) → Takes read new i j
      by (inl t) = t
      by (inr k) = absurd (first k.0 k.1.0 k.1.1.0 k.1.1.1.0 k.1.1.1.1.0)

  pub takes_first : (i j : ℕ) (p : Laid) (o : Obligation) → slice_get ps i ≡ Some p → slice_get new j ≡ Some o → p.key ≡ key_of o → Takes read new i j → IsFirstOfKey ps i p
  takes_first i j p o h g e t k q l f s = by (its_obligation k j q o f g (s ∙ e))
    where
      by : Takes read new k j ⊎ ((m : ℕ) × ((r : Laid) × ((m < k) × ((slice_get ps m ≡ Some r) × ((r.key ≡ q.key) × Takes read new m j))))) → ⊥
      by (inl u) = let same : k ≡ i = taken_once fits_by_sequent fits_by_key read new k i j u t in omega (arith, same, l)
      by (inr m) = let same : m.0 ≡ i = taken_once fits_by_sequent fits_by_key read new m.0 i j m.1.1.1.1.1 t in omega (arith, same, l, m.1.1.0)

-- ---- carried proofs

module _ (ps : List Laid) (new : List Obligation) (apart : KeysApart new) where
  alone : (i j : ℕ) (o : Obligation) → slice_get (kept ps new) i ≡ Some (Some j) → slice_get new j ≡ Some o → IsFirstOfKey (carried ps new) i (proof_of o)
  alone i j o e g k q l f s =
      let c = at_carried new (takes ps new) k q (all_taken_there ps new) f in
      let same : c.0 ≡ j = apart c.0 j c.1.0 o c.1.1.1.0 g (◌∙◌ {c = key_of o} (sym (ap (λ x. x.key) c.1.1.1.1)) s) in
      let one : k ≡ i = kept_once ps new k i j (c.1.1.0 ∙ ap (λ n. Some (Some n)) same) e in
      omega (arith, one, l)

  pub laid_there : takes (map unlaid (carried ps new)) new ≡ kept ps new
  laid_there =
      same_lists (takes (map unlaid (carried ps new)) new) (kept ps new)
      (both_long fits_by_sequent fits_by_key (map unlaid (carried ps new)) new ∙ (maps_long unlaid (carried ps new) ∙ carried_long new (takes ps new) (all_taken_there ps new)))
      (λ i t e. let r = carried_at new (takes ps new) i t (all_taken_there ps new) e in
      first_takes (carried ps new) new apart i r.0 (proof_of r.1.0) r.1.0 r.1.1.1.1 r.1.1.1.0 refl (alone i r.0 r.1.0 (e ∙ ap Some r.1.1.0) r.1.1.1.0) ∙ ap Some (sym r.1.1.0))
