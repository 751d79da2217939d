-- The first pass: of the proofs that were laid on one sequent, and of the obligations that have it, each proof takes the obligation that stands as it does.
use Rattle.std.proofs.Common.{◌≡◌, ℕ, List, [], ◌∷◌, map, filter, length, take, Bool, true, false, not, cond, Option, Some, None, ◌⊎◌, inl, inr, refl, ap, sym, ◌∙◌, arith}
use Rattle.std.proofs.lemmas.List.{take-map}
use Rattle.std.proofs.lemmas.Option.{slice_get-map}
use Rattle.std.specs.Option.{option_map}
use Rattle.std.specs.Prelude.{slice_get}
use Rattle.term_core.specs.declared.obligation.Obligation.{Obligation}
use Rattle.term_core.specs.declared.sequent.Sequent.{Sequent}
use Rattle.proof_replay.proofs.BothPasses.{first_taken, InFirst, InSecond, none_taken, at_taken, first_stays, in_either, no_first}
use Rattle.proof_replay.proofs.Fitting.{says_laid}
use Rattle.proof_replay.proofs.Pairing.{pairs, stands, stands_once}
use Rattle.proof_replay.proofs.PassLaws.{pass-map}
use Rattle.proof_replay.specs.Carrying.{is_taken, numbered_from, pass_over, fits_by_sequent, fits_by_key}
use Rattle.proof_replay.specs.Queues.{fits_label, numbers_of}
use Rattle.proof_replay.specs.Sequents.{same_sequent, sequent_equality}
use Rattle.proof_replay.specs.Words.{Takes, laid_on, having}
use Rattle.proof_replay.specs.declared.carrying.Laid.{Laid}

nones_map : {P Q : Type 0} (f : P → Q) (ps : List P) → map {B = Option ℕ} (λ q. None) (map f ps) ≡ map (λ p. None) ps
nones_map f [] = refl
nones_map f (p ∷ ps) = ap (λ l. None ∷ l) (nones_map f ps)

count_map : {A B : Type 0} (test : B → Bool) (f : A → B) (xs : List A) → length (filter test (map f xs)) ≡ length (filter (λ x. test (f x)) xs)
count_map test f [] = refl
count_map test f (x ∷ xs) = by (test (f x)) (count_map test f xs)
  where
    by : (b : Bool) → length (filter test (map f xs)) ≡ length (filter (λ x. test (f x)) xs)
        → length (cond b (f x ∷ filter test (map f xs)) (filter test (map f xs))) ≡ length (cond b (x ∷ filter (λ x. test (f x)) xs) (filter (λ x. test (f x)) xs))
    by true ih = omega (arith, ih)
    by false ih = ih

all_left : {P O : Type 0} (ps : List P) (l : List (O × ℕ)) → filter (λ e. not (is_taken (map (λ p. None) ps) e.1)) l ≡ l
all_left ps [] = refl
all_left ps (e ∷ l) = by (is_taken (map (λ p. None) ps) e.1) (none_taken ps e.1) (all_left ps l)
  where
    by : (b : Bool) → b ≡ false → filter (λ e. not (is_taken (map (λ p. None) ps) e.1)) l ≡ l
        → cond (not b) (e ∷ filter (λ e. not (is_taken (map (λ p. None) ps) e.1)) l) (filter (λ e. not (is_taken (map (λ p. None) ps) e.1)) l) ≡ e ∷ l
    by true f ih = cc
    by false f ih = ap (λ m. e ∷ m) ih

-- the numbers of the obligations with a sequent
abbrev pub standing : Sequent → List Obligation → List ℕ
standing s new = numbers_of same_sequent s (numbered_from 0 (map (λ o. o.sequent) new))

module _ (ps : List Laid) (new : List Obligation) where
  abbrev pub firsts : List (Option ℕ)
  firsts = first_taken fits_by_sequent fits_by_key ps new

  to_labels : firsts ≡ pass_over (fits_label same_sequent) (map (λ p. p.sequent) ps) (map (λ w. None) (map (λ (p : Laid). p.sequent) ps)) (numbered_from 0 (map (λ o. o.sequent) new))
  to_labels =
      sym (pass-map (λ (p : Laid). p.sequent) (λ (o : Obligation). o.sequent) (fits_label same_sequent) ps new (map (λ p. None) ps))
      ∙ (ap (pass_over (fits_label same_sequent) (map (λ p. p.sequent) ps) (map (λ p. None) ps)) (all_left ps (numbered_from 0 (map (λ o. o.sequent) new)))
      ∙ ap (λ ts. pass_over (fits_label same_sequent) (map (λ p. p.sequent) ps) ts (numbered_from 0 (map (λ o. o.sequent) new))) (sym (nones_map (λ (p : Laid). p.sequent) ps)))

  pub first_pairs : (i : ℕ) (p : Laid) (s : Sequent) → slice_get ps i ≡ Some p → p.sequent ≡ Some s
      → slice_get firsts i ≡ Some (slice_get (standing s new) (laid_on s (take i ps)))
  first_pairs i p s h e =
      ap (λ ts. slice_get ts i) to_labels
      ∙ (pairs sequent_equality s (map (λ p. p.sequent) ps) (numbered_from 0 (map (λ o. o.sequent) new)) i p.sequent
      (slice_get-map (λ (p : Laid). p.sequent) ps i ∙ ap (option_map (λ p. p.sequent)) h) (says_laid s p e)
      ∙ ap (λ n. Some (slice_get (standing s new) n))
      (ap (λ l. length (filter (λ w. fits_label same_sequent w s) l)) (take-map (λ (p : Laid). p.sequent) i ps) ∙ count_map (λ w. fits_label same_sequent w s) (λ (p : Laid). p.sequent) (take i ps)))

  pub standing_at : (j : ℕ) (o : Obligation) → slice_get new j ≡ Some o → slice_get (standing o.sequent new) (having o.sequent (take j new)) ≡ Some j
  standing_at j o h =
      ap (slice_get (standing o.sequent new))
      (sym (ap (λ l. length (filter (same_sequent o.sequent) l)) (take-map (λ (o : Obligation). o.sequent) j new) ∙ count_map (same_sequent o.sequent) (λ (o : Obligation). o.sequent) (take j new)))
      ∙ (stands same_sequent o.sequent 0 (map (λ o. o.sequent) new) j o.sequent (slice_get-map (λ (o : Obligation). o.sequent) new j ∙ ap (option_map (λ o. o.sequent)) h) (sequent_equality.refl o.sequent)
      ∙ ap Some (omega arith))

  -- exactly the one that stands as it does
  pub pairs_taken : (i j : ℕ) (p : Laid) (o : Obligation) → slice_get ps i ≡ Some p → slice_get new j ≡ Some o → p.sequent ≡ Some o.sequent
      → laid_on o.sequent (take i ps) ≡ having o.sequent (take j new) → Takes ps new i j
  pairs_taken i j p o h g e n =
      first_stays fits_by_sequent fits_by_key ps new i j p h
      (first_pairs i p o.sequent h e ∙ ap Some (ap (slice_get (standing o.sequent new)) n ∙ standing_at j o g))

  pub taken_pairs : (i j : ℕ) (p : Laid) (o : Obligation) → slice_get ps i ≡ Some p → slice_get new j ≡ Some o → p.sequent ≡ Some o.sequent
      → Takes ps new i j → laid_on o.sequent (take i ps) ≡ having o.sequent (take j new)
  taken_pairs i j p o h g e t = by (in_either fits_by_sequent fits_by_key ps new i j p h t)
    where
      by : InFirst fits_by_sequent fits_by_key ps new p i j ⊎ InSecond fits_by_sequent fits_by_key ps new p i j → laid_on o.sequent (take i ps) ≡ having o.sequent (take j new)
      by (inl a) =
          let f : slice_get (standing o.sequent new) (laid_on o.sequent (take i ps)) ≡ Some j = (let q = first_pairs i p o.sequent h e in let r = a.0 in cc) in
          stands_once same_sequent o.sequent 0 (map (λ o. o.sequent) new) _ _ j f (standing_at j o g)
      by (inr a) =
          let r = no_first fits_by_sequent fits_by_key ps new i j p o h a.0 g (says_laid o.sequent p e) in
          let t : is_taken firsts j ≡ true = at_taken firsts r.0 j r.1.1.1.1.1 in
          let f = a.1.1.1.0 in cc
