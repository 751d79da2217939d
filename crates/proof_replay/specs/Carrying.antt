-- Which obligation each proof takes, once the obligations of its unit, or of its lemma, have changed.
use Rattle.std.specs.Prelude.{ℕ, ◌+◌, List, [], ◌∷◌, map, filter, bytes_eq, Bool, false, not, ◌==◌, Option, Some, None}
use Rattle.std.specs.List.{list_any}
use Rattle.std.specs.Map.{lookup, remove_entry}
use Rattle.std.specs.Option.{option_map_or}
use Rattle.term_core.specs.declared.obligation.Obligation.{Obligation}
use Rattle.term_core.specs.declared.sequent.Sequent.{Sequent}
use Rattle.proof_replay.specs.declared.carrying.Laid.{Laid}
use Rattle.proof_replay.specs.Keys.{key_of}
use Rattle.proof_replay.specs.Sequents.{same_sequent}

-- ---- what a proof looks for

-- the proof was laid on this sequent
abbrev pub is_laid_on : Sequent → Laid → Bool
is_laid_on s proof = option_map_or (λ t. same_sequent t s) proof.sequent false

-- the obligation has the sequent that the proof was laid on
abbrev pub fits_by_sequent : Laid → Obligation → Bool
fits_by_sequent proof obligation = is_laid_on obligation.sequent proof

-- the obligation has the proof's key
abbrev pub fits_by_key : Laid → Obligation → Bool
fits_by_key proof obligation = bytes_eq proof.key (key_of obligation)

-- ---- one pass

-- each with its number, from n
abbrev pub numbered_from : {O : Type 0} → ℕ → List O → List (O × ℕ)
numbered_from n [] = []
numbered_from n (o ∷ os) = (o, n) ∷ numbered_from (n + 1) os

-- the number is one of those that were taken
abbrev pub is_taken : List (Option ℕ) → ℕ → Bool
is_taken taken j = list_any (λ t. option_map_or (λ k. k == j) t false) taken

-- what none has taken, in order, each with its number
abbrev pub untaken : {O : Type 0} → List (Option ℕ) → List O → List (O × ℕ)
untaken taken new = filter (λ e. not (is_taken taken e.1)) (numbered_from 0 new)

-- In order, each proof that has taken none takes the first of what is left that fits it.
abbrev pub pass_over : {P O : Type 0} → (P → O → Bool) → List P → List (Option ℕ) → List (O × ℕ) → List (Option ℕ)
pass_over fits (p ∷ ps) (Some j ∷ taken) left = Some j ∷ pass_over fits ps taken left
pass_over fits (p ∷ ps) (None ∷ taken) left = lookup (fits p) left ∷ pass_over fits ps taken (remove_entry (fits p) left)
pass_over fits _ _ left = []

abbrev pub pass : {P O : Type 0} → (P → O → Bool) → List P → List O → List (Option ℕ) → List (Option ℕ)
pass fits proofs new taken = pass_over fits proofs taken (untaken taken new)

-- ---- both

-- First each proof, in document order, takes the first untaken obligation with the sequent that it was laid on. Then each that
-- has taken none, in document order, takes the obligation of its key if that is untaken. The others take none.
abbrev pub takes : List Laid → List Obligation → List (Option ℕ)
takes proofs new = pass fits_by_key proofs new (pass fits_by_sequent proofs new (map (λ p. None) proofs))
