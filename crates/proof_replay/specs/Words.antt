-- Words for what holds of carrying.
use Rattle.std.specs.Prelude.{◌≡◌, ◌<◌, ℕ, List, filter, length, take, slice_get, is_some, Option, Some, None}
use Rattle.std.specs.List.{filter_map}
use Rattle.std.specs.Option.{option_map, option_and_then}
use Rattle.term_core.specs.declared.obligation.Obligation.{Obligation}
use Rattle.term_core.specs.declared.sequent.Sequent.{Sequent}
use Rattle.proof_replay.specs.Carrying.{is_laid_on, takes}
use Rattle.proof_replay.specs.Keys.{key_of}
use Rattle.proof_replay.specs.Sequents.{same_sequent}
use Rattle.proof_replay.specs.declared.carrying.Laid.{Laid}

-- the proof of number i takes the obligation of number j; it takes none
abbrev pub Takes : List Laid → List Obligation → ℕ → ℕ → Type 0
Takes proofs new i j = slice_get (takes proofs new) i ≡ Some (Some j)

abbrev pub IsOrphan : List Laid → List Obligation → ℕ → Type 0
IsOrphan proofs new i = slice_get (takes proofs new) i ≡ Some None

-- some proof takes the obligation of number j
abbrev pub IsTaken : List Laid → List Obligation → ℕ → Type 0
IsTaken proofs new j = (k : ℕ) × Takes proofs new k j

-- one before the proof of number i takes it, and was laid on this sequent
abbrev pub IsTakenBefore : List Laid → List Obligation → ℕ → Sequent → ℕ → Type 0
IsTakenBefore proofs new i s j = (k : ℕ) × ((q : Laid) × ((k < i) × ((slice_get proofs k ≡ Some q) × ((q.sequent ≡ Some s) × Takes proofs new k j))))

-- how many proofs were laid on a sequent; how many obligations have it
abbrev pub laid_on : Sequent → List Laid → ℕ
laid_on s proofs = length (filter (is_laid_on s) proofs)

abbrev pub having : Sequent → List Obligation → ℕ
having s new = length (filter (λ o. same_sequent s o.sequent) new)

-- no two have one key; no two have one sequent
abbrev pub KeysApart : List Obligation → Type 0
KeysApart new = (j k : ℕ) (o q : Obligation) → slice_get new j ≡ Some o → slice_get new k ≡ Some q → key_of o ≡ key_of q → j ≡ k

abbrev pub SequentsApart : List Obligation → Type 0
SequentsApart new = (j k : ℕ) (o q : Obligation) → slice_get new j ≡ Some o → slice_get new k ≡ Some q → o.sequent ≡ q.sequent → j ≡ k

-- ---- reading

-- a proof as it is read, with its key alone
abbrev pub unlaid : Laid → Laid
unlaid proof = record proof { sequent = None }

-- no proof before the one of number i has its key
abbrev pub IsFirstOfKey : List Laid → ℕ → Laid → Type 0
IsFirstOfKey proofs i p = (k : ℕ) (q : Laid) → k < i → slice_get proofs k ≡ Some q → q.key ≡ p.key → ⊥

-- ---- carrying again

-- a proof with the obligation's key, laid on its sequent
abbrev pub proof_of : Obligation → Laid
proof_of obligation = record { key = key_of obligation; sequent = Some obligation.sequent }

-- the proofs as they are afterwards, in document order: what was taken gives each its key and its sequent, and orphans are out
abbrev pub carried : List Laid → List Obligation → List Laid
carried proofs new = filter_map (option_and_then (λ j. option_map proof_of (slice_get new j))) (takes proofs new)

-- what these took
abbrev pub kept : List Laid → List Obligation → List (Option ℕ)
kept proofs new = filter is_some (takes proofs new)

-- of the carried proofs and of the obligations, those with one sequent stand in one order, with no obligation left out
abbrev pub InOrder : List Laid → List Obligation → Type 0
InOrder proofs new = (i j : ℕ) (o : Obligation) → slice_get (kept proofs new) i ≡ Some (Some j) → slice_get new j ≡ Some o
    → laid_on o.sequent (take i (carried proofs new)) ≡ having o.sequent (take j new)

-- each proof that takes one takes one with the sequent that it was laid on
abbrev pub AllBySequent : List Laid → List Obligation → Type 0
AllBySequent proofs new = (i j : ℕ) (p : Laid) (o : Obligation) → slice_get proofs i ≡ Some p → slice_get new j ≡ Some o
    → Takes proofs new i j → p.sequent ≡ Some o.sequent
