-- What a shelf and a sink are for contracts, and what a call does to them.
use Rattle.std.specs.Prelude.{◌≡◌, ◌≢◌, ℕ, ◌+◌, ◌-◌, ◌^◌, ◌<◌, ◌≤◌, min, max, List, ◌∷◌, ◌++◌, length, Option, Some, None, IfSome, IsSomeAnd, option_map, bytes_eq, if◌then◌else◌}

-- names to bytes: what stands under each name
abbrev pub Files : Type 0
Files = List ℕ → Option (List ℕ)

-- those files, where the name holds the bytes
abbrev pub with_file : List ℕ → List ℕ → Files → Files
with_file name bytes files = λ other. if bytes_eq name other then Some bytes else files other

-- a shelf: what it holds and how many calls it had, each where it tells it, and three counts that never fall
pub record ShelfState : Type 0 where
  pub holds : Option Files
  pub calls : Option ℕ
  pub faults : ℕ
  pub absences : ℕ
  pub excesses : ℕ

-- the counts of a shelf
pub record ShelfCounts : Type 0 where
  pub faults : ℕ
  pub absences : ℕ
  pub excesses : ℕ

-- a shelf that tells its counts alone
abbrev pub silent : ShelfCounts → ShelfState
silent counts = record { holds = None; calls = None; faults = counts.faults; absences = counts.absences; excesses = counts.excesses }

-- a sink: what was written to it, where it tells it, and a count that never falls
pub record SinkState : Type 0 where
  pub written : Option (List ℕ)
  pub faults : ℕ

-- a count by n more, which stands at the last value of a counter
abbrev pub raised : ℕ → ℕ → ℕ
raised n count = max count (min (count + n) (2 ^ 64 - 1))

-- a count rose in a call, or stands at its last value
abbrev pub Rose : ℕ → ℕ → Type 0
Rose before now = min (before + 1) (2 ^ 64 - 1) ≤ now

-- no count falls
pub record NoneFell (old new : ShelfState) : Type 0 where
  pub faults : old.faults ≤ new.faults
  pub absences : old.absences ≤ new.absences
  pub excesses : old.excesses ≤ new.excesses

-- n calls were made
abbrev pub CalledTimes : ℕ → ShelfState → ShelfState → Type 0
CalledTimes n old new = new.calls ≡ option_map (raised n) old.calls

-- the name holds these bytes, where the shelf tells it
abbrev pub Found : Option Files → List ℕ → List ℕ → Type 0
Found holds name bytes = IfSome holds (λ files. files name ≡ Some bytes)

-- the name isn't held, where the shelf tells it
abbrev pub NotFound : Option Files → List ℕ → Type 0
NotFound holds name = IfSome holds (λ files. files name ≡ None)

-- the name holds more than limit bytes, where the shelf tells it
abbrev pub FoundLonger : Option Files → List ℕ → ℕ → Type 0
FoundLonger holds name limit = IfSome holds (λ files. IsSomeAnd (files name) (λ bytes. limit < length bytes))

-- every name but this one holds what it held
abbrev pub OthersStay : List ℕ → Files → Files → Type 0
OthersStay name old new = (other : List ℕ) → other ≢ name → new other ≡ old other

-- the same, where the shelf tells it, and it goes on telling
abbrev pub OthersStayHeld : List ℕ → Option Files → Option Files → Type 0
OthersStayHeld name old new = IfSome old (λ files. IsSomeAnd new (OthersStay name files))

-- what was written, where the sink tells it, and then these bytes
abbrev pub written_more : Option (List ℕ) → List ℕ → Option (List ℕ)
written_more written bytes = option_map (λ before. before ++ bytes) written

-- a first part that isn't all
abbrev pub IsProperPrefix : List ℕ → List ℕ → Type 0
IsProperPrefix part bytes = (next : ℕ) × (rest : List ℕ) × (bytes ≡ part ++ next ∷ rest)

-- such a part of the bytes was written
abbrev pub WroteProperPrefix : List ℕ → SinkState → SinkState → Type 0
WroteProperPrefix bytes old new = (part : List ℕ) × IsProperPrefix part bytes × (new.written ≡ written_more old.written part)
