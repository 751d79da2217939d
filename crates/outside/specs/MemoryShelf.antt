-- A shelf in memory.
use Rattle.std.specs.Prelude.{ℕ, List, Some, Result, Ok, Err, Contains}
use Rattle.outside.specs.declared.memory_shelf.Entry.{Entry}
use Rattle.outside.specs.declared.shelf.ShelfError.{ShelfError}
use Rattle.outside.specs.declared.shelf.ShelfError.TheVariants.{Failed, Absent, TooLong, Memory}
use Rattle.outside.specs.Entries.{files_of}
use Rattle.outside.specs.Meaning.{ShelfState, raised}

pub record MemoryShelf : Type 0 where
  pub entries : List Entry
  pub failing : List ℕ
  pub calls : ℕ
  pub faults : ℕ
  pub absences : ℕ
  pub excesses : ℕ

-- as any shelf: it tells what it holds and its calls
abbrev pub as_shelf : MemoryShelf → ShelfState
as_shelf m = record { holds = Some (files_of m.entries); calls = Some m.calls; faults = m.faults; absences = m.absences; excesses = m.excesses }

-- its next call is one of those that fail
abbrev pub FailsNext : MemoryShelf → Type 0
FailsNext m = Contains m.failing (raised 1 m.calls)

-- after one more call, with the count of its answer raised
abbrev pub counted : {T : Type 0} → MemoryShelf → Result T ShelfError → MemoryShelf
counted m (Ok _) = record m { calls = raised 1 m.calls }
counted m (Err Failed) = record m { calls = raised 1 m.calls; faults = raised 1 m.faults }
counted m (Err Absent) = record m { calls = raised 1 m.calls; absences = raised 1 m.absences }
counted m (Err TooLong) = record m { calls = raised 1 m.calls; excesses = raised 1 m.excesses }
counted m (Err Memory) = record m { calls = raised 1 m.calls }
