-- A sink in memory.
use Rattle.std.specs.Prelude.{◌≡◌, ◌⊎◌, ℕ, ◌-◌, ◌<◌, min, List, ◌++◌, length, take, Some, Result, Ok, Err, Contains}
use Rattle.outside.specs.declared.sink.SinkError.{SinkError}
use Rattle.outside.specs.Meaning.{SinkState, raised}

pub record MemorySink : Type 0 where
  pub written : List ℕ
  -- how many bytes there is room for, and how many a write takes at most
  pub room : ℕ
  pub most : ℕ
  pub failing : List ℕ
  pub writes : ℕ
  pub faults : ℕ

-- as any sink: it tells what was written
abbrev pub as_sink : MemorySink → SinkState
as_sink m = record { written = Some m.written; faults = m.faults }

-- how many bytes of a piece it can take
abbrev pub taken : MemorySink → List ℕ → ℕ
taken m piece = min (min (length piece) m.most) m.room

-- a write of the piece fails: it is one of those that do, or not a byte of it can be taken
abbrev pub FailsAt : MemorySink → List ℕ → Type 0
FailsAt m piece = Contains m.failing (raised 1 m.writes) ⊎ ((0 < length piece) × (taken m piece ≡ 0))

-- after a write of the piece
abbrev pub after_write : MemorySink → List ℕ → Result ℕ SinkError → MemorySink
after_write m piece (Ok count) = record m { written = m.written ++ take count piece; room = m.room - count; writes = raised 1 m.writes }
after_write m piece (Err _) = record m { writes = raised 1 m.writes; faults = raised 1 m.faults }
