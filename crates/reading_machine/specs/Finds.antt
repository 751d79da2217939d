-- Where ways are found.
use Rattle.std.specs.Prelude.{◌≡◌, ℕ, List, Bool, Some, slice_get}
use Rattle.reading_machine.specs.declared.ways.Slot.{Slot}
use Rattle.reading_machine.specs.declared.ways.Sought.{Sought}
use Rattle.reading_machine.specs.Sights.{sight_of}
use Rattle.reading_machine.specs.Ways.{IsWay}
use Rattle.reading_table.specs.declared.rule.Rule.{Rule}
use Rattle.reading_table.specs.States.{Token}

-- what has this number is the way
abbrev pub IsFound : Bool → Rule → Token → ℕ → List Slot → Type 0
IsFound note r t number slots = (slot : Slot) → slice_get slots number ≡ Some slot → IsWay note r t slot.way

-- what has this number is what is sought, for each token that looks so
abbrev pub IsFoundFor : Sought → ℕ → List Slot → Type 0
IsFoundFor s number slots = (t : Token) → sight_of t ≡ s.sight → IsFound s.note s.rule t number slots
