-- How reading ends where no more than so many nodes are kept.
use Rattle.std.specs.Prelude.{Option, if◌then◌else◌}
use Rattle.ada_tree.specs.declared.doc.Counts.{Counts}
use Rattle.note_read.specs.declared.reading.Counted.{Counted}
use Rattle.note_read.specs.declared.reading.Counted.TheVariants as counted
use Rattle.note_read.specs.Signs.{outcome_of}
use Rattle.reading_machine.specs.Bare.{counts_with, passes}
use Rattle.reading_table.specs.Limits.{Outcome, read}
use Rattle.reading_table.specs.States.{State}

-- as it does without limits of numbers, or with too many nodes
pub data CountedOutcome : Type 0 where
  kept : Outcome → CountedOutcome
  too_many : Counts → CountedOutcome

-- all was read, of which so much was lost before
abbrev pub ended_with : Option Counts → Counts → State → CountedOutcome
ended_with most lost state = if passes most (counts_with lost state.values) then too_many (counts_with lost state.values) else kept (read state)

abbrev pub counted_from : Option Counts → Counts → Outcome → CountedOutcome
counted_from most lost (read state) = ended_with most lost state
counted_from most lost outcome = kept outcome

abbrev pub counted_of : Counted → CountedOutcome
counted_of (counted.Kept reading) = kept (outcome_of reading)
counted_of (counted.TooMany counts) = too_many counts
