-- The counts of a shelf that tells its counts alone.
use Rattle.std.specs.Prelude.{Result, Ok, Err}
use Rattle.outside.specs.declared.shelf.ShelfError.{ShelfError}
use Rattle.outside.specs.declared.shelf.ShelfError.TheVariants.{Failed, Absent, TooLong, Memory}
use Rattle.outside.specs.Meaning.{ShelfCounts, raised}

-- with the count of this answer raised by one
abbrev pub counted_error : ShelfCounts → ShelfError → ShelfCounts
counted_error counts Failed = record counts { faults = raised 1 counts.faults }
counted_error counts Absent = record counts { absences = raised 1 counts.absences }
counted_error counts TooLong = record counts { excesses = raised 1 counts.excesses }
counted_error counts Memory = counts

abbrev pub counted_result : {T : Type 0} → ShelfCounts → Result T ShelfError → ShelfCounts
counted_result counts (Ok _) = counts
counted_result counts (Err error) = counted_error counts error
