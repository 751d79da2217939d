-- What a symbol is, as the code sees it.
use Rattle.std.specs.Prelude.{◌≡◌, Bool}
use Rattle.reading_machine.specs.declared.choosing.View.{View}
use Rattle.reading_machine.specs.declared.choosing.View.TheVariants as seen
use Rattle.reading_table.specs.declared.symbol.Symbol.{Symbol}
use Rattle.reading_table.specs.Reading.{view_in}
use Rattle.reading_table.specs.Rows.{side_in}
use Rattle.reading_table.specs.States.{set_of}
use Rattle.reading_table.specs.Tables.{token, done, part}

abbrev pub IsSeenAs : Bool → Symbol → View → Type 0
IsSeenAs note s (seen.Token set) = (view_in note s ≡ token) × (set_of s ≡ set)
IsSeenAs note s (seen.Part r) = view_in note s ≡ part (side_in note r, r)
IsSeenAs note s seen.Quiet = view_in note s ≡ done
