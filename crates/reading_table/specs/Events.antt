-- The reading table over the events of a spelling: comments stand at the places to which they belong.
use Rattle.std.specs.Prelude.{List, [], ◌∷◌, Bool, true, false, ◌&&◌}
use Rattle.ada_tree.specs.Tokens.{Event, spelled, comments}
use Rattle.reading_table.specs.declared.held.Held.{Held}
use Rattle.reading_table.specs.declared.held.Held.TheVariants as held
use Rattle.reading_table.specs.declared.symbol.Symbol.{Symbol}
use Rattle.reading_table.specs.declared.symbol.Symbol.TheVariants as symbol
use Rattle.reading_table.specs.Rows.{Placed, Part, rows, silence}
use Rattle.reading_table.specs.Reading.{is_side, view_in}
use Rattle.reading_table.specs.States.{State, is_of, set_of, closes, does, taken, end_noted}
use Rattle.reading_table.specs.Tables.{View, token, Table, Derives}

-- places of comments are taken as tokens are
abbrev pub event_view : Bool → Symbol → View Part
event_view note symbol.Notes = token
event_view note symbol.EndNotes = token
event_view note s = view_in note s

-- values alone, where no comments wait
abbrev pub of_values : List Held → State
of_values values = record { values = values; waiting = [] }

abbrev pub event_fits : Placed → List Held → Event → Bool
event_fits (note, symbol.Notes) values (comments texts) = true
event_fits (note, symbol.EndNotes) values (comments texts) = true
event_fits (note, symbol.Notes) values (spelled side lexeme) = false
event_fits (note, symbol.EndNotes) values (spelled side lexeme) = false
event_fits (note, s) values (spelled side lexeme) = (is_side note side && is_of (set_of s) lexeme) && closes s (of_values values) lexeme
event_fits (note, s) values (comments texts) = false

abbrev pub event_taken : Placed → List Held → Event → List Held
event_taken (note, symbol.Notes) values (comments texts) = held.Comments texts ∷ values
event_taken (note, symbol.EndNotes) values (comments texts) = end_noted texts values
event_taken (note, s) values (spelled side lexeme) = (taken s (of_values values) lexeme).values
event_taken s values (comments texts) = values

abbrev pub event_table : Table Placed Part Event (List Held)
event_table = record {
  view = λ s. event_view s.0 s.1;
  rows = rows;
  silence = silence;
  may = λ s e. event_fits s [] e;
  fits = event_fits;
  taken = event_taken;
  does = λ s values. (does s.1 (of_values values)).values;
  brings = λ e values. values;
}

-- By these symbols, and with these values, the events are read to the other values.
abbrev pub Reads : List Placed → List Held → List Event → List Held → Type 0
Reads line values events last = Derives event_table (λ values. values) line values events last
