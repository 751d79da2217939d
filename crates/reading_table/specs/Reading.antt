-- The reading table as a table to read by.
use Rattle.std.specs.Prelude.{ℕ, ◌++◌, Bool, not, ◌&&◌, if◌then◌else◌}
use Rattle.reading_table.specs.declared.symbol.Symbol.{Symbol}
use Rattle.reading_table.specs.declared.symbol.Symbol.TheVariants as symbol
use Rattle.reading_table.specs.Rows.{Placed, Part, side_in, rows, silence}
use Rattle.reading_table.specs.States.{Token, State, is_of, set_of, does, closes, taken}
use Rattle.reading_table.specs.Tables.{View, token, done, part, Table}

abbrev pub view_in : Bool → Symbol → View Part
view_in note (symbol.Take set) = token
view_in note (symbol.Keep set) = token
view_in note (symbol.Closing depth) = token
view_in note (symbol.Part r) = part (side_in note r, r)
view_in note _ = done

abbrev pub is_side : Bool → Bool → Bool
is_side note other = if note then other else not other

-- the token stands on the symbol's side and is of its set
abbrev pub may_be : Placed → Token → Bool
may_be s t = is_side s.0 t.note && is_of (set_of s.1) t.lexeme

abbrev pub reading_table : Table Placed Part Token State
reading_table = record {
  view = λ s. view_in s.0 s.1;
  rows = rows;
  silence = silence;
  may = may_be;
  fits = λ s state t. may_be s t && closes s.1 state t.lexeme;
  taken = λ s state t. taken s.1 state t.lexeme;
  does = λ s state. does s.1 state;
  brings = λ t state. record state { waiting = state.waiting ++ t.comments };
}

-- parts that begin a row, and those that begin their rows, and so on, stand within each other less deep
abbrev pub deepest : ℕ
deepest = 13
