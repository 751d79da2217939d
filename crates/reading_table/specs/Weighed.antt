-- The reading table over what has been read and what limits see of it, side by side: that needs no look at a tree.
use Rattle.std.specs.Prelude.{ℕ, List, [], ◌∷◌, ◌+◌, Bool, ◌&&◌, nat_le, Option, Some, None, if◌then◌else◌}
use Rattle.ada_tree.specs.declared.limits.TheConstants.{MOST_NESTED, MOST_NESTED_STEPS, MOST_OPEN}
use Rattle.ada_tree.specs.Reading.{open_after}
use Rattle.reading_table.specs.declared.need.Height.{Height}
use Rattle.reading_table.specs.declared.need.Mass.{Mass}
use Rattle.reading_table.specs.Heights.{highest, least, rise}
use Rattle.reading_table.specs.Limits.{widest, Outcome, read, stopped, limited, later}
use Rattle.reading_table.specs.Machine.{feed, hush, apply}
use Rattle.reading_table.specs.Reading.{reading_table, deepest}
use Rattle.reading_table.specs.Rows.{Placed, Part}
use Rattle.reading_table.specs.States.{Token, State}
use Rattle.reading_table.specs.Tables.{Table, arrived}

pub record Weighed : Type 0 where
  pub state : State
  pub masses : List Mass

abbrev pub weighed_table : Table Placed Part Token Weighed
weighed_table = record {
  view = reading_table.view;
  rows = reading_table.rows;
  silence = reading_table.silence;
  may = reading_table.may;
  fits = λ s w t. reading_table.fits s w.state t;
  taken = λ s w t. record { state = reading_table.taken s w.state t; masses = rise s.1 w.masses };
  does = λ s w. record { state = reading_table.does s w.state; masses = rise s.1 w.masses };
  brings = λ t w. record { state = reading_table.brings t w.state; masses = w.masses };
}

-- ---- reading within the limits

-- what is still to be read, what has been read, with what limits see of it, and how many parentheses are open
pub record Progress : Type 0 where
  pub stack : List Placed
  pub weighed : Weighed
  pub parentheses : ℕ

-- nothing has been read, and these symbols are to be read
abbrev pub at_beginning : List Placed → Progress
at_beginning ss = record { stack = ss; weighed = record { state = record { values = []; waiting = [] }; masses = [] }; parentheses = 0 }

-- how high what is read becomes at least
abbrev pub height_to_be : Progress → Height
height_to_be p = highest (least p.stack p.weighed.masses)

-- within the limits, where so many nodes that count are round what is read
abbrev pub is_within : ℕ → Progress → Bool
is_within round p = (nat_le (round + (height_to_be p).nodes) MOST_NESTED && nat_le (height_to_be p).steps MOST_NESTED_STEPS) && nat_le (widest p.parentheses p.stack) MOST_OPEN

-- behind a token with which so many parentheses are open
abbrev pub at_next : ℕ → Option (List Placed × Weighed) → Option Progress
at_next count None = None
at_next count (Some next) = Some record { stack = next.0; weighed = next.1; parentheses = count }

-- what the token makes of it, if some reading admits the token
abbrev pub with_token : ℕ → Progress → Token → Option Progress
with_token depth p t = at_next (open_after p.parentheses t.lexeme) (feed weighed_table depth p.stack p.weighed t)

abbrev pub ended_by : Option (List Placed) → Weighed → Outcome
ended_by None w = stopped 0
ended_by (Some line) w = read (apply weighed_table line w).state

abbrev pub within_limits : ℕ → Option Progress → (Progress → Outcome) → Outcome
within_limits round None more = stopped 0
within_limits round (Some next) more = if is_within round next then later (more next) else limited 0

abbrev end_weighed : (State → State) → Weighed → Weighed
end_weighed end w = record { state = end w.state; masses = w.masses }

-- what comes before the next token, or before the end, has come
abbrev pub with_next : (State → State) → List Token → Progress → Progress
with_next end ts p = record { stack = p.stack; weighed = arrived weighed_table (end_weighed end) ts p.weighed; parentheses = p.parentheses }

-- how reading ends, one token at a time
abbrev pub run_weighed : ℕ → (State → State) → Progress → List Token → Outcome
run_weighed round end p [] = ended_by (hush weighed_table p.stack) p.weighed
run_weighed round end p (t ∷ ts) = within_limits round (with_token deepest p t) (λ next. run_weighed round end (with_next end ts next) ts)
