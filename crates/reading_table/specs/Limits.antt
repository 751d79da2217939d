-- Reading within the limits: a token is admitted where what is then still to be read may become low enough, with few enough parentheses open at once.
use Rattle.std.specs.Prelude.{ℕ, suc, ◌+◌, ◌-◌, List, [], ◌∷◌, max, Bool, ◌&&◌, nat_le, Option, Some, None, if◌then◌else◌}
use denote.Enum.Bare.{sameb}
use Rattle.ada_tree.specs.contracts.word.Mark as mark_row
use Rattle.ada_tree.specs.declared.limits.TheConstants.{MOST_NESTED, MOST_NESTED_STEPS, MOST_OPEN}
use Rattle.ada_tree.specs.declared.word.Mark.TheVariants as mark
use Rattle.ada_tree.specs.Reading.{open_after}
use Rattle.reading_table.specs.declared.need.Height.{Height}
use Rattle.reading_table.specs.declared.symbol.Symbol.{Symbol}
use Rattle.reading_table.specs.declared.symbol.Symbol.TheVariants as symbol
use Rattle.reading_table.specs.declared.symbol.Tokens.{Tokens}
use Rattle.reading_table.specs.declared.symbol.Tokens.TheVariants as tokens
use Rattle.reading_table.specs.Heights.{highest, least, masses}
use Rattle.reading_table.specs.Machine.{feed, hush, apply}
use Rattle.reading_table.specs.Reading.{reading_table, deepest}
use Rattle.reading_table.specs.Rows.{need_of, Placed}
use Rattle.reading_table.specs.States.{Token, State}
use Rattle.reading_table.specs.Tables.{arrived}

-- ---- parentheses

-- how many are open after a token of the set
abbrev pub opened : ℕ → Tokens → ℕ
opened count (tokens.Mark m) = if sameb mark_row.the_type mark.Open m then suc count else if sameb mark_row.the_type mark.Close m then count - 1 else count
opened count _ = count

-- how many are open after a symbol
abbrev pub open_behind : ℕ → Symbol → ℕ
open_behind count (symbol.Take set) = opened count set
open_behind count (symbol.Keep set) = opened count set
open_behind count (symbol.Part r) = count - (need_of r).5
open_behind count _ = count

-- how many are open at once while it is read, at least
abbrev pub open_within : ℕ → Symbol → ℕ
open_within count (symbol.Part r) = count + (need_of r).4
open_within count _ = count

-- the same while all these symbols are read
abbrev pub widest : ℕ → List Placed → ℕ
widest count [] = count
widest count (s ∷ ss) = max (open_within count s.1) (widest (open_behind count s.1) ss)

-- ---- where reading stands

-- what is still to be read, what has been read, and how many parentheses are open
pub record Standing : Type 0 where
  pub stack : List Placed
  pub state : State
  pub parentheses : ℕ

-- how high what is read becomes at least
abbrev pub surely : Standing → Height
surely s = highest (least s.stack (masses s.state.values))

-- within the limits, where so many nodes that count are round what is read
abbrev pub fits : ℕ → Standing → Bool
fits round s = (nat_le (round + (surely s).nodes) MOST_NESTED && nat_le (surely s).steps MOST_NESTED_STEPS) && nat_le (widest s.parentheses s.stack) MOST_OPEN

-- ---- one token, and all of them

-- what a token is where reading stands: refused by all readings, or by those within the limits, or admitted
pub data Fed : Type 0 where
  refused deep : Fed
  admitted : Standing → Fed

abbrev pub within : ℕ → Standing → Fed
within round s = if fits round s then admitted s else deep

abbrev pub fed_to : ℕ → ℕ → Option (List Placed × State) → Fed
fed_to round count None = refused
fed_to round count (Some next) = within round record { stack = next.0; state = next.1; parentheses = count }

abbrev pub feed_within : ℕ → Standing → Token → Fed
feed_within round s t = fed_to round (open_after s.parentheses t.lexeme) (feed reading_table deepest s.stack s.state t)

-- how reading ends: all is read, or so many tokens are before the one that no reading admits, or none within the limits
pub data Outcome : Type 0 where
  read : State → Outcome
  stopped limited : ℕ → Outcome

abbrev pub later : Outcome → Outcome
later (read state) = read state
later (stopped n) = stopped (suc n)
later (limited n) = limited (suc n)

abbrev pub ended : Option (List Placed) → State → Outcome
ended (Some line) state = read (apply reading_table line state)
ended None state = stopped 0

abbrev pub going_on : Fed → (Standing → Outcome) → Outcome
going_on refused more = stopped 0
going_on deep more = limited 0
going_on (admitted s) more = later (more s)

-- what comes before the next token, or before the end, has come
abbrev pub with_next : (State → State) → List Token → Standing → Standing
with_next end ts s = record s { state = arrived reading_table end ts s.state }

abbrev pub run_within : ℕ → (State → State) → Standing → List Token → Outcome
run_within round end s [] = ended (hush reading_table s.stack) s.state
run_within round end s (t ∷ ts) = going_on (feed_within round s t) (λ s. run_within round end (with_next end ts s) ts)
