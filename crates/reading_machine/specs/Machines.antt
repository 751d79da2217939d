-- The machine's way to a token.
use Rattle.std.specs.Prelude.{◌≡◌, ℕ, List, [], ◌∷◌, ◌++◌, option_map, is_some, Bool, true, false, Option, Some, None}
use Rattle.reading_machine.specs.Values.{weighed_of}
use Rattle.reading_machine.specs.declared.machine.Machine.{Machine}
use Rattle.reading_machine.specs.declared.machine.Fed.{Fed}
use Rattle.reading_machine.specs.declared.machine.Fed.TheVariants as fed_as
use Rattle.reading_table.specs.Machine.{feed, hush, apply, perform}
use Rattle.reading_table.specs.Reading.{reading_table, deepest}
use Rattle.reading_table.specs.Rows.{Placed}
use Rattle.reading_table.specs.States.{Token}
use Rattle.reading_table.specs.Tables.{token}
use Rattle.reading_table.specs.Weighed.{Weighed, weighed_table, Progress, with_token, is_within}

-- what a token makes of a stack and what has been read
abbrev pub fed : Token → List Placed → Weighed → Option (List Placed × Weighed)
fed t ss w = feed weighed_table deepest ss w t

-- what comes of this, if the token stands for the symbol, and else nothing does, is what comes of the machine
abbrev pub StandsAt : Option (List Placed × Weighed) → Token → Option Placed → Machine → Type 0
StandsAt next t (Some s) m = (reading_table.view s ≡ token) × (next ≡ perform weighed_table (s ∷ m.stack) (weighed_of m.values) t)
StandsAt next t None m = next ≡ None

abbrev pub Feeds : Token → Machine → Bool → Machine → Type 0
Feeds t a true b = fed t a.stack (weighed_of a.values) ≡ Some (b.stack, weighed_of b.values)
Feeds t a false b = fed t a.stack (weighed_of a.values) ≡ None

-- where the machine stands
abbrev pub progress_of : Machine → Progress
progress_of m = record { stack = m.stack; weighed = weighed_of m.values; parentheses = m.parentheses }

-- the same with so many parentheses open
abbrev pub with_open : Machine → ℕ → Progress
with_open m count = record { stack = m.stack; weighed = weighed_of m.values; parentheses = count }

-- the token is refused, or admitted within the limits or past them, and the machine is then where the token leads
abbrev pub FeedsWithin : ℕ → Token → Machine → Fed → Machine → Type 0
FeedsWithin round t a fed_as.Refused b = with_token deepest (progress_of a) t ≡ None
FeedsWithin round t a fed_as.Limited b = (next : Progress) × (with_token deepest (progress_of a) t ≡ Some next) × (is_within round next ≡ false)
FeedsWithin round t a fed_as.Admitted b = (with_token deepest (progress_of a) t ≡ Some (progress_of b)) × (is_within round (progress_of b) ≡ true)

abbrev pub nothing_read : Weighed
nothing_read = record { state = record { values = []; waiting = [] }; masses = [] }

abbrev pub with_comment : List ℕ → Weighed → Weighed
with_comment text w = record { state = record { values = w.state.values; waiting = w.state.waiting ++ text ∷ [] }; masses = w.masses }

abbrev pub commented : List ℕ → Progress → Progress
commented text p = record { stack = p.stack; weighed = with_comment text p.weighed; parentheses = p.parentheses }

-- the stack may be read as nothing
abbrev pub may_end : List Placed → Bool
may_end ss = is_some (hush weighed_table ss)

-- what has been read where the text ends here, if it may
abbrev pub ended : List Placed → Weighed → Option Weighed
ended ss w = option_map (λ line. apply weighed_table line w) (hush weighed_table ss)
