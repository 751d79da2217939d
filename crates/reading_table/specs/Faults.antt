-- Reading by the table from a rule on, and where it stops.
use Rattle.std.specs.Prelude.{ℕ, List, [], ◌∷◌, ◌++◌, Bool, Result}
use Rattle.reading_table.specs.declared.rule.Rule.{Rule}
use Rattle.reading_table.specs.declared.symbol.Symbol.TheVariants as symbol
use Rattle.reading_table.specs.Machine.{run}
use Rattle.reading_table.specs.Reading.{reading_table, deepest}
use Rattle.reading_table.specs.States.{Token, State}
use Rattle.reading_table.specs.Tables.{Derives}

-- By the rule, on this side, and with what has been read so far, the tokens are read to the other state. `end` is what comes after the last one.
abbrev pub IsRead : (State → State) → Bool → Rule → State → List Token → State → Type 0
IsRead end note r state tokens last = Derives reading_table end ((note, symbol.Part r) ∷ []) state tokens last

-- the same from the left, one token at a time: the state in the end, or the number of tokens before the first one that is refused
abbrev pub reading : (State → State) → Bool → Rule → State → List Token → Result State ℕ
reading end note r state tokens = run reading_table deepest end ((note, symbol.Part r) ∷ []) state tokens

-- these tokens are the beginning of some that are read
pub record GoesOn (note : Bool) (r : Rule) (state : State) (front : List Token) : Type 0 where
  pub more : List Token
  pub last : State
  pub read : IsRead (λ state. state) note r state (front ++ more) last
