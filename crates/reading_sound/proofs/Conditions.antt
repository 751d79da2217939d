-- The rules' rows keep the traces that the rules leave: computed.
use Rattle.std.proofs.Common.{◌≡◌, List, [], ◌∷◌, ◌++◌, refl, Bool, true, Option, Some, None, map}
use Rattle.std.specs.List.{list_all, list_any, flat_map}
use Rattle.reading_table.specs.declared.symbol.Symbol.{Symbol}
use Rattle.reading_table.specs.declared.symbol.Symbol.TheVariants as symbol
use Rattle.reading_table.specs.Rows.{Placed, Part, rows, silence, side_in}
use Rattle.reading_table.proofs.Parts.{tests}
use Rattle.ada_tree.specs.Words.{word_text}
use Rattle.reading_sound.proofs.Traces.{told, says, closing, recalled, waiting, ended, lost, Stack, strip, gives}
use Rattle.reading_sound.proofs.Situations.{Situation, situations}
use Rattle.reading_sound.proofs.Walks.{step_built, step_taken, step_kept, step_joined, step_noted, step_lowered, step_pasted}

-- what a part leaves on a stack, by the first situation that the stack is
abbrev pub left_on : Option Stack → List Stack → List Stack → List Stack
left_on None left other = other
left_on (Some below) left other = map (λ stack. stack ++ below) left

abbrev pub step_part : List Situation → Stack → List Stack
step_part [] stack = (lost ∷ []) ∷ []
step_part (s ∷ ss) stack = left_on (strip s.0 stack) s.1 (step_part ss stack)

abbrev pub step : Bool → Symbol → Stack → List Stack
step note (symbol.Take set) stack = step_taken note set stack ∷ []
step note (symbol.Keep set) stack = step_kept note set stack
step note (symbol.Closing depth) stack = (closing note depth ∷ stack) ∷ []
step note (symbol.Part r) stack = step_part (situations (side_in note r, r)) stack
step note (symbol.Build k count) stack = step_built note k count stack ∷ []
step note symbol.Join stack = step_joined stack ∷ []
step note (symbol.Say w) stack = (told note (says (word_text w) []) ∷ stack) ∷ []
step note (symbol.Paste between) stack = step_pasted between stack ∷ []
step note symbol.Lower stack = step_lowered stack ∷ []
step note (symbol.Recall depth) stack = (recalled depth ∷ stack) ∷ []
step note symbol.Notes stack = (waiting ∷ stack) ∷ []
step note symbol.Noted stack = step_noted stack ∷ []
step note symbol.EndNotes stack = (ended ∷ stack) ∷ []

abbrev pub walk : List Placed → Stack → List Stack
walk [] stack = stack ∷ []
walk (s ∷ line) stack = flat_map (walk line) (step s.0 s.1 stack)

abbrev pub quiet_lines : Option (List Placed) → List (List Placed)
quiet_lines None = []
quiet_lines (Some line) = line ∷ []

abbrev pub lines : Part → List (List Placed)
lines p = quiet_lines (silence p) ++ rows p

abbrev pub keeps : List Placed → Situation → Bool
keeps line s = list_all (λ stack. list_any (gives stack) s.1) (walk line s.0)

abbrev pub passes : Part → Bool
passes p = list_all (λ line. list_all (keeps line) (situations p)) (lines p)

pub all_pass : tests passes ≡ true
all_pass = refl
