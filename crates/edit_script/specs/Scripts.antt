-- What a script says.
use Rattle.std.specs.Prelude.{◌≡◌, ◌⊎◌, ℕ, ◌||◌, ◌==◌, List, Bool, not, is_none, filter, filter_map, find, nat_le, if◌then◌else◌, Option, Some, None, option_map, option_and_then, Result, Ok, Err, IsOkAnd, Vec}
use Rattle.std.specs.List.{list_all, slice_split, enumerate_from}
use Rattle.std.specs.Str.{is_utf8}
use Rattle.std.specs.declared.alloc.Global.{Global}
use Rattle.base_kit.specs.Bytes.{tabulator, line_feed, carriage_return, space}
use Rattle.serde_json.specs.Data.{Data}
use Rattle.serde_json.specs.Read.{read}
use Rattle.edit_script.specs.declared.command.Command.{Command}
use Rattle.edit_script.specs.declared.command.Line.{Line}
use Rattle.edit_script.specs.declared.script.ScriptError.{ScriptError}
use Rattle.edit_script.specs.declared.script.ScriptError.TheVariants.{BadLine, TooMany, Memory}
use Rattle.edit_script.specs.declared.script.TheConstants.{MOST_EDITS}
use Rattle.edit_script.specs.Commands.{edits_of}
use Rattle.edit_script.specs.Table.{command_of}

abbrev pub is_line_feed : ℕ → Bool
is_line_feed b = b == line_feed

-- a blank, HT or CR
abbrev pub is_blank_byte : ℕ → Bool
is_blank_byte b = (b == space) || (b == tabulator) || (b == carriage_return)

abbrev pub is_blank : List ℕ → Bool
is_blank line = list_all is_blank_byte line

-- the lines from number n on that aren't blank, with their numbers
unfoldable pub numbered_from : ℕ → List (List ℕ) → List (ℕ × List ℕ)
numbered_from n lines = filter (λ line. not (is_blank line.1)) (enumerate_from n lines)

-- the lines of a script that say something: each ends with LF or with the script
abbrev pub lines_of : List ℕ → List (ℕ × List ℕ)
lines_of bytes = numbered_from 1 (slice_split is_line_feed bytes)

-- the JSON value that a line is
abbrev pub data_of : List ℕ → Option Data
data_of line = if is_utf8 line then read line else None

-- the command that a line is
unfoldable pub command_in : List ℕ → Option Command
command_in line = option_and_then command_of (data_of line)

abbrev pub is_bad : ℕ × List ℕ → Bool
is_bad line = is_none (command_in line.1)

abbrev pub line_in : ℕ × List ℕ → Option Line
line_in line = option_map (λ command. record { number = line.0; command = command }) (command_in line.1)

-- what a script is: commands with the numbers of their lines, or the number of its first bad line, or too many edits, with their number
pub data Script : Type 0 where
  commands : List Line → Script
  bad_line : ℕ → Script
  too_many : ℕ → Script

-- commands, where they make few enough edits
abbrev pub within_limit : List Line → Script
within_limit lines = if nat_le (edits_of lines) MOST_EDITS then commands lines else too_many (edits_of lines)

-- the first bad line, if there is one, comes before all else
abbrev pub judged : Option (ℕ × List ℕ) → List Line → Script
judged (Some line) lines = bad_line line.0
judged None lines = within_limit lines

unfoldable pub script_of : List ℕ → Script
script_of bytes = judged (find is_bad (lines_of bytes)) (filter_map line_in (lines_of bytes))

-- ---- answers

-- Why a reading of lines stops, by the first bad one. For private clauses.
abbrev pub IsReason : ScriptError → Option (ℕ × List ℕ) → Type 0
IsReason (BadLine number) found = option_map (λ line. line.0) found ≡ Some number
IsReason (TooMany edits) found = ⊥
IsReason Memory found = Unit {0}

-- the answer is the script's, or tells that memory ran out
abbrev pub Answers : Result (Vec Line Global) ScriptError → Script → Type 0
Answers (Ok lines) script = script ≡ commands lines.items
Answers (Err (BadLine number)) script = script ≡ bad_line number
Answers (Err (TooMany edits)) script = script ≡ too_many edits
Answers (Err Memory) script = Unit {0}

-- the other way: to such a script there is this answer, or memory ran out
abbrev pub Gets : Script → Result (Vec Line Global) ScriptError → Type 0
Gets (commands lines) result = (result ≡ Err Memory) ⊎ IsOkAnd result (λ found. found.items ≡ lines)
Gets (bad_line number) result = (result ≡ Err Memory) ⊎ (result ≡ Err (BadLine number))
Gets (too_many edits) result = (result ≡ Err Memory) ⊎ (result ≡ Err (TooMany edits))
