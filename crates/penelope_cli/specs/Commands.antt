-- What the words after the program's name can ask for.
use Rattle.std.specs.Prelude.{ℕ, List, [], ◌∷◌, length, Bool, false, not, ◌&&◌, Option, Some, None, option_map, nat_le, bytes_eq, codes, ◌==◌, if◌then◌else◌}
use Rattle.std.specs.List.{list_all}
use Rattle.base_kit.specs.Bytes.{dash}
use Rattle.ada_tree.specs.Nodes.{is_empty}
use Rattle.one_path.specs.Conditions.{are_distinct}
use Rattle.penelope_cli.specs.declared.words.TheConstants.{MOST_SOURCES}

-- a command, with the names of its sources
pub data Command : Type 0 where
  check : List (List ℕ) → Command
  print : List (List ℕ) → Command

abbrev pub names_of : Command → List (List ℕ)
names_of (check names) = names
names_of (print names) = names

-- a name is a word that isn't empty and doesn't begin with a dash
abbrev pub is_name : List ℕ → Bool
is_name [] = false
is_name (b ∷ bytes) = not (b == dash)

-- names of sources: at least one, at most so many, and no name twice
abbrev pub are_sources : List (List ℕ) → Bool
are_sources names = not (is_empty names) && nat_le (length names) MOST_SOURCES && list_all is_name names && are_distinct names

-- one word `--` may stand before the names
abbrev pub behind_dashes : List (List ℕ) → List (List ℕ)
behind_dashes [] = []
behind_dashes (word ∷ words) = if bytes_eq word (codes "--") then words else word ∷ words

-- the names of sources that words are, where they are such names
abbrev pub names_in : List (List ℕ) → Option (List (List ℕ))
names_in words = if are_sources (behind_dashes words) then Some (behind_dashes words) else None

-- the command that the words are, where they are one: `check NAME ..` or `print NAME ..`
abbrev pub command_of : List (List ℕ) → Option Command
command_of [] = None
command_of (word ∷ words) =
    if bytes_eq word (codes "check") then option_map check (names_in words)
    else if bytes_eq word (codes "print") then option_map print (names_in words)
    else None
