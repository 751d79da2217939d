-- The commands of the program, without the places where their names stand.
use Rattle.std.specs.Prelude.{String, List, ℕ, map, string_bytes}
use Rattle.std.specs.Borrow.{Bor}
use Rattle.std.specs.Global.{Global}
use Rattle.penelope_cli.specs.declared.words.Command.{Command as TheirCommand}
use Rattle.penelope_cli.specs.declared.words.Command.TheVariants.{Check, Print}
use Rattle.penelope_cli.specs.Commands.{Command, check, print}

abbrev pub named : TheirCommand → Command
named (Check names) = check (map string_bytes names.now)
named (Print names) = print (map string_bytes names.now)

-- words in a place, as their bytes
abbrev pub slice_bytes : Bor (List (String Global)) → List (List ℕ)
slice_bytes words = map string_bytes words.now
