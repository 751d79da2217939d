use Rattle.std.proofs.Common.{◌≡◌, drop, map}
use Rattle.std.specs.Prelude.{string_bytes}
use Rattle.std.specs.List.{list_all}
use Rattle.penelope_cli.specs.Commands.{is_name}
use Rattle.penelope_cli.proofs.words.are_names.Given as goal

-- what is left decides
abbrev pub invariant-loop-word : goal.invariant-loop-word
invariant-loop-word l = list_all is_name (map string_bytes (drop l.word-index l.words)) ≡ list_all is_name (map string_bytes l.words)
