use Rattle.std.proofs.Common.{◌≡◌, length, map}
use Rattle.std.specs.Prelude.{string_bytes}
use Rattle.one_path.specs.Conditions.{are_distinct}
use Rattle.penelope_cli.proofs.words.are_distinct.Given as goal

-- what is left decides
abbrev pub invariant-loop-name : goal.invariant-loop-name
invariant-loop-name l = are_distinct (map string_bytes l.rest) ≡ are_distinct (map string_bytes l.names)

abbrev pub decreases-loop-name : goal.decreases-loop-name
decreases-loop-name l = length l.rest
