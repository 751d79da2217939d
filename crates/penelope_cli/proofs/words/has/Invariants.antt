use Rattle.std.proofs.Common.{◌≡◌, drop, map}
use Rattle.std.specs.Prelude.{string_bytes}
use Rattle.one_path.specs.Conditions.{has}
use Rattle.penelope_cli.proofs.words.has.Given as goal

-- what is left decides
abbrev pub invariant-loop-other : goal.invariant-loop-other
invariant-loop-other l = has (map string_bytes (drop l.other-index l.names)) l.name ≡ has (map string_bytes l.names) l.name
