use Rattle.std.proofs.Common.{◌≡◌, drop, map, length}
use Rattle.std.specs.Prelude.{bytes_eq}
use Rattle.std.specs.Char.{to_ascii_lowercase}
use Rattle.lex_ada.proofs.words.is_spelled.Given as goal

-- what is left of both is the same exactly where both are
abbrev pub invariant-loop-letter : goal.invariant-loop-letter
invariant-loop-letter l = bytes_eq (drop (length l.yielded) l.fn.text) (map to_ascii_lowercase (drop (length l.yielded) l.bytes)) ≡ bytes_eq l.fn.text (map to_ascii_lowercase l.bytes)
