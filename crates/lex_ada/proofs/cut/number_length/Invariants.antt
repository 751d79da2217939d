use Rattle.std.proofs.Common.{◌≡◌, false, drop}
use Rattle.lex_ada.specs.Cutting.{number_length}
use Rattle.lex_ada.proofs.Lengths.{further}
use Rattle.lex_ada.proofs.cut.number_length.Given as goal

abbrev pub invariant-loop-i : goal.invariant-loop-i
invariant-loop-i l = further l.i (number_length l.after l.digits (drop l.i l.bytes)) ≡ number_length false 0 l.bytes
