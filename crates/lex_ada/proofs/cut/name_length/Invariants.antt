use Rattle.std.proofs.Common.{◌≡◌, false, drop}
use Rattle.lex_ada.specs.Cutting.{name_length}
use Rattle.lex_ada.proofs.Lengths.{further}
use Rattle.lex_ada.proofs.cut.name_length.Given as goal

abbrev pub invariant-loop-i : goal.invariant-loop-i
invariant-loop-i l = further l.i (name_length l.after l.i (drop l.i l.bytes)) ≡ name_length false 0 l.bytes
