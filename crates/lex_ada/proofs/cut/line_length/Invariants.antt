use Rattle.std.proofs.Common.{◌≡◌, ◌+◌, drop}
use Rattle.std.specs.List.{prefix_len}
use Rattle.lex_ada.specs.Cutting.{in_line}
use Rattle.lex_ada.proofs.cut.line_length.Given as goal

-- all bytes so far pass
abbrev pub invariant-loop-i : goal.invariant-loop-i
invariant-loop-i l = l.i + prefix_len in_line (drop l.i l.bytes) ≡ prefix_len in_line l.bytes
