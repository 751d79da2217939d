use Rattle.std.proofs.Common.{◌≡◌, ◌≤◌, ◌-◌, ◌+◌, length, false}
use Rattle.lex_ada.specs.Cutting.{scanned}
use Rattle.lex_ada.proofs.Turns.{with_tokens}
use Rattle.lex_ada.proofs.scan.scan.Given as goal

-- the tokens so far, and those of the rest, are those of the whole; no more lines have begun than bytes have passed
abbrev pub invariant-loop-rest : goal.invariant-loop-rest
invariant-loop-rest l = record {
  whole : with_tokens l.tokens.items (scanned 0 l.note (length l.bytes - length l.rest) l.line l.rest) ≡ scanned 0 false 0 1 l.bytes;
  shorter : length l.rest ≤ length l.bytes;
  lines : l.line ≤ 1 + (length l.bytes - length l.rest);
}

abbrev pub decreases-loop-rest : goal.decreases-loop-rest
decreases-loop-rest l = length l.rest
