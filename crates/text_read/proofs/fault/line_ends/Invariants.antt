use Rattle.std.proofs.Common.{◌≡◌, ◌+◌, ◌≤◌, length}
use Rattle.lex_ada.specs.Faults.{line_ends}
use Rattle.text_read.proofs.fault.line_ends.Given as goal

-- those so far and those of the rest are all
abbrev pub invariant-loop-byte : goal.invariant-loop-byte
invariant-loop-byte l = record {
  counted : l.count + line_ends l.rest ≡ line_ends l.bytes;
  few : l.count + length l.rest ≤ length l.bytes;
}

abbrev pub decreases-loop-byte : goal.decreases-loop-byte
decreases-loop-byte l = length l.rest
