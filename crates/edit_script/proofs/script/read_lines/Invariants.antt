use Rattle.std.proofs.Common.{length}
use Rattle.edit_script.proofs.Lines.{SoFar}
use Rattle.edit_script.proofs.script.read_lines.Given as goal

abbrev pub invariant-loop-unread : goal.invariant-loop-unread
invariant-loop-unread l = SoFar l.bytes l.unread l.number l.lines.items

abbrev pub decreases-loop-unread : goal.decreases-loop-unread
decreases-loop-unread l = length l.unread
