-- Which of two counts is past its limit, as the program finds it.
use Rattle.std.specs.Prelude.{ℕ, Option, Some, None, not, nat_le, if◌then◌else◌}
use Rattle.ada_tree.specs.declared.doc.Counts.{Counts}
use Rattle.text_read.specs.declared.limits.TheConstants.{MOST_NODES, MOST_STEPS}

-- the count that is past its limit, of nodes before steps
abbrev pub past_limits : Counts → Option ℕ
past_limits counts = if not (nat_le counts.tree MOST_NODES) then Some counts.tree else if not (nat_le counts.proof MOST_STEPS) then Some counts.proof else None
