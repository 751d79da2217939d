use Rattle.std.proofs.Common.{◌≡◌, take, ◌≤◌, length}
use Rattle.term_core.specs.Names.{base}
use Rattle.term_core.proofs.naming.base_of.Given as goal

abbrev pub invariant-loop-n : goal.invariant-loop-n
invariant-loop-n l = (l.n ≤ length l.bytes) × (base (take l.n l.bytes) ≡ base l.bytes)

abbrev pub decreases-loop-n : goal.decreases-loop-n
decreases-loop-n l = l.n
