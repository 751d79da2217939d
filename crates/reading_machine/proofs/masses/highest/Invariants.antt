use Rattle.std.proofs.Common.{◌≡◌, length}
use Rattle.reading_machine.proofs.masses.highest.Given as goal
use Rattle.reading_table.specs.Heights.{higher, highest}

-- the highest so far and the highest of the rest are the highest of all
abbrev pub invariant-loop-mass : goal.invariant-loop-mass
invariant-loop-mass l = higher l.height (highest l.masses) ≡ highest l.fn.masses

abbrev pub decreases-loop-mass : goal.decreases-loop-mass
decreases-loop-mass l = length l.masses
