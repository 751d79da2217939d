use Rattle.std.proofs.Common.{◌≡◌, length}
use Rattle.reading_machine.proofs.machine.Machine.end.Given as goal
use Rattle.reading_machine.specs.Machines.{ended}
use Rattle.reading_machine.specs.Values.{weighed_of}

-- what is read in the end is what was read in the end at first
abbrev pub invariant-loop-symbol : goal.invariant-loop-symbol
invariant-loop-symbol l = ended l.fn.self.stack (weighed_of l.fn.self.values) ≡ ended l.stack (weighed_of l.values)

abbrev pub decreases-loop-symbol : goal.decreases-loop-symbol
decreases-loop-symbol l = length l.stack
