use Rattle.std.proofs.Common.{◌≡◌, drop}
use Rattle.reading_machine.proofs.machine.Machine.may_end.Given as goal
use Rattle.reading_machine.specs.Machines.{may_end}

-- what is left of the stack decides
abbrev pub invariant-loop-depth : goal.invariant-loop-depth
invariant-loop-depth l = may_end (drop l.depth l.self.stack) ≡ may_end l.self.stack
