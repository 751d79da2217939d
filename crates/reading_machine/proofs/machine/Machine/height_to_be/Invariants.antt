use Rattle.std.proofs.Common.{◌≡◌, drop}
use Rattle.reading_machine.proofs.machine.Machine.height_to_be.Given as goal
use Rattle.reading_table.specs.Heights.{least}

-- what is left of the stack makes of the masses what all of it makes of the first ones
abbrev pub invariant-loop-depth : goal.invariant-loop-depth
invariant-loop-depth l = least (drop l.depth l.self.stack) l.masses ≡ least l.self.stack l.self.values.masses
