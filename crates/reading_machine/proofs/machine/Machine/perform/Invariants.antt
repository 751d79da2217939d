use Rattle.std.proofs.Common.{◌≡◌, length}
use Rattle.reading_machine.proofs.machine.Machine.perform.Given as goal
use Rattle.reading_machine.specs.Values.{weighed_of}
use Rattle.reading_table.specs.Machine.{perform}
use Rattle.reading_table.specs.States.{Token}
use Rattle.reading_table.specs.Weighed.{weighed_table}

-- a token makes of what is left what it made of all
abbrev pub invariant-loop-note : goal.invariant-loop-note
invariant-loop-note l = (t : Token) → perform weighed_table l.fn.self.stack (weighed_of l.fn.self.values) t ≡ perform weighed_table l.self.stack (weighed_of l.self.values) t

abbrev pub decreases-loop-note : goal.decreases-loop-note
decreases-loop-note l = length l.self.stack
