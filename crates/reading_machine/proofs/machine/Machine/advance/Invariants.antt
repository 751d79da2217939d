use Rattle.std.proofs.Common.{◌≡◌, length}
use Rattle.reading_machine.proofs.machine.Machine.advance.Given as goal
use Rattle.reading_machine.specs.Lexemes.{token_of}
use Rattle.reading_machine.specs.Machines.{fed}
use Rattle.reading_machine.specs.Values.{weighed_of}

-- the token makes of the machine what it made of it at first
abbrev pub invariant-loop-note : goal.invariant-loop-note
invariant-loop-note l = fed (token_of l.token) l.fn.self.stack (weighed_of l.fn.self.values) ≡ fed (token_of l.token) l.self.stack (weighed_of l.self.values)

abbrev pub decreases-loop-note : goal.decreases-loop-note
decreases-loop-note l = length l.self.stack
