use Rattle.std.proofs.Common.{◌≡◌, length}
use Rattle.reading_machine.proofs.ways.Ways.new.Given as goal

abbrev pub invariant-loop : goal.invariant-loop
invariant-loop l = length l.slots.items ≡ l.counter
