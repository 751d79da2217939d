use Rattle.std.proofs.Common.{drop}
use Rattle.reading_machine.proofs.load.load_in.Given as goal
use Rattle.reading_machine.specs.Loads.{load_in, together, Bounds}

-- the sum so far, with what is left, is more than enough
abbrev pub invariant-loop-depth : goal.invariant-loop-depth
invariant-loop-depth l = Bounds (load_in l.line) (together l.sum (load_in (drop l.depth l.line)))
