use Rattle.std.proofs.Common.{◌≡◌, ◌++◌, length}
use Rattle.reading_machine.proofs.stack.push_row.Given as goal
use Rattle.reading_table.specs.Rows.{placed}

-- what is left of the row comes before what has been pushed
abbrev pub invariant-loop-symbol : goal.invariant-loop-symbol
invariant-loop-symbol l = placed l.note l.rest ++ l.stack ≡ placed l.note l.row ++ l.fn.stack

abbrev pub decreases-loop-symbol : goal.decreases-loop-symbol
decreases-loop-symbol l = length l.rest
