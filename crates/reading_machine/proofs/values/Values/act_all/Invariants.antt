use Rattle.std.proofs.Common.{◌≡◌, Bool, drop}
use Rattle.reading_machine.proofs.values.Values.act_all.Given as goal
use Rattle.reading_machine.specs.Values.{weighed_of}
use Rattle.reading_table.specs.Machine.{apply}
use Rattle.reading_table.specs.Rows.{placed}
use Rattle.reading_table.specs.Weighed.{weighed_table}

-- what is left to do makes of the state what all make of it at first
abbrev pub invariant-loop-symbol : goal.invariant-loop-symbol
invariant-loop-symbol l =
    (note : Bool) → apply weighed_table (placed note (drop l.symbol-index l.symbols)) (weighed_of l.self) ≡ apply weighed_table (placed note l.symbols) (weighed_of l.fn.self)
