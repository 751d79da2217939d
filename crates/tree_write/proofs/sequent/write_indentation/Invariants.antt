use Rattle.std.proofs.Common.{◌≡◌, ◌++◌}
use Rattle.tree_write.specs.SequentLines.{indentation}
use Rattle.tree_write.proofs.sequent.write_indentation.Given as goal

abbrev pub invariant-loop : goal.invariant-loop
invariant-loop l = l.out.items ≡ l.fn.out.items ++ indentation l.counter
