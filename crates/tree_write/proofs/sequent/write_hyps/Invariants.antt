use Rattle.std.proofs.Common.{◌≡◌, ◌+◌, ◌++◌, drop}
use Rattle.tree_write.specs.SequentLines.{hyp_lines}
use Rattle.tree_write.proofs.sequent.write_hyps.Given as goal

-- what is left completes the lines
abbrev pub invariant-loop-i : goal.invariant-loop-i
invariant-loop-i l = l.out.items ++ hyp_lines l.indent l.names (l.i + 1) (drop l.i l.hyps) ≡ l.fn.out.items ++ hyp_lines l.indent l.names 1 l.hyps
