use Rattle.std.proofs.Common.{◌≡◌, ◌++◌, drop}
use Rattle.std.specs.List.{flat_map}
use Rattle.tree_write.specs.SequentLines.{var_line}
use Rattle.tree_write.proofs.sequent.write_vars.Given as goal

-- what is left completes the lines
abbrev pub invariant-loop-var : goal.invariant-loop-var
invariant-loop-var l = l.out.items ++ flat_map (var_line l.indent) (drop l.var-index l.vars) ≡ l.fn.out.items ++ flat_map (var_line l.indent) l.vars
