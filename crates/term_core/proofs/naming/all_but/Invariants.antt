use Rattle.std.proofs.Common.{◌≡◌, drop, ◌++◌}
use Rattle.term_core.specs.Names.{without}
use Rattle.term_core.proofs.naming.all_but.Given as goal

abbrev pub invariant-loop-other : goal.invariant-loop-other
invariant-loop-other l = l.left ++ without l.name (drop l.other-index l.names) ≡ without l.name l.names
