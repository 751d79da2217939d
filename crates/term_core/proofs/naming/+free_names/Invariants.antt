use Rattle.std.proofs.Common.{◌≡◌, drop, map}
use Rattle.term_core.specs.Names.{union_all}
use Rattle.term_core.specs.Substitution.{free}
use Rattle.term_core.proofs.naming.+free_names.Given as goal

abbrev pub invariant-loop-i : goal.invariant-loop-i
invariant-loop-i l = l.rest ≡ union_all (map free (drop l.i l.parts))
