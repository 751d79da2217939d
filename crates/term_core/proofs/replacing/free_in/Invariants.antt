use Rattle.std.proofs.Common.{◌≡◌, drop}
use Rattle.term_core.specs.Names.{union_all}
use Rattle.term_core.specs.Substitution.{frees}
use Rattle.term_core.specs.Substitution.{sub_of}
use Rattle.term_core.proofs.replacing.free_in.Given as goal

abbrev pub invariant-loop-i : goal.invariant-loop-i
invariant-loop-i l = l.rest ≡ union_all (frees (sub_of l.entries) (drop l.i l.names))
