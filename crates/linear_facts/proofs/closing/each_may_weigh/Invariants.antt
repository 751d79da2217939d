use Rattle.std.proofs.Common.{◌≡◌, drop}
use Rattle.linear_facts.specs.Closing.{each_may_weigh}
use Rattle.linear_facts.proofs.closing.each_may_weigh.Given as goal

abbrev pub invariant-loop-i : goal.invariant-loop-i
invariant-loop-i l = each_may_weigh l.sequent l.i (drop l.i l.coeffs) ≡ each_may_weigh l.sequent 0 l.coeffs
