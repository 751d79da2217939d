use Rattle.std.proofs.Common.{◌≡◌, drop}
use Rattle.std.specs.List.{list_all}
use Rattle.linear_facts.specs.Closing.{weights_from, weights}
use Rattle.linear_facts.specs.Numbers.{fits_each}
use Rattle.linear_facts.proofs.closing.weights_fit.Given as goal

abbrev pub invariant-loop-i : goal.invariant-loop-i
invariant-loop-i l = list_all (λ w. fits_each l.lanes w.1) (weights_from l.sequent l.i (drop l.i l.coeffs)) ≡ list_all (λ w. fits_each l.lanes w.1) (weights l.sequent l.coeffs)
