use Rattle.std.proofs.Common.{◌≡◌, map, drop}
use Rattle.linear_facts.specs.Closing.{weights_from, weights}
use Rattle.linear_facts.specs.Lanes.{with_weights}
use Rattle.linear_facts.proofs.closing.add_weights.Given as goal

abbrev pub invariant-loop-i : goal.invariant-loop-i
invariant-loop-i l = map (with_weights (weights_from l.sequent l.i (drop l.i l.coeffs))) l.lanes ≡ map (with_weights (weights l.sequent l.coeffs)) l.initial.lanes
