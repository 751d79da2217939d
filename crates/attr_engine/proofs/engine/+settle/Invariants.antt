use Rattle.std.proofs.Common.{◌≤◌, length}
use Rattle.attr_engine.specs.Plans.{plan_growth, plan_moved}
use Rattle.attr_engine.proofs.SoFar.{IsSoFar}
use Rattle.attr_engine.proofs.engine.+settle.Given as goal

abbrev pub invariant-settle_kids-loop-number : goal.invariant-settle_kids-loop-number
invariant-settle_kids-loop-number g l = record {
  within : l.number ≤ length l.plans;
  so_far : IsSoFar g.G.Grammar.rules l.label l.input (plan_growth g.G.Grammar.rules) (plan_moved g.G.In.PartialEq.eq g.G.Out.PartialEq.eq)
      l.number l.plans l.later.nodes l.initial.steps l.steps;
}

abbrev pub decreases-settle_kids-loop-number : goal.decreases-settle_kids-loop-number
decreases-settle_kids-loop-number g l = l.number
