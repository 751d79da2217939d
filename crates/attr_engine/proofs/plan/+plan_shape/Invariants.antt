use Rattle.std.proofs.Common.{◌≡◌, ◌++◌, map, drop, length}
use Rattle.attr_engine.specs.Plans.{planned}
use Rattle.attr_engine.proofs.plan.+plan_shape.Given as goal

abbrev pub decreases-plan_shape : goal.decreases-plan_shape
decreases-plan_shape g l = goal.size-plan_shape g l

abbrev pub invariant-loop-kid : goal.invariant-loop-kid
invariant-loop-kid g l = record {
  no_deeper : goal.no_deeper-loop-kid g l;
  left : l.initial.kids ≡ l.kids ++ drop (length l.kids) l.initial.kids;
  made : l.plans ≡ map (planned g.G.Grammar.rules) (drop (length l.kids) l.initial.kids);
}

abbrev pub decreases-loop-kid : goal.decreases-loop-kid
decreases-loop-kid g l = length l.kids
