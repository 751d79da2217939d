use Rattle.std.proofs.Common.{◌≡◌, map, take}
use Rattle.attr_engine.specs.Rules.{values}
use Rattle.attr_engine.specs.Plans.{plan_need}
use Rattle.attr_engine.proofs.plan.needs_of.Given as goal

abbrev pub invariant-loop-plan : goal.invariant-loop-plan
invariant-loop-plan g l = values l.needs.items ≡ map plan_need (take l.plan-index l.plans)
