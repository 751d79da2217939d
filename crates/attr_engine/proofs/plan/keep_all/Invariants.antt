use Rattle.std.proofs.Common.{◌≡◌, map, take}
use Rattle.attr_engine.specs.Plans.{kept_plan}
use Rattle.attr_engine.proofs.plan.keep_all.Given as goal

abbrev pub invariant-loop-node : goal.invariant-loop-node
invariant-loop-node g l = l.plans ≡ map kept_plan (take l.node-index l.nodes)
