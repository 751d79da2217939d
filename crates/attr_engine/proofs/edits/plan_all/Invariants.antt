use Rattle.std.proofs.Common.{◌≡◌, map}
use Rattle.attr_engine.specs.Plans.{planned}
use Rattle.attr_engine.proofs.edits.plan_all.Given as goal

abbrev pub invariant-loop-shape : goal.invariant-loop-shape
invariant-loop-shape g l = l.plans ≡ map (planned g.G.Grammar.rules) l.yielded
