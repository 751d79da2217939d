use Rattle.std.proofs.Common.{◌≤◌, length}
use Rattle.attr_engine.specs.Nodes.{label_of}
use Rattle.attr_engine.specs.Fresh.{regrowth}
use Rattle.attr_engine.specs.Moved.{moved}
use Rattle.attr_engine.proofs.SoFar.{IsSoFar}
use Rattle.attr_engine.proofs.engine.+renew.Given as goal

abbrev pub decreases-renew : goal.decreases-renew
decreases-renew g l = goal.size-renew g l

abbrev pub invariant-loop-number : goal.invariant-loop-number
invariant-loop-number g l = record {
  within : l.number ≤ length l.kids;
  so_far : IsSoFar g.G.Grammar.rules (label_of l.old) l.input (regrowth g.G.Grammar.rules) (moved g.G.In.PartialEq.eq g.G.Out.PartialEq.eq)
      l.number l.kids l.later.nodes l.initial.steps l.steps;
}

abbrev pub decreases-loop-number : goal.decreases-loop-number
decreases-loop-number g l = l.number
