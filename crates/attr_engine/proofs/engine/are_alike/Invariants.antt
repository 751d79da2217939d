use Rattle.std.proofs.Common.{◌≡◌, drop, length}
use lib.Pointwise.{pointwise}
use Rattle.attr_engine.specs.Nodes.{outs}
use Rattle.attr_engine.proofs.engine.are_alike.Given as goal

abbrev pub invariant-loop-at : goal.invariant-loop-at
invariant-loop-at g l = record {
  as_long : length l.old ≡ length l.new;
  rest : pointwise g.Out.PartialEq.eq (outs l.old) (outs l.new) ≡ pointwise g.Out.PartialEq.eq (outs (drop l.at l.old)) (outs (drop l.at l.new));
}
