use Rattle.std.proofs.Common.{◌+◌, ap, ◌∙◌, arith}
use Rattle.attr_engine.specs.Plans.{plan_moved}
use Rattle.attr_engine.proofs.Edited.{fresh_is_fresh, shape_right, shape_tree, shape_cost}
use Rattle.attr_engine.proofs.edits.attribute.Goals as goal

pub settle-requires : goal.settle-requires
settle-requires g c = record { plan_is_right = shape_right g.G.Grammar.rules g.G.In.PartialEq.eq g.G.Out.PartialEq.eq c.args.shape c.in_ok-plan.plan c.in_ok-plan.ensures }

pub returns-in_err-root-clause-at_most : goal.returns-in_err-root-clause-at_most
returns-in_err-root-clause-at_most g c =
    omega (arith, c.settle.ensures.at_most, shape_cost g.G.Grammar.rules g.G.In.PartialEq.eq g.G.Out.PartialEq.eq c.args.shape c.in_ok-plan.plan c.in_ok-plan.ensures c.args.input)

pub invariant_of-result : goal.invariant_of-result
invariant_of-result g c =
    let tree = shape_tree g.G.Grammar.rules g.G.In.PartialEq.eq g.G.Out.PartialEq.eq c.args.shape c.in_ok-plan.plan c.in_ok-plan.ensures c.args.input in
    record { fresh = fresh_is_fresh g.G.Grammar.rules g.G.In.PartialEq.eq g.G.Out.PartialEq.eq c.args.shape c.args.input c.in_ok-root.root (c.in_ok-root.ensures.fresh ∙ tree) }

pub returns-clause-fresh : goal.returns-clause-fresh
returns-clause-fresh g c =
    c.in_ok-root.ensures.fresh ∙ shape_tree g.G.Grammar.rules g.G.In.PartialEq.eq g.G.Out.PartialEq.eq c.args.shape c.in_ok-plan.plan c.in_ok-plan.ensures c.args.input

pub returns-clause-ticks : goal.returns-clause-ticks
returns-clause-ticks g c =
    let start = c.args.steps.now in
    c.in_ok-root.ensures.ticks ∙ ap (λ n. start + plan_moved g.G.In.PartialEq.eq g.G.Out.PartialEq.eq c.in_ok-plan.plan n) c.in_ok-root.ensures.fresh
    ∙ ap (λ n. start + n) (shape_cost g.G.Grammar.rules g.G.In.PartialEq.eq g.G.Out.PartialEq.eq c.args.shape c.in_ok-plan.plan c.in_ok-plan.ensures c.args.input)

pub returns-clause-at_most : goal.returns-clause-at_most
returns-clause-at_most g c =
    omega (arith, c.settle.ensures.at_most, shape_cost g.G.Grammar.rules g.G.In.PartialEq.eq g.G.Out.PartialEq.eq c.args.shape c.in_ok-plan.plan c.in_ok-plan.ensures c.args.input)
