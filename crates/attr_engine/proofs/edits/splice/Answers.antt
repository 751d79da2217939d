use Rattle.std.proofs.Common.{◌≡◌, ◌+◌, ap, ◌∙◌, arith}
use Rattle.attr_engine.specs.Fresh.{shape_of}
use Rattle.attr_engine.specs.Edits.{spliced}
use Rattle.attr_engine.specs.Plans.{planned_along}
use Rattle.attr_engine.proofs.Edited.{fresh_is_fresh, edit_right, edit_tree, edit_counts, edit_cost}
use Rattle.attr_engine.proofs.edits.splice.Goals as goal

pub settle-requires : goal.settle-requires
settle-requires g c =
    let the_rules = g.G.Grammar.rules in
    let same_in = g.G.In.PartialEq.eq in
    let same_out = g.G.Out.PartialEq.eq in
    let path = c.args.path.now in
    let from = c.args.from in
    let to = c.args.to in
    let parts = c.args.shapes.items in
    let old = c.args.tree.now.root in
    let made = c.in_ok-made.made in
    let plan = c.in_ok-plan.plan in
    let way : c.as_slice-path.result.now ≡ path = cc (c.as_slice-path.ensures.value, c.path.view_is) in
    let is : plan ≡ planned_along the_rules path from to made old = c.in_ok-plan.ensures ∙ ap (λ steps. planned_along the_rules steps from to made old) way in
    record { plan_is_right = edit_right the_rules same_in same_out path from to parts old made plan c.in_ok-made.ensures is c.args.tree.now.fresh }

pub returns-in_err-root-clause-at_most : goal.returns-in_err-root-clause-at_most
returns-in_err-root-clause-at_most g c =
    let the_rules = g.G.Grammar.rules in
    let same_in = g.G.In.PartialEq.eq in
    let same_out = g.G.Out.PartialEq.eq in
    let path = c.args.path.now in
    let from = c.args.from in
    let to = c.args.to in
    let parts = c.args.shapes.items in
    let old = c.args.tree.now.root in
    let made = c.in_ok-made.made in
    let plan = c.in_ok-plan.plan in
    let way : c.as_slice-path.result.now ≡ path = cc (c.as_slice-path.ensures.value, c.path.view_is) in
    let is : plan ≡ planned_along the_rules path from to made old = c.in_ok-plan.ensures ∙ ap (λ steps. planned_along the_rules steps from to made old) way in
    omega (arith, c.settle.ensures.at_most, edit_cost the_rules same_in same_out path from to parts old made plan c.in_ok-made.ensures is c.args.input)

pub invariant_of-result : goal.invariant_of-result
invariant_of-result g c =
    let the_rules = g.G.Grammar.rules in
    let same_in = g.G.In.PartialEq.eq in
    let same_out = g.G.Out.PartialEq.eq in
    let path = c.args.path.now in
    let from = c.args.from in
    let to = c.args.to in
    let parts = c.args.shapes.items in
    let old = c.args.tree.now.root in
    let made = c.in_ok-made.made in
    let plan = c.in_ok-plan.plan in
    let way : c.as_slice-path.result.now ≡ path = cc (c.as_slice-path.ensures.value, c.path.view_is) in
    let is : plan ≡ planned_along the_rules path from to made old = c.in_ok-plan.ensures ∙ ap (λ steps. planned_along the_rules steps from to made old) way in
    record {
      fresh = fresh_is_fresh the_rules same_in same_out (spliced path from to parts (shape_of old)) c.args.input c.in_ok-root.root
          (c.in_ok-root.ensures.fresh ∙ edit_tree the_rules same_in same_out path from to parts old made plan c.in_ok-made.ensures is c.args.input);
    }

pub returns-clause-fresh : goal.returns-clause-fresh
returns-clause-fresh g c =
    let the_rules = g.G.Grammar.rules in
    let same_in = g.G.In.PartialEq.eq in
    let same_out = g.G.Out.PartialEq.eq in
    let path = c.args.path.now in
    let from = c.args.from in
    let to = c.args.to in
    let parts = c.args.shapes.items in
    let old = c.args.tree.now.root in
    let made = c.in_ok-made.made in
    let plan = c.in_ok-plan.plan in
    let way : c.as_slice-path.result.now ≡ path = cc (c.as_slice-path.ensures.value, c.path.view_is) in
    let is : plan ≡ planned_along the_rules path from to made old = c.in_ok-plan.ensures ∙ ap (λ steps. planned_along the_rules steps from to made old) way in
    c.in_ok-root.ensures.fresh ∙ edit_tree the_rules same_in same_out path from to parts old made plan c.in_ok-made.ensures is c.args.input

pub returns-clause-ticks : goal.returns-clause-ticks
returns-clause-ticks g c =
    let the_rules = g.G.Grammar.rules in
    let same_in = g.G.In.PartialEq.eq in
    let same_out = g.G.Out.PartialEq.eq in
    let path = c.args.path.now in
    let from = c.args.from in
    let to = c.args.to in
    let parts = c.args.shapes.items in
    let old = c.args.tree.now.root in
    let made = c.in_ok-made.made in
    let plan = c.in_ok-plan.plan in
    let way : c.as_slice-path.result.now ≡ path = cc (c.as_slice-path.ensures.value, c.path.view_is) in
    let is : plan ≡ planned_along the_rules path from to made old = c.in_ok-plan.ensures ∙ ap (λ steps. planned_along the_rules steps from to made old) way in
    c.in_ok-root.ensures.ticks ∙ ap (λ n. c.args.steps.now + n) (edit_counts the_rules same_in same_out path from to parts old made plan c.in_ok-made.ensures is c.in_ok-root.root)

pub returns-clause-at_most : goal.returns-clause-at_most
returns-clause-at_most g c =
    let the_rules = g.G.Grammar.rules in
    let same_in = g.G.In.PartialEq.eq in
    let same_out = g.G.Out.PartialEq.eq in
    let path = c.args.path.now in
    let from = c.args.from in
    let to = c.args.to in
    let parts = c.args.shapes.items in
    let old = c.args.tree.now.root in
    let made = c.in_ok-made.made in
    let plan = c.in_ok-plan.plan in
    let way : c.as_slice-path.result.now ≡ path = cc (c.as_slice-path.ensures.value, c.path.view_is) in
    let is : plan ≡ planned_along the_rules path from to made old = c.in_ok-plan.ensures ∙ ap (λ steps. planned_along the_rules steps from to made old) way in
    omega (arith, c.settle.ensures.at_most, edit_cost the_rules same_in same_out path from to parts old made plan c.in_ok-made.ensures is c.args.input)
