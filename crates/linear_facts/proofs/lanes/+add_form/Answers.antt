use Rattle.std.proofs.Common.{◌*ℤ◌, neg_ℤ, map, ap, sym, ◌∙◌, rules}
use Rattle.std.specs.Int.{int_wrap}
use Rattle.std.proofs.lemmas.Int.{to_z-of_z}
use mir.Syntax.{w128}
use mir.Val.{SFits}
use Rattle.linear_facts.specs.Forms.{atom, constant}
use Rattle.linear_facts.specs.Views.{shape_behind}
use Rattle.linear_facts.specs.Lanes.{seen, with_more}
use Rattle.linear_facts.proofs.LaneLaws.{with_form, added_literal, added_atom, added_sum, added_difference, added_opposite, added_multiple}
use Rattle.linear_facts.proofs.lanes.+add_form.Goals as goal

pub returns-in-Literal : goal.returns-in-Literal
returns-in-Literal t c =
    let w = to_z-of_z w128 c.args.weight c.ranges.weight in
    let n : SFits w128 c.in-Literal.value = search rules in
    let r : SFits w128 c.product.result = search rules in
    added_literal c.args.weight c.in-Literal.value c.product.result c.args.term.now c.args.lanes.now c.add_to.new.lanes
    (sym c.shape_of.ensures ∙ ap shape_behind c.in-Literal.is)
    (c.product.ensures ∙ (λ i. int_wrap w128 (w i *ℤ to_z-of_z w128 c.in-Literal.value n i)))
    (c.add_to.ensures ∙ ap (λ v. map (λ lane. with_more (seen lane constant v) lane) c.args.lanes.now) (to_z-of_z w128 c.product.result r))

pub returns-in-Sum : goal.returns-in-Sum
returns-in-Sum t c =
    let w = to_z-of_z w128 c.args.weight c.ranges.weight in
    added_sum c.args.weight c.args.term.now c.in-Sum.left.now c.in-Sum.right.now c.args.lanes.now c.add_form.new.lanes c.add_form-in-Sum.new.lanes
    (sym c.shape_of.ensures ∙ ap shape_behind c.in-Sum.is)
    (c.add_form.ensures ∙ ap (λ w. map (with_form w c.in-Sum.left.now) c.args.lanes.now) w)
    (c.add_form-in-Sum.ensures ∙ ap (λ w. map (with_form w c.in-Sum.right.now) c.add_form.new.lanes) w)

pub returns-in-Difference : goal.returns-in-Difference
returns-in-Difference t c =
    let w = to_z-of_z w128 c.args.weight c.ranges.weight in
    let r : SFits w128 c.opposite.result = search rules in
    added_difference c.args.weight c.opposite.result c.args.term.now c.in-Difference.left.now c.in-Difference.right.now c.args.lanes.now c.add_form-in-Difference.new.lanes c.add_form-in-Difference-2.new.lanes
    (sym c.shape_of.ensures ∙ ap shape_behind c.in-Difference.is)
    (c.opposite.ensures ∙ ap (λ w. int_wrap w128 (neg_ℤ w)) w)
    (c.add_form-in-Difference.ensures ∙ ap (λ w. map (with_form w c.in-Difference.left.now) c.args.lanes.now) w)
    (c.add_form-in-Difference-2.ensures ∙ ap (λ w. map (with_form w c.in-Difference.right.now) c.add_form-in-Difference.new.lanes) (to_z-of_z w128 c.opposite.result r))

pub returns-in-Opposite : goal.returns-in-Opposite
returns-in-Opposite t c =
    let w = to_z-of_z w128 c.args.weight c.ranges.weight in
    let r : SFits w128 c.opposite-in-Opposite.result = search rules in
    added_opposite c.args.weight c.opposite-in-Opposite.result c.args.term.now c.in-Opposite.inner.now c.args.lanes.now c.add_form-in-Opposite.new.lanes
    (sym c.shape_of.ensures ∙ ap shape_behind c.in-Opposite.is)
    (c.opposite-in-Opposite.ensures ∙ ap (λ w. int_wrap w128 (neg_ℤ w)) w)
    (c.add_form-in-Opposite.ensures ∙ ap (λ w. map (with_form w c.in-Opposite.inner.now) c.args.lanes.now) (to_z-of_z w128 c.opposite-in-Opposite.result r))

pub returns-in-Multiple : goal.returns-in-Multiple
returns-in-Multiple t c =
    let w = to_z-of_z w128 c.args.weight c.ranges.weight in
    let n : SFits w128 c.in-Multiple.value = search rules in
    let r : SFits w128 c.product-in-Multiple.result = search rules in
    added_multiple c.args.weight c.in-Multiple.value c.product-in-Multiple.result c.args.term.now c.in-Multiple.inner.now c.args.lanes.now c.add_form-in-Multiple.new.lanes
    (sym c.shape_of.ensures ∙ ap shape_behind c.in-Multiple.is)
    (c.product-in-Multiple.ensures ∙ (λ i. int_wrap w128 (w i *ℤ to_z-of_z w128 c.in-Multiple.value n i)))
    (c.add_form-in-Multiple.ensures ∙ ap (λ w. map (with_form w c.in-Multiple.inner.now) c.args.lanes.now) (to_z-of_z w128 c.product-in-Multiple.result r))

pub returns-in-Atom : goal.returns-in-Atom
returns-in-Atom t c =
    let w = to_z-of_z w128 c.args.weight c.ranges.weight in
    added_atom c.args.weight c.args.term.now c.args.lanes.now c.add_to-in-Atom.new.lanes
    (sym c.shape_of.ensures ∙ ap shape_behind c.in-Atom.is)
    (c.add_to-in-Atom.ensures ∙ ap (λ w. map (λ lane. with_more (seen lane (atom c.args.term.now) w) lane) c.args.lanes.now) w)
