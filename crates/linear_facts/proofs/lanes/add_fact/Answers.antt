use Rattle.std.proofs.Common.{◌*ℤ◌, neg_ℤ, map, ap, ◌∙◌, rules}
use Rattle.std.specs.Int.{int_wrap}
use Rattle.std.proofs.lemmas.Int.{to_z-of_z}
use mir.Syntax.{w64, w128}
use mir.Val.{SFits, to_z, of_z}
use Rattle.linear_facts.specs.Forms.{constant}
use Rattle.linear_facts.specs.Views.{fact_behind}
use Rattle.linear_facts.specs.Facts.{left_of, right_of, extra_of}
use Rattle.linear_facts.specs.Lanes.{seen, with_more}
use Rattle.linear_facts.proofs.LaneLaws.{with_form, added_fact}
use Rattle.linear_facts.proofs.lanes.add_fact.Goals as goal

pub returns : goal.returns
returns c =
    let fact = fact_behind c.args.fact in
    let w = to_z-of_z w128 c.args.weight c.ranges.weight in
    let e : SFits w128 c.extra.result = search rules in
    let d : SFits w64 c.extra.result = search rules in
    let extra = ap (λ z. to_z w128 (of_z w128 z)) (to_z-of_z w64 c.extra.result d) ∙ (to_z-of_z w128 c.extra.result e ∙ c.extra.ensures) in
    let v : SFits w128 c.opposite.result = search rules in
    let u : SFits w128 c.product.result = search rules in
    added_fact c.args.weight c.opposite.result c.product.result (extra_of fact) (left_of fact) (right_of fact) c.args.lanes.now c.add_form.new.lanes c.add_form-2.new.lanes c.add_to.new.lanes
    (c.opposite.ensures ∙ ap (λ w. int_wrap w128 (neg_ℤ w)) w)
    (c.product.ensures ∙ (λ i. int_wrap w128 (w i *ℤ extra i)))
    (c.add_form.ensures ∙ (λ i. map (with_form (w i) (c.left.ensures i)) c.args.lanes.now))
    (c.add_form-2.ensures ∙ (λ i. map (with_form (to_z-of_z w128 c.opposite.result v i) (c.right.ensures i)) c.add_form.new.lanes))
    (c.add_to.ensures ∙ ap (λ u. map (λ lane. with_more (seen lane constant u) lane) c.add_form-2.new.lanes) (to_z-of_z w128 c.product.result u))
