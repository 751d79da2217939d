use Rattle.std.proofs.Common.{pos, map, ◌&&◌, refl, sym, ap, ◌∙◌}
use Rattle.std.specs.List.{list_all}
use Rattle.std.specs.Ordering.{int_eq}
use Rattle.linear_facts.specs.Closing.{weights}
use Rattle.linear_facts.specs.Lanes.{with_weights}
use Rattle.linear_facts.proofs.SumLaws.{written_back, right_parts}
use Rattle.linear_facts.proofs.closing.are_right.Goals as goal

pub returns-then-weights_fit : goal.returns-then-weights_fit
returns-then-weights_fit c =
    let ws = weights c.args.sequent.now c.args.coeffs.now in
    let lanes = c.lanes_of-lanes.result.items in
    let done = c.as_slice.ensures.value ∙ written_back ws lanes c.add_weights.new.lanes (c.add_weights.ensures ∙ ap (map (with_weights ws)) c.as_mut_slice.ensures.value) in
    let again = c.as_slice-then-weights_fit.ensures.value ∙ sym c.as_slice.ensures.value in
    ap (λ fit. fit && c.are_zero.result) (sym c.if-weights_fit.true)
    ∙ right_parts ws lanes c.as_slice.result.now c.args.parts.now c.weights_fit.result c.are_zero.result c.lanes_of-lanes.ensures.fresh c.lanes_of-lanes.ensures.parts done c.weights_fit.ensures
    (c.are_zero.ensures ∙ ap (list_all (λ lane. int_eq lane.sum (pos 0))) again)

pub returns-else-weights_fit : goal.returns-else-weights_fit
returns-else-weights_fit c =
    let ws = weights c.args.sequent.now c.args.coeffs.now in
    let lanes = c.lanes_of-lanes.result.items in
    let done = c.as_slice.ensures.value ∙ written_back ws lanes c.add_weights.new.lanes (c.add_weights.ensures ∙ ap (map (with_weights ws)) c.as_mut_slice.ensures.value) in
    let zero = list_all (λ lane. int_eq lane.sum (pos 0)) c.as_slice.result.now in
    c.if-weights_fit.false ∙ (ap (λ fit. fit && zero) (sym c.if-weights_fit.false)
    ∙ right_parts ws lanes c.as_slice.result.now c.args.parts.now c.weights_fit.result zero c.lanes_of-lanes.ensures.fresh c.lanes_of-lanes.ensures.parts done c.weights_fit.ensures refl)
