use Rattle.std.proofs.Common.{pos, map, get_or, sym, ap, ◌∙◌, rules}
use Rattle.std.proofs.lemmas.Int.{to_z-of_z}
use mir.Syntax.{w64}
use mir.Val.{SFits}
use Rattle.linear_facts.specs.Closing.{weighed}
use Rattle.linear_facts.specs.Lanes.{with_weights}
use Rattle.linear_facts.proofs.WeightLaws.{no_weights, none_added, added_next}
use Rattle.linear_facts.proofs.closing.add_weights.Goals as goal

pub loop-i-preserved : goal.loop-i-preserved
loop-i-preserved c =
    let coefficient = get_or c.args.coeffs.now c.loop-i.i (pos 0) in
    let fits : SFits w64 coefficient = search rules in
    added_next c.args.sequent.now c.args.coeffs.now c.loop-i.i c.loop-i.lanes c.add_weight.new.lanes c.loop-i-test.true
    (c.add_weight.ensures ∙ (λ i. map (with_weights (weighed (to_z-of_z w64 coefficient fits i) (c.fact_at.ensures i))) c.loop-i.lanes))
    ∙ c.loop-i.invariant

pub returns : goal.returns
returns c = sym (none_added c.loop-i.lanes)
    ∙ (ap (λ ws. map (with_weights ws) c.loop-i.lanes) (sym (no_weights c.args.sequent.now c.args.coeffs.now c.loop-i.i c.loop-i-test.false)) ∙ c.loop-i.invariant)
