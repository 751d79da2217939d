use Rattle.std.proofs.Common.{pos, get_or, sym, ◌∙◌, rules}
use Rattle.std.specs.List.{list_all}
use Rattle.std.proofs.lemmas.Int.{to_z-of_z}
use mir.Syntax.{w64}
use mir.Val.{SFits}
use Rattle.linear_facts.specs.Closing.{weighed}
use Rattle.linear_facts.specs.Numbers.{fits_each}
use Rattle.linear_facts.proofs.WeightLaws.{all_next}
use Rattle.linear_facts.proofs.closing.weights_fit.Goals as goal

pub loop-i-preserved : goal.loop-i-preserved
loop-i-preserved c =
    let coefficient = get_or c.args.coeffs.now c.loop-i.i (pos 0) in
    let fits : SFits w64 coefficient = search rules in
    sym (all_next (λ w. fits_each c.args.lanes.now w.1) c.args.sequent.now c.args.coeffs.now c.loop-i.i c.loop-i-test.true
    ((λ i. list_all (λ w. fits_each c.args.lanes.now w.1) (weighed (sym (to_z-of_z w64 coefficient fits) i) (sym c.fact_at.ensures i)))
    ∙ (sym c.weight_fits.ensures ∙ c.if-not-weight_fits.false)))
    ∙ c.loop-i.invariant
