use Rattle.std.proofs.Common.{◌≡◌, ℤ, List, [], ◌∷◌, map, true, if◌then◌else◌, Option, sym, ◌∙◌, ap}
use Rattle.std.proofs.lemmas.Int.{to_z-of_z}
use mir.Syntax.{w64}
use Rattle.term_core.specs.Operations.{is_zero}
use Rattle.linear_facts.specs.declared.lanes.Lane.{Lane}
use Rattle.linear_facts.specs.Facts.{Fact}
use Rattle.linear_facts.specs.Closing.{weighed}
use Rattle.linear_facts.specs.Views.{fact_behind, found}
use Rattle.linear_facts.specs.Lanes.{with_weights}
use Rattle.linear_facts.proofs.WeightLaws.{none_added}
use Rattle.linear_facts.proofs.closing.add_weight.Goals as goal

nothing_added : (c : ℤ) (fact : Option Fact) (lanes : List Lane) → weighed c fact ≡ [] → lanes ≡ map (with_weights (weighed c fact)) lanes
nothing_added c fact lanes e = sym (none_added lanes) ∙ ap (λ ws. map (with_weights ws) lanes) (sym e)

pub returns-in-None : goal.returns-in-None
returns-in-None c = nothing_added c.args.coefficient (found c.args.fact) c.args.lanes.now (ap (λ o. weighed c.args.coefficient (found o)) c.in-None.is)

pub returns-else-not-is_zero : goal.returns-else-not-is_zero
returns-else-not-is_zero c =
    let zero : is_zero c.args.coefficient ≡ true = ap is_zero (sym (to_z-of_z w64 c.args.coefficient c.ranges.coefficient)) ∙ (sym c.is_zero.ensures ∙ c.if-not-is_zero.false) in
    nothing_added c.args.coefficient (found c.args.fact) c.args.lanes.now
    (ap (λ o. weighed c.args.coefficient (found o)) c.in-Some.is ∙ ap (λ b. if b then [] else (c.args.coefficient, fact_behind c.in-Some.fact) ∷ []) zero)
