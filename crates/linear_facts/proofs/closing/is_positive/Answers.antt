use Rattle.std.proofs.Common.{pos, ◌&&◌, sym, ap, ◌∙◌}
use Rattle.std.specs.Prelude.{int_lt}
use Rattle.std.specs.Int.{int_wrap}
use Rattle.std.proofs.lemmas.Int.{to_z-of_z, SFits-int_wrap}
use mir.Syntax.{w128}
use mir.Val.{to_z, of_z}
use Rattle.linear_facts.specs.Closing.{weights, total}
use Rattle.linear_facts.specs.Forms.{constant}
use Rattle.linear_facts.specs.Views.{part_behind}
use Rattle.linear_facts.specs.Lanes.{part_mark, IsFresh}
use Rattle.linear_facts.proofs.SumLaws.{constant_fits, constant_sum}
use Rattle.linear_facts.proofs.closing.is_positive.Goals as goal

pub returns-then-weights_fit : goal.returns-then-weights_fit
returns-then-weights_fit c =
    let ws = weights c.args.sequent.now c.args.coeffs.now in
    let is = ap part_behind c.of.ensures.part in
    let fresh : IsFresh c.of.result = record { mark = c.of.ensures.mark ∙ sym (ap (λ p. part_mark (part_behind p)) c.of.ensures.part); sum = c.of.ensures.sum } in
    let fit = constant_fits ws c.of.result c.add_weights.new.lanes c.weights_fit.result is fresh c.add_weights.ensures c.weights_fit.ensures in
    let sum = constant_sum ws c.of.result c.add_weights.new.lanes c.index-lanes-0.result is fresh c.add_weights.ensures in
    let wrapped = int_wrap w128 (total ws constant) in
    ap (int_lt (pos 0)) (ap (λ z. to_z w128 (of_z w128 z)) sum ∙ to_z-of_z w128 wrapped (SFits-int_wrap w128 (total ws constant)))
    ∙ ap (λ b. b && int_lt (pos 0) wrapped) (sym c.if-weights_fit.true ∙ fit)

pub returns-else-weights_fit : goal.returns-else-weights_fit
returns-else-weights_fit c =
    let ws = weights c.args.sequent.now c.args.coeffs.now in
    let fresh : IsFresh c.of.result = record { mark = c.of.ensures.mark ∙ sym (ap (λ p. part_mark (part_behind p)) c.of.ensures.part); sum = c.of.ensures.sum } in
    let fit = constant_fits ws c.of.result c.add_weights.new.lanes c.weights_fit.result (ap part_behind c.of.ensures.part) fresh c.add_weights.ensures c.weights_fit.ensures in
    c.if-weights_fit.false ∙ ap (λ b. b && int_lt (pos 0) (int_wrap w128 (total ws constant))) (sym c.if-weights_fit.false ∙ fit)
