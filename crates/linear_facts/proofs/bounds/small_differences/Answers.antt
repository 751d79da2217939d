use Rattle.std.proofs.Common.{ap, sym, ◌∙◌, rules, get_or, pos, drop}
use Rattle.std.proofs.lemmas.Int.{to_z-of_z}
use mir.Syntax.{w64}
use mir.Val.{SFits}
use Rattle.linear_facts.specs.Numbers.{first_difference}
use Rattle.linear_facts.proofs.NumberLaws.{next_difference}
use Rattle.linear_facts.proofs.bounds.small_differences.Goals as goal

pub loop-i-preserved : goal.loop-i-preserved
loop-i-preserved c =
    let x = get_or c.args.left.now c.loop-i.i (pos 0) in
    let fits : SFits w64 x = search rules in
    next_difference c.args.left.now c.args.right.now c.args.extras.now c.loop-i.i c.loop-i-test.true
    (ap (λ x. first_difference x (drop c.loop-i.i c.args.right.now) (drop c.loop-i.i c.args.extras.now)) (sym (to_z-of_z w64 x fits))
    ∙ (sym c.first_difference.ensures ∙ c.if-not-first_difference.false))
    ∙ c.loop-i.invariant
