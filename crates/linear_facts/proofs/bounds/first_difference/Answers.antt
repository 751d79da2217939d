use Rattle.std.proofs.Common.{◌+ℤ◌, ◌-ℤ◌, rules, get_or, pos, ◌∙◌, ap}
use Rattle.std.specs.Prelude.{is_some}
use Rattle.std.proofs.lemmas.Int.{to_z-of_z}
use mir.Syntax.{w64, w128}
use mir.Val.{SFits}
use Rattle.linear_facts.specs.Numbers.{small}
use Rattle.linear_facts.proofs.NumberLaws.{difference_at}
use Rattle.linear_facts.proofs.bounds.first_difference.Goals as goal

pub returns-then-at-extras : goal.returns-then-at-extras
returns-then-at-extras c =
    let y = get_or c.args.others.now c.args.at (pos 0) in
    let e = get_or c.args.extras.now c.args.at (pos 0) in
    let fy : SFits w64 y = search rules in
    let fe : SFits w64 e = search rules in
    let fd : SFits w128 c.difference.result = search rules in
    c.is_small.ensures ∙ (ap (λ z. is_some (small z)) (to_z-of_z w128 c.difference.result fd ∙ (c.difference.ensures
    ∙ (λ i. to_z-of_z w64 c.args.x c.ranges.x i -ℤ to_z-of_z w64 y fy i +ℤ to_z-of_z w64 e fe i)))
    ∙ difference_at c.args.x c.args.others.now c.args.extras.now c.args.at c.if-at-others.true c.if-at-extras.true)
