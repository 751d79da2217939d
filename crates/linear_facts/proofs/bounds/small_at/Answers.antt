use Rattle.std.proofs.Common.{rules, get_or, pos, ◌∙◌}
use Rattle.std.proofs.lemmas.Int.{to_z-of_z}
use mir.Syntax.{w64}
use mir.Val.{SFits}
use Rattle.linear_facts.specs.Numbers.{small, plus_or_minus}
use Rattle.linear_facts.proofs.NumberLaws.{first_at}
use Rattle.linear_facts.proofs.bounds.small_at.Goals as goal

pub returns-then-at-others : goal.returns-then-at-others
returns-then-at-others c =
    let b = get_or c.args.others.now c.args.at (pos 0) in
    let fits : SFits w64 b = search rules in
    c.small_pair.ensures ∙ ((λ i. small (plus_or_minus c.args.minus (to_z-of_z w64 c.args.a c.ranges.a i) (to_z-of_z w64 b fits i)))
    ∙ first_at (plus_or_minus c.args.minus) c.args.a c.args.others.now c.args.at c.if-at-others.true)
