use Rattle.std.proofs.Common.{◌≡◌, ◌+◌, ◌++◌, ◌∷◌, [], rules, drop, get_or, pos, length, sym, ap, ◌∙◌, arith, length-append}
use Rattle.std.specs.Option.{option_map}
use Rattle.std.proofs.lemmas.Int.{to_z-of_z}
use mir.Syntax.{w64}
use mir.Val.{SFits}
use Rattle.linear_facts.specs.Numbers.{plus_or_minus, small_first, small_pairs}
use Rattle.linear_facts.proofs.NumberLaws.{next_pair}
use Rattle.linear_facts.proofs.bounds.small_pairs.Goals as goal

pub loop-i-preserved : goal.loop-i-preserved
loop-i-preserved c =
    let x : SFits w64 (get_or c.args.a.now c.loop-i.i (pos 0)) = search rules in
    let z : SFits w64 c.in-Some.number = search rules in
    let f = plus_or_minus c.args.minus in
    let items : c.push.new.self.items ≡ c.loop-i.numbers.items ++ c.in-Some.number ∷ [] = c.push.ensures.items ∙ ap (λ z. c.loop-i.numbers.items ++ z ∷ []) (to_z-of_z w64 c.in-Some.number z) in
    let first = ap (λ x. small_first f x (drop c.loop-i.i c.args.b.now)) (sym (to_z-of_z w64 (get_or c.args.a.now c.loop-i.i (pos 0)) x)) ∙ (sym c.small_at.ensures ∙ c.in-Some.is) in
    record {
      number = ap length items ∙ (grind (arith, length-append, c.loop-i.invariant.number));
      all = ap (λ zs. option_map (λ r. zs ++ r) (small_pairs f (drop (c.loop-i.i + 1) c.args.a.now) (drop (c.loop-i.i + 1) c.args.b.now))) items
          ∙ (next_pair f c.args.a.now c.args.b.now c.loop-i.numbers.items c.loop-i.i c.in-Some.number c.loop-i-test.true first ∙ c.loop-i.invariant.all);
    }
