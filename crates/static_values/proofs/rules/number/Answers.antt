use Rattle.std.proofs.Common.{◌≡◌, ◌+◌, ◌-◌, ◌*◌, ◌^◌, ◌<◌, min, drop, List, ℕ, ◌∷◌, sym, ◌∙◌, ap, arith, get_or}
use Rattle.std.proofs.lemmas.List.{drop_more}
use Rattle.std.proofs.Math.ListN.{drop_of_length-le}
use Rattle.static_values.specs.Rules.{number_of}
use Rattle.static_values.proofs.Numbers.{same_up_to}
use Rattle.static_values.proofs.rules.number.Goals as goal

pub loop-digit-preserved : goal.loop-digit-preserved
loop-digit-preserved c =
    let here : drop c.loop-digit.digit-index c.args.text.now ≡ get_or c.args.text.now c.loop-digit.digit-index 0 ∷ drop (c.loop-digit.digit-index + 1) c.args.text.now = drop_more c.args.text.now c.loop-digit.digit-index 0 (omega arith) in
    record {
      small = omega arith;
      same = same_up_to (2 ^ 64 - 1) c.saturating_add-value.result (10 * c.loop-digit.value + (get_or c.args.text.now c.loop-digit.digit-index 0 - 48)) (drop (c.loop-digit.digit-index + 1) c.args.text.now) (omega arith)
          ∙ ap (λ (ds : List ℕ). min (number_of c.loop-digit.value ds) (2 ^ 64 - 1)) (sym here)
          ∙ c.loop-digit.invariant.same;
    }

pub returns : goal.returns
returns c =
    let small : c.loop-digit.value < 2 ^ 64 = c.loop-digit.invariant.small in
    let whole : c.loop-digit.value ≡ min c.loop-digit.value (2 ^ 64 - 1) = omega arith in
    whole ∙ ap (λ (ds : List ℕ). min (number_of c.loop-digit.value ds) (2 ^ 64 - 1)) (sym (drop_of_length-le c.args.text.now (omega arith))) ∙ c.loop-digit.invariant.same
