use Rattle.std.proofs.Common.{◌+◌, List, ℕ, ◌∷◌, drop, get_or, sym, ap, ◌∙◌, arith}
use Rattle.std.proofs.lemmas.List.{drop_more}
use Rattle.std.proofs.Math.ListN.{drop_of_length-le}
use Rattle.ada_names.specs.Places.{has_ended}
use Rattle.ada_names.proofs.places.has_ended.Goals as goal

-- the place is a front of the other path
pub returns-else-i-place : goal.returns-else-i-place
returns-else-i-place c =
    sym (
    ap (λ (xs : List ℕ). has_ended xs (drop c.loop-i.i c.args.place.now)) (drop_more c.args.from.now c.loop-i.i 0 (omega arith))
    ∙ ap (λ (ys : List ℕ). has_ended (get_or c.args.from.now c.loop-i.i 0 ∷ drop (c.loop-i.i + 1) c.args.from.now) ys) (drop_of_length-le c.args.place.now (omega arith))
    )
    ∙ c.loop-i.invariant
