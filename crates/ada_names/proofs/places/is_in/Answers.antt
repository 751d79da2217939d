use Rattle.std.proofs.Common.{◌+◌, List, ℕ, ◌∷◌, drop, get_or, sym, ap, ◌∙◌, arith}
use Rattle.std.proofs.lemmas.List.{drop_more}
use Rattle.std.proofs.Math.ListN.{drop_of_length-le}
use Rattle.ada_names.specs.Places.{is_in}
use Rattle.ada_names.proofs.places.is_in.Goals as goal

-- the place is a front of the other path
pub returns-then-i-place : goal.returns-then-i-place
returns-then-i-place c =
    sym (
    ap (λ (xs : List ℕ). is_in xs (drop c.loop-i.i c.args.place.now)) (drop_more c.args.node.now c.loop-i.i 0 (omega arith))
    ∙ ap (λ (ys : List ℕ). is_in (get_or c.args.node.now c.loop-i.i 0 ∷ drop (c.loop-i.i + 1) c.args.node.now) ys) (drop_of_length-le c.args.place.now (omega arith))
    )
    ∙ c.loop-i.invariant
