-- The highest of heights, in any order.
use Rattle.std.proofs.Common.{arith, ◌≡◌, refl, max}
use Rattle.reading_table.specs.declared.need.Height.{Height}
use Rattle.reading_table.specs.Heights.{higher}

pub higher_all : (a b c : Height) → higher (higher a b) c ≡ higher a (higher b c)
higher_all a b c =
    let n : max (max a.nodes b.nodes) c.nodes ≡ max a.nodes (max b.nodes c.nodes) = omega arith in
    let s : max (max a.steps b.steps) c.steps ≡ max a.steps (max b.steps c.steps) = omega arith in
    rw (n, s) refl
