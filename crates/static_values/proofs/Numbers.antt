-- Values of literals, where they are kept up to a greatest number.
use Rattle.std.proofs.Common.{◌≡◌, ℕ, ◌+◌, ◌-◌, ◌*◌, min, List, [], ◌∷◌, arith}
use Rattle.static_values.specs.Rules.{number_of}

pub same_up_to : (most n m : ℕ) (digits : List ℕ) → min n most ≡ min m most → min (number_of n digits) most ≡ min (number_of m digits) most
same_up_to most n m [] h = h
same_up_to most n m (digit ∷ digits) h = same_up_to most (10 * n + (digit - 48)) (10 * m + (digit - 48)) digits (step n m (digit - 48) h)
  where
    step : (n m k : ℕ) → min n most ≡ min m most → min (10 * n + k) most ≡ min (10 * m + k) most
    step n m k h = omega arith
