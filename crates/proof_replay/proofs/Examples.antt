-- Passes over numbers, where what fits is equal.
use Rattle.std.proofs.Common.{◌≡◌, ℕ, List, [], ◌∷◌, ◌==◌, Option, Some, None, refl}
use Rattle.proof_replay.specs.Carrying.{untaken, pass}

abbrev equal_numbers : List ℕ → List ℕ → List (Option ℕ) → List (Option ℕ)
equal_numbers = pass (λ p o. p == o)

-- each the first that is left, with its number from 0
in_order : equal_numbers (7 ∷ 8 ∷ 7 ∷ 7 ∷ []) (8 ∷ 7 ∷ 9 ∷ 7 ∷ []) (None ∷ None ∷ None ∷ None ∷ []) ≡ Some 1 ∷ Some 0 ∷ Some 3 ∷ None ∷ []
in_order = refl

-- what was taken before stays, and isn't taken again
after_others : equal_numbers (9 ∷ 7 ∷ 8 ∷ []) (7 ∷ 8 ∷ 9 ∷ 7 ∷ []) (Some 0 ∷ None ∷ None ∷ []) ≡ Some 0 ∷ Some 3 ∷ Some 1 ∷ []
after_others = refl

left : untaken {O = ℕ} (Some 1 ∷ None ∷ []) (7 ∷ 8 ∷ 9 ∷ []) ≡ (7, 0) ∷ (9, 2) ∷ []
left = refl
