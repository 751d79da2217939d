-- Places in a document: paths, and what has ended before a place.
use Rattle.std.specs.Prelude.{ℕ, List, [], ◌∷◌, ◌++◌, Bool, true, false, ◌&&◌, ◌||◌, nat_eq, nat_lt}

infixl 6 ◌▸◌
-- the path of a kid
abbrev pub ◌▸◌ : List ℕ → ℕ → List ℕ
path ▸ number = path ++ number ∷ []

-- The node at the first path has ended where the place begins: it stands before the place in the text, and not round it.
abbrev pub has_ended : List ℕ → List ℕ → Bool
has_ended [] place = false
has_ended (x ∷ xs) [] = false
has_ended (x ∷ xs) (y ∷ ys) = nat_lt x y || (nat_eq x y && has_ended xs ys)

-- the place is the node at the first path, or inside it
abbrev pub is_in : List ℕ → List ℕ → Bool
is_in [] place = true
is_in (x ∷ xs) [] = false
is_in (x ∷ xs) (y ∷ ys) = nat_eq x y && is_in xs ys
