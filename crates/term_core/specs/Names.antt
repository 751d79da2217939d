-- Lists of distinct names, and names apart from others.
use Rattle.std.specs.Prelude.{ℕ, zero, suc, List, [], ◌∷◌, ◌++◌, length, reverse, Bool, false, ◌||◌, ◌==◌, bytes_eq, if◌then◌else◌}

abbrev pub has : List (List ℕ) → List ℕ → Bool
has [] x = false
has (y ∷ ys) x = bytes_eq y x || has ys x

-- those of xs, and those of ys that xs hasn't
abbrev pub union : List (List ℕ) → List (List ℕ) → List (List ℕ)
union xs [] = xs
union xs (y ∷ ys) = if has xs y then union xs ys else union (xs ++ y ∷ []) ys

abbrev pub without : List ℕ → List (List ℕ) → List (List ℕ)
without x [] = []
without x (y ∷ ys) = if bytes_eq y x then without x ys else y ∷ without x ys

abbrev pub union_all : List (List (List ℕ)) → List (List ℕ)
union_all [] = []
union_all (xs ∷ xss) = union xs (union_all xss)

-- the byte `'`
abbrev pub tick : ℕ
tick = 39

-- `x` with as few ticks as keep it apart from the names of `taken`, at most n of them
abbrev pub apart_from : ℕ → List (List ℕ) → List ℕ → List ℕ
apart_from zero taken x = x
apart_from (suc n) taken x = if has taken x then apart_from n taken (x ++ tick ∷ []) else x

abbrev pub drop_ticks : List ℕ → List ℕ
drop_ticks [] = []
drop_ticks (b ∷ x) = if b == tick then drop_ticks x else b ∷ x

-- a name without any tick at its end
abbrev pub base : List ℕ → List ℕ
base x = reverse (drop_ticks (reverse x))

-- the base of a name, with as few ticks as keep it apart from the names that are taken
abbrev pub fresh : List (List ℕ) → List ℕ → List ℕ
fresh taken x = apart_from (length taken) taken (base x)
