-- A key tells its cut and its ordinal: they stand before and after its last dot.
use Rattle.base_kit.specs.Bytes.{dot}
use Rattle.std.proofs.Common.{◌≡◌, ℕ, zero, suc, ◌<◌, ◌^◌, List, [], ◌∷◌, ◌++◌, subst, refl, arith}
use Rattle.std.proofs.lemmas.Fmt.{decimal_injective, decimal_is_IsNumeral}
use Rattle.std.specs.Char.{digit_value}
use Rattle.std.specs.Fmt.{decimal}
use Rattle.std.specs.Str.Parse.{AllDigits}
use Rattle.proof_replay.specs.Keys.{key_from}

abbrev NoDot : List ℕ → Type 0
NoDot [] = Unit {0}
NoDot (x ∷ xs) = (x ≡ dot → ⊥) × NoDot xs

digits_alone : (xs : List ℕ) → AllDigits 10 xs → NoDot xs
digits_alone [] h = tt
digits_alone (x ∷ xs) h = (λ e. let d : digit_value dot < 10 = subst (λ c. digit_value c < 10) e h.0 in omega (arith, d), digits_alone xs h.1)

within : (ys b : List ℕ) → NoDot (ys ++ dot ∷ b) → ⊥
within [] b h = h.0 refl
within (y ∷ ys) b h = within ys b h.1

last_dot : (xs ys a b : List ℕ) → NoDot a → NoDot b → xs ++ dot ∷ a ≡ ys ++ dot ∷ b → (xs ≡ ys) × (a ≡ b)
last_dot [] [] a b h g e = (refl, cc)
last_dot [] (y ∷ ys) a b h g e = let s : a ≡ ys ++ dot ∷ b = cc in absurd (within ys b (rw (← s) h))
last_dot (x ∷ xs) [] a b h g e = let s : b ≡ xs ++ dot ∷ a = cc in absurd (within xs a (rw (← s) g))
last_dot (x ∷ xs) (y ∷ ys) a b h g e =
    let s : x ≡ y = cc in
    let r = last_dot xs ys a b h g cc in
    (λ i. s i ∷ r.0 i, r.1)

decimal_alone : (n : ℕ) → n < 2 ^ 32 → NoDot (decimal n)
decimal_alone n h = digits_alone (decimal n) (decimal_is_IsNumeral n (omega (arith, h))).0.1

long : (c d : List ℕ) (m n : ℕ) → m < 2 ^ 32 → n < 2 ^ 32 → c ++ dot ∷ decimal m ≡ d ++ dot ∷ decimal n → (c ≡ d) × (m ≡ n)
long c d m n h g e =
    let r = last_dot c d (decimal m) (decimal n) (decimal_alone m h) (decimal_alone n g) e in
    (r.0, decimal_injective m n (omega (arith, h)) (omega (arith, g)) r.1)

pub keys_tell : (c d : List ℕ) (m n : ℕ) → m < 2 ^ 32 → n < 2 ^ 32 → key_from c m ≡ key_from d n → (c ≡ d) × (m ≡ n)
keys_tell [] [] zero zero h g e = (refl, refl)
keys_tell [] [] zero (suc n) h g e = cc
keys_tell [] [] (suc m) zero h g e = cc
keys_tell [] [] (suc m) (suc n) h g e = long [] [] (suc m) (suc n) h g e
keys_tell [] (y ∷ d) zero n h g e = cc
keys_tell [] (y ∷ d) (suc m) n h g e = long [] (y ∷ d) (suc m) n h g e
keys_tell (x ∷ c) [] m zero h g e = cc
keys_tell (x ∷ c) [] m (suc n) h g e = long (x ∷ c) [] m (suc n) h g e
keys_tell (x ∷ c) (y ∷ d) m n h g e = long (x ∷ c) (y ∷ d) m n h g e
