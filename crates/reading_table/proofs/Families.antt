-- Members of lists one behind the other, by their number.
use Rattle.std.proofs.Common.{arith, ◌≡◌, ℕ, zero, suc, ◌-◌, ◌≤◌, List, [], ◌∷◌, ◌++◌, refl, sym, ◌∙◌, ap, Some, None, slice_get, length, map, option_map}
use Rattle.std.specs.Borrow.{Bor}
use Rattle.std.specs.List.{flat_map}
use Rattle.std.proofs.lemmas.List.{map-append}
use Rattle.std.proofs.lemmas.Option.{slice_get-map}

pub in_front : {A : Type 0} → (xs ys : List A) (n : ℕ) (x : A) → slice_get xs n ≡ Some x → slice_get (xs ++ ys) n ≡ Some x
in_front [] ys n x e = absurd cc
in_front (z ∷ xs) ys zero x e = e
in_front (z ∷ xs) ys (suc n) x e = in_front xs ys n x e

pub behind_front : {A : Type 0} → (xs ys : List A) (n : ℕ) → slice_get xs n ≡ None → (length xs ≤ n) × (slice_get (xs ++ ys) n ≡ slice_get ys (n - length xs))
behind_front [] ys n e = let d : n ≡ n - 0 = omega arith in (omega arith, ap (slice_get ys) d)
behind_front (z ∷ xs) ys zero e = absurd cc
behind_front (z ∷ xs) ys (suc n) e =
    let r = behind_front xs ys n e in
    let d : n - length xs ≡ suc n - suc (length xs) = omega arith in
    (omega (arith, r.0), r.1 ∙ ap (slice_get ys) d)

pub alike : {A : Type 0} {x y : A} {xs ys : List A} → x ≡ y → xs ≡ ys → (x ∷ xs) ≡ (y ∷ ys)
alike {y = y} {xs = xs} e f = ap (λ z. z ∷ xs) e ∙ ap (λ zs. y ∷ zs) f

map_each : {A B : Type 0} → (f : A → B) (es : List (Bor (List A))) → map f (flat_map (λ e. e.now) es) ≡ flat_map (λ x. x) (map (λ (e : Bor (List A)). map f e.now) es)
map_each f [] = refl
map_each f (e ∷ es) = map-append f e.now (flat_map (λ e. e.now) es) ∙ ap (λ z. map f e.now ++ z) (map_each f es)

-- a member's value in families whose values are told
pub told : {A B : Type 0} → (f : A → B) (es : List (Bor (List A))) (fs : List (List B)) (n : ℕ) → map (λ (e : Bor (List A)). map f e.now) es ≡ fs
    → option_map f (slice_get (flat_map (λ e. e.now) es) n) ≡ slice_get (flat_map (λ x. x) fs) n
told f es fs n e = sym (slice_get-map f (flat_map (λ e. e.now) es) n) ∙ ap (λ xs. slice_get xs n) (map_each f es) ∙ ap (λ z. slice_get (flat_map (λ x. x) z) n) e
