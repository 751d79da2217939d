-- Lists that are compared item by item.
use Rattle.std.proofs.Common.{◌≡◌, ◌≢◌, List, [], ◌∷◌, length, Bool, true, false, refl, ◌∙◌, ap}
use Rattle.std.proofs.lemmas.Bool.{and_parts}
use lib.Pointwise.{pointwise, pointwise_long}

-- lists that aren't as long
pub unlike : {A : Type 0} (same : A → A → Bool) (xs ys : List A) → length xs ≢ length ys → pointwise same xs ys ≡ false
unlike same xs ys h = by (pointwise same xs ys) refl
  where
    by : (answer : Bool) → pointwise same xs ys ≡ answer → pointwise same xs ys ≡ false
    by false e = e
    by true e = absurd (h (pointwise_long same xs ys e))

-- lists of which each two items are the same
pub pointwise_is : {A : Type 0} (same : A → A → Bool) → ((x y : A) → same x y ≡ true → x ≡ y) → (xs ys : List A) → pointwise same xs ys ≡ true → xs ≡ ys
pointwise_is same is [] [] h = refl
pointwise_is same is [] (y ∷ ys) h = cc
pointwise_is same is (x ∷ xs) [] h = cc
pointwise_is same is (x ∷ xs) (y ∷ ys) h =
    let parts = and_parts (same x y) (pointwise same xs ys) h in
    ap (λ z. z ∷ xs) (is x y parts.0) ∙ ap (λ zs. y ∷ zs) (pointwise_is same is xs ys parts.1)
