-- On lists.
use Rattle.std.proofs.Common.{◌≡◌, ℕ, zero, suc, ◌<◌, List, [], ◌∷◌, ◌++◌, length, get_or, take, drop, reverse, map, refl, sym, ◌∙◌, ap, arith}
use Rattle.std.specs.List.{AllByRecursion}
use Rattle.std.proofs.lemmas.List.{map-append, take-map, drop-map}
use Rattle.std.proofs.lemmas.Simd.{map-map}
use mathlib.Core.List.{reverse-cons}
use Rattle.attr_engine.specs.Edits.{placed, replaced}

pub map-reverse : {A B : Type 0} (f : A → B) (xs : List A) → map f (reverse xs) ≡ reverse (map f xs)
map-reverse f [] = refl
map-reverse f (x ∷ xs) = ap (map f) (reverse-cons x xs) ∙ map-append f (reverse xs) (x ∷ []) ∙ ap (λ ys. ys ++ f x ∷ []) (map-reverse f xs) ∙ sym (reverse-cons (f x) (map f xs))

-- one item, in place of the one of its number
pub placed-replaced : {A B : Type 0} (here others : A → B) (number : ℕ) (xs : List A) (x : A) → number < length xs → x ≡ get_or xs number x →
    placed number here others xs ≡ replaced number (suc number) (here x ∷ []) others xs
placed-replaced here others number [] x h e = absurd (omega arith)
placed-replaced here others zero (y ∷ ys) x h e = ap (λ z. here z ∷ map others ys) (sym e)
placed-replaced here others (suc number) (y ∷ ys) x h e = ap (λ zs. others y ∷ zs) (placed-replaced here others number ys x (omega arith) e)

-- ---- what a function gives of items that were placed or replaced

module _ {A B C : Type 0} where
  pub map-placed : (f : B → C) (number : ℕ) (here others : A → B) (xs : List A) →
      map f (placed number here others xs) ≡ placed number (λ x. f (here x)) (λ x. f (others x)) xs
  map-placed f number here others [] = refl
  map-placed f zero here others (x ∷ xs) = ap (λ ys. f (here x) ∷ ys) (map-map f others xs)
  map-placed f (suc number) here others (x ∷ xs) = ap (λ ys. f (others x) ∷ ys) (map-placed f number here others xs)

  pub placed-map : (number : ℕ) (here others : B → C) (f : A → B) (xs : List A) →
      placed number here others (map f xs) ≡ placed number (λ x. here (f x)) (λ x. others (f x)) xs
  placed-map number here others f [] = refl
  placed-map zero here others f (x ∷ xs) = ap (λ ys. here (f x) ∷ ys) (map-map others f xs)
  placed-map (suc number) here others f (x ∷ xs) = ap (λ ys. others (f x) ∷ ys) (placed-map number here others f xs)

  pub map-replaced : (f : B → C) (from to : ℕ) (made : List B) (others : A → B) (xs : List A) →
      map f (replaced from to made others xs) ≡ replaced from to (map f made) (λ x. f (others x)) xs
  map-replaced f from to made others xs =
      map-append f (map others (take from xs) ++ made) (map others (drop to xs))
      ∙ ap (λ ys. ys ++ map f (map others (drop to xs))) (map-append f (map others (take from xs)) made ∙ ap (λ ys. ys ++ map f made) (map-map f others (take from xs)))
      ∙ ap (λ ys. map (λ x. f (others x)) (take from xs) ++ map f made ++ ys) (map-map f others (drop to xs))

  pub replaced-map : (from to : ℕ) (made : List C) (others : B → C) (f : A → B) (xs : List A) →
      replaced from to made others (map f xs) ≡ replaced from to made (λ x. others (f x)) xs
  replaced-map from to made others f xs =
      ap (λ ys. map others ys ++ made ++ map others (drop to (map f xs))) (take-map f from xs)
      ∙ ap (λ ys. map others (map f (take from xs)) ++ made ++ map others ys) (drop-map f to xs)
      ∙ ap (λ ys. ys ++ made ++ map others (map f (drop to xs))) (map-map others f (take from xs))
      ∙ ap (λ ys. map (λ x. others (f x)) (take from xs) ++ made ++ ys) (map-map others f (drop to xs))

-- ---- what holds of each item

module _ {A : Type 0} (P : A → Type 0) where
  pub all_append : (xs ys : List A) → AllByRecursion P xs → AllByRecursion P ys → AllByRecursion P (xs ++ ys)
  all_append [] ys h k = k
  all_append (x ∷ xs) ys h k = (h.0, all_append xs ys h.1 k)

  pub all_take : (number : ℕ) (xs : List A) → AllByRecursion P xs → AllByRecursion P (take number xs)
  all_take zero xs h = tt
  all_take (suc number) [] h = tt
  all_take (suc number) (x ∷ xs) h = (h.0, all_take number xs h.1)

  pub all_drop : (number : ℕ) (xs : List A) → AllByRecursion P xs → AllByRecursion P (drop number xs)
  all_drop zero xs h = h
  all_drop (suc number) [] h = tt
  all_drop (suc number) (x ∷ xs) h = all_drop number xs h.1

  pub proved : (xs : List A) → AllByRecursion P xs → List ((x : A) × P x)
  proved [] h = []
  proved (x ∷ xs) h = (x, h.0) ∷ proved xs h.1

  pub proved_are : (xs : List A) (h : AllByRecursion P xs) → map (λ y. y.0) (proved xs h) ≡ xs
  unfolding proved
  proved_are [] h = refl
  proved_are (x ∷ xs) h = ap (λ ys. x ∷ ys) (proved_are xs h.1)

module _ {A B : Type 0} (P : A → Type 0) (Q : B → Type 0) where
  pub all_map : (f : A → B) → ((x : A) → P x → Q (f x)) → (xs : List A) → AllByRecursion P xs → AllByRecursion Q (map f xs)
  all_map f step [] h = tt
  all_map f step (x ∷ xs) h = (step x h.0, all_map f step xs h.1)

  pub all_placed : (number : ℕ) (here others : A → B) → ((x : A) → P x → Q (here x)) → ((x : A) → P x → Q (others x)) → (xs : List A) → AllByRecursion P xs →
      AllByRecursion Q (placed number here others xs)
  all_placed number here others at by [] h = tt
  all_placed zero here others at by (x ∷ xs) h = (at x h.0, all_map others by xs h.1)
  all_placed (suc number) here others at by (x ∷ xs) h = (by x h.0, all_placed number here others at by xs h.1)

  pub all_replaced : (from to : ℕ) (made : List B) (others : A → B) → AllByRecursion Q made → ((x : A) → P x → Q (others x)) → (xs : List A) → AllByRecursion P xs →
      AllByRecursion Q (replaced from to made others xs)
  all_replaced from to made others m by xs h =
      all_append Q (map others (take from xs) ++ made) (map others (drop to xs))
      (all_append Q (map others (take from xs)) made (all_map others by (take from xs) (all_take P from xs h)) m)
      (all_map others by (drop to xs) (all_drop P to xs h))
