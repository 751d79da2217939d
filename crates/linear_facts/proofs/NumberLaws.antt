-- Numbers of many lanes at once.
use Rattle.std.proofs.Common.{◌≡◌, ℕ, ◌+◌, ◌<◌, ℤ, pos, ◌+ℤ◌, ◌-ℤ◌, ◌*ℤ◌, List, [], ◌∷◌, ◌++◌, map, length, drop, get_or, Bool, true, false, ◌&&◌, Option, Some, None, refl, sym, ◌∙◌, ap, append_assoc, drop-drop}
use Rattle.std.specs.Prelude.{is_some}
use Rattle.std.specs.Option.{option_map, option_and_then}
use Rattle.std.specs.List.{list_all}
use Rattle.std.proofs.lemmas.List.{at_drop_more}
use Rattle.term_core.specs.Options.{all_some}
use Rattle.linear_facts.specs.Numbers.{small, small_of, small_first, small_pairs, small_lists, scaled_list, first_difference, small_differences, differences_fit}

drop_one : {A : Type 0} (i : ℕ) (ys : List A) → drop 1 (drop i ys) ≡ drop (i + 1) ys
drop_one i ys = drop-drop 1 i ys

pub first_at : (f : ℤ → ℤ → ℤ) (x : ℤ) (ys : List ℤ) (i : ℕ) → i < length ys → small (f x (get_or ys i (pos 0))) ≡ small_first f x (drop i ys)
first_at f x ys i l = sym (at_drop_more (small_first f x) ys i (pos 0) l)

mapped-append : (xs : List ℤ) (z : ℤ) (o : Option (List ℤ)) → option_map (λ zs. xs ++ zs) (option_map (λ zs. z ∷ zs) o) ≡ option_map (λ zs. (xs ++ z ∷ []) ++ zs) o
mapped-append xs z (Some zs) = ap Some (sym (append_assoc xs (z ∷ []) zs))
mapped-append xs z None = refl

-- one pair more
pub next_pair : (f : ℤ → ℤ → ℤ) (xs ys zs : List ℤ) (i : ℕ) (z : ℤ) → i < length xs → small_first f (get_or xs i (pos 0)) (drop i ys) ≡ Some z
    → option_map (λ r. (zs ++ z ∷ []) ++ r) (small_pairs f (drop (i + 1) xs) (drop (i + 1) ys)) ≡ option_map (λ r. zs ++ r) (small_pairs f (drop i xs) (drop i ys))
next_pair f xs ys zs i z l e = sym (
    ap (option_map (λ r. zs ++ r)) (at_drop_more (λ xs. small_pairs f xs (drop i ys)) xs i (pos 0) l
    ∙ (ap (option_and_then (λ z. option_map (λ zs. z ∷ zs) (small_pairs f (drop (i + 1) xs) (drop 1 (drop i ys))))) e
    ∙ ap (λ ys. option_map (λ zs. z ∷ zs) (small_pairs f (drop (i + 1) xs) ys)) (drop_one i ys)))
    ∙ mapped-append zs z (small_pairs f (drop (i + 1) xs) (drop (i + 1) ys)))

pub difference_at : (x : ℤ) (ys es : List ℤ) (i : ℕ) → i < length ys → i < length es
    → is_some (small (x -ℤ get_or ys i (pos 0) +ℤ get_or es i (pos 0))) ≡ first_difference x (drop i ys) (drop i es)
difference_at x ys es i l k = sym (at_drop_more (λ ys. first_difference x ys (drop i es)) ys i (pos 0) l
    ∙ at_drop_more (λ es. first_difference x (get_or ys i (pos 0) ∷ drop (i + 1) ys) es) es i (pos 0) k)

pub next_difference : (xs ys es : List ℤ) (i : ℕ) → i < length xs → first_difference (get_or xs i (pos 0)) (drop i ys) (drop i es) ≡ true
    → small_differences (drop (i + 1) xs) (drop (i + 1) ys) (drop (i + 1) es) ≡ small_differences (drop i xs) (drop i ys) (drop i es)
next_difference xs ys es i l e = sym (at_drop_more (λ xs. small_differences xs (drop i ys) (drop i es)) xs i (pos 0) l
    ∙ ((λ k. e k && small_differences (drop (i + 1) xs) (drop_one i ys k) (drop_one i es k))))

pub last_difference : (xs ys es : List ℤ) (i : ℕ) → i < length xs → first_difference (get_or xs i (pos 0)) (drop i ys) (drop i es) ≡ false → small_differences (drop i xs) (drop i ys) (drop i es) ≡ false
last_difference xs ys es i l e = at_drop_more (λ xs. small_differences xs (drop i ys) (drop i es)) xs i (pos 0) l
    ∙ ap (λ b. b && small_differences (drop (i + 1) xs) (drop 1 (drop i ys)) (drop 1 (drop i es))) e

-- ---- lists of what each member gives

none_of_two : (o : Option ℤ) → None ≡ option_and_then (λ z. option_map (λ zs. z ∷ zs) None) o
none_of_two (Some z) = refl
none_of_two None = refl

false_of_two : (b : Bool) → false ≡ (b && false)
false_of_two true = refl
false_of_two false = refl

pub all_there : {A B : Type 0} (g : A → B) (xs : List A) → all_some (map (λ x. Some (g x)) xs) ≡ Some (map g xs)
all_there g [] = refl
all_there g (x ∷ xs) = ap (option_map (λ ys. g x ∷ ys)) (all_there g xs)

module _ {A : Type 0} (f : ℤ → ℤ → ℤ) (F G : A → Option ℤ) where
  -- a list of pairs, from what the first members give
  first_pair : (o p : Option ℤ) (us vs ws : Option (List ℤ)) → small_lists f us vs ≡ ws
      → small_lists f (option_and_then (λ x. option_map (λ xs. x ∷ xs) us) o) (option_and_then (λ y. option_map (λ ys. y ∷ ys) vs) p)
      ≡ option_and_then (λ z. option_map (λ zs. z ∷ zs) ws) (small_of f o p)
  first_pair None p us vs ws e = refl
  first_pair (Some x) None (Some xs) vs ws e = refl
  first_pair (Some x) None None vs ws e = refl
  first_pair (Some x) (Some y) (Some xs) (Some ys) ws e = ap (λ o. option_and_then (λ z. option_map (λ zs. z ∷ zs) o) (small (f x y))) e
  first_pair (Some x) (Some y) None vs ws e = none_of_two (small (f x y)) ∙ ap (λ o. option_and_then (λ z. option_map (λ zs. z ∷ zs) o) (small (f x y))) e
  first_pair (Some x) (Some y) (Some xs) None ws e = none_of_two (small (f x y)) ∙ ap (λ o. option_and_then (λ z. option_map (λ zs. z ∷ zs) o) (small (f x y))) e

  pub pairs_of_all : (xs : List A) → small_lists f (all_some (map F xs)) (all_some (map G xs)) ≡ all_some (map (λ x. small_of f (F x) (G x)) xs)
  pairs_of_all [] = refl
  pairs_of_all (x ∷ xs) = first_pair (F x) (G x) (all_some (map F xs)) (all_some (map G xs)) (all_some (map (λ x. small_of f (F x) (G x)) xs)) (pairs_of_all xs)

module _ {A : Type 0} (n : ℤ) (F : A → Option ℤ) where
  first_scaled : (o : Option ℤ) (us ws : Option (List ℤ)) → option_and_then (scaled_list n) us ≡ ws
      → option_and_then (scaled_list n) (option_and_then (λ x. option_map (λ xs. x ∷ xs) us) o) ≡ option_and_then (λ z. option_map (λ zs. z ∷ zs) ws) (small_of ◌*ℤ◌ (Some n) o)
  first_scaled None us ws e = refl
  first_scaled (Some x) (Some xs) ws e = ap (λ o. option_and_then (λ z. option_map (λ zs. z ∷ zs) o) (small (n *ℤ x))) e
  first_scaled (Some x) None ws e = none_of_two (small (n *ℤ x)) ∙ ap (λ o. option_and_then (λ z. option_map (λ zs. z ∷ zs) o) (small (n *ℤ x))) e

  pub scaled_all : (xs : List A) → option_and_then (scaled_list n) (all_some (map F xs)) ≡ all_some (map (λ x. small_of ◌*ℤ◌ (Some n) (F x)) xs)
  scaled_all [] = refl
  scaled_all (x ∷ xs) = first_scaled (F x) (all_some (map F xs)) (all_some (map (λ x. small_of ◌*ℤ◌ (Some n) (F x)) xs)) (scaled_all xs)

module _ {A : Type 0} (F G : A → Option ℤ) (E : A → ℤ) where
  -- whether the differences are small, from what the first members give
  first_fits : (o p : Option ℤ) (e : ℤ) (us vs : Option (List ℤ)) (es : List ℤ) (b : Bool) → differences_fit us vs (Some es) ≡ b
      → differences_fit (option_and_then (λ x. option_map (λ xs. x ∷ xs) us) o) (option_and_then (λ y. option_map (λ ys. y ∷ ys) vs) p) (Some (e ∷ es))
      ≡ (is_some (small_of (λ x y. x -ℤ y +ℤ e) o p) && b)
  first_fits None p e us vs es b h = refl
  first_fits (Some x) None e (Some xs) vs es b h = refl
  first_fits (Some x) None e None vs es b h = refl
  first_fits (Some x) (Some y) e (Some xs) (Some ys) es b h = ap (λ c. is_some (small (x -ℤ y +ℤ e)) && c) h
  first_fits (Some x) (Some y) e None vs es b h = false_of_two (is_some (small (x -ℤ y +ℤ e))) ∙ ap (λ c. is_some (small (x -ℤ y +ℤ e)) && c) h
  first_fits (Some x) (Some y) e (Some xs) None es b h = false_of_two (is_some (small (x -ℤ y +ℤ e))) ∙ ap (λ c. is_some (small (x -ℤ y +ℤ e)) && c) h

  pub all_fit : (xs : List A) → differences_fit (all_some (map F xs)) (all_some (map G xs)) (Some (map E xs)) ≡ list_all (λ x. is_some (small_of (λ a b. a -ℤ b +ℤ E x) (F x) (G x))) xs
  all_fit [] = refl
  all_fit (x ∷ xs) = first_fits (F x) (G x) (E x) (all_some (map F xs)) (all_some (map G xs)) (map E xs) (list_all (λ x. is_some (small_of (λ a b. a -ℤ b +ℤ E x) (F x) (G x))) xs) (all_fit xs)
