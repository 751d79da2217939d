-- The last members of a list, from the last one on.
use Rattle.std.proofs.Common.{arith, ◌≡◌, ℕ, zero, suc, ◌+◌, ◌-◌, ◌≤◌, List, [], ◌∷◌, ◌++◌, Some, sym, ◌∙◌, ap, subst, reverse, take, drop, drop_of_length-le, length, inl, inr}
use Rattle.std.specs.Prelude.{slice_get}
use Rattle.std.proofs.lemmas.Bool.{cases_lt}
use Rattle.std.proofs.lemmas.List.{reverse-append, length-reverse, length-drop, take-append-drop, take_all}
use Rattle.std.proofs.Math.Seq.{take-append_seam, drop-append_seam}

module _ {A : Type 0} (xs : List A) (n : ℕ) where
  abbrev back : List A
  back = reverse (drop (length xs - n) xs)

  abbrev front : List A
  front = reverse (take (length xs - n) xs)

  in_two : reverse xs ≡ back ++ front
  in_two = ap reverse (sym (take-append-drop (length xs - n) xs)) ∙ reverse-append (take (length xs - n) xs) (drop (length xs - n) xs)

  as_long : length back ≡ length xs - (length xs - n)
  as_long = length-reverse (drop (length xs - n) xs) ∙ length-drop (length xs - n) xs

  -- the last ones, so many or all
  pub last_taken : reverse (drop (length xs - n) xs) ≡ take n (reverse xs)
  last_taken = elim (cases_lt n (length xs)) [
    | inl h ↦
        let e : length back ≡ n = as_long ∙ omega (arith, h) in
        sym (ap (take n) in_two ∙ subst (λ m. take m (back ++ front) ≡ back) e (take-append_seam back front))
    | inr h ↦
        let z : length xs - n ≡ 0 = omega (arith, h) in
        ap (λ m. reverse (drop m xs)) z ∙ sym (take_all n (reverse xs) (subst (λ m. m ≤ n) (sym (length-reverse xs)) h))
  ]

  pub last_left : reverse (take (length xs - n) xs) ≡ drop n (reverse xs)
  last_left = elim (cases_lt n (length xs)) [
    | inl h ↦
        let e : length back ≡ n = as_long ∙ omega (arith, h) in
        sym (ap (drop n) in_two ∙ subst (λ m. drop m (back ++ front) ≡ front) e (drop-append_seam back front))
    | inr h ↦
        let z : length xs - n ≡ 0 = omega (arith, h) in
        ap (λ m. reverse (take m xs)) z ∙ sym (drop_of_length-le (reverse xs) (subst (λ m. m ≤ n) (sym (length-reverse xs)) h))
  ]

pub line_before : {A : Type 0} (old line : List A) → reverse (old ++ line) ≡ reverse line ++ reverse old
line_before old line = reverse-append old line

-- ---- what is left of a list from a place on

from_here_suc : {A : Type 0} (xs : List A) (d : ℕ) (x : A) → slice_get xs d ≡ Some x → drop d xs ≡ x ∷ drop (suc d) xs
from_here_suc [] zero x h = absurd cc
from_here_suc [] (suc d) x h = absurd cc
from_here_suc (y ∷ xs) zero x h = let z : y ≡ x = cc in ap (λ v. v ∷ xs) z
from_here_suc (y ∷ xs) (suc d) x h = from_here_suc xs d x h

pub from_here : {A : Type 0} (xs : List A) (d : ℕ) (x : A) → slice_get xs d ≡ Some x → drop d xs ≡ x ∷ drop (d + 1) xs
from_here xs d x h = let e : suc d ≡ d + 1 = omega arith in from_here_suc xs d x h ∙ ap (λ n. x ∷ drop n xs) e
