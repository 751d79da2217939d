-- What is in lists of names, and steps of loops over them.
use Rattle.std.proofs.Common.{◌≡◌, ℕ, zero, suc, ◌+◌, ◌-◌, ◌<◌, List, [], ◌∷◌, ◌++◌, length, take, drop, get_or, reverse, Bool, true, false, ◌||◌, eqb, if◌then◌else◌, refl, sym, ◌∙◌, ap, arith}
use Rattle.std.specs.Prelude.{bytes_eq}
use Rattle.std.specs.Cmp.Lexicographic.{bytes_decides}
use Rattle.std.proofs.lemmas.List.{at_drop_more, take_more, reverse-append, reverse-reverse}
use Rattle.term_core.specs.Names.{has, without, tick, drop_ticks, base, apart_from}

pub same_name : (x y : List ℕ) → bytes_eq x y ≡ true → x ≡ y
same_name x y = (bytes_decides x y).0

pub name_refl : (x : List ℕ) → bytes_eq x x ≡ true
name_refl x = (bytes_decides x x).1 refl

-- ---- loops forward

pub has_found : (xs : List (List ℕ)) (i : ℕ) (d z : List ℕ) → i < length xs → d ≡ get_or xs i d → bytes_eq d z ≡ true → has (drop i xs) z ≡ true
has_found xs i d z l e t = at_drop_more (λ ys. has ys z) xs i d l ∙ (ap (λ x. bytes_eq x z || has (drop (i + 1) xs) z) (sym e) ∙ ap (λ b. b || has (drop (i + 1) xs) z) t)

pub has_passed : (xs : List (List ℕ)) (i : ℕ) (d z : List ℕ) → i < length xs → d ≡ get_or xs i d → bytes_eq d z ≡ false → has (drop i xs) z ≡ has (drop (i + 1) xs) z
has_passed xs i d z l e t = at_drop_more (λ ys. has ys z) xs i d l ∙ (ap (λ x. bytes_eq x z || has (drop (i + 1) xs) z) (sym e) ∙ ap (λ b. b || has (drop (i + 1) xs) z) t)

without_next : (x : List ℕ) (ys : List (List ℕ)) (i : ℕ) (d : List ℕ) → i < length ys → d ≡ get_or ys i d
    → without x (drop i ys) ≡ (if bytes_eq d x then without x (drop (i + 1) ys) else d ∷ without x (drop (i + 1) ys))
without_next x ys i d l e = at_drop_more (without x) ys i d l ∙ ap (λ z. without x (z ∷ drop (i + 1) ys)) (sym e)

pub without_same : (x : List ℕ) (ys : List (List ℕ)) (i : ℕ) (d : List ℕ) → i < length ys → d ≡ get_or ys i d → bytes_eq d x ≡ true → without x (drop i ys) ≡ without x (drop (i + 1) ys)
without_same x ys i d l e t = without_next x ys i d l e ∙ ap (λ b. if b then without x (drop (i + 1) ys) else d ∷ without x (drop (i + 1) ys)) t

pub without_other : (x : List ℕ) (ys : List (List ℕ)) (i : ℕ) (d : List ℕ) → i < length ys → d ≡ get_or ys i d → bytes_eq d x ≡ false → without x (drop i ys) ≡ d ∷ without x (drop (i + 1) ys)
without_other x ys i d l e t = without_next x ys i d l e ∙ ap (λ b. if b then without x (drop (i + 1) ys) else d ∷ without x (drop (i + 1) ys)) t

-- ---- the base of a name

pub base-append : (x : List ℕ) (b : ℕ) → base (x ++ b ∷ []) ≡ (if eqb b tick then base x else x ++ b ∷ [])
base-append x b = ap (λ l. reverse (drop_ticks l)) (reverse-append x (b ∷ [])) ∙ by_test (eqb b tick)
  where
    back : reverse (b ∷ reverse x) ≡ x ++ b ∷ []
    back = ap reverse (sym (reverse-append x (b ∷ []))) ∙ reverse-reverse (x ++ b ∷ [])

    by_test : (t : Bool) → reverse (if t then drop_ticks (reverse x) else b ∷ reverse x) ≡ (if t then base x else x ++ b ∷ [])
    by_test true = refl
    by_test false = back

pub base_shorter : (x : List ℕ) (n : ℕ) → n < length x → eqb (get_or x n 0) 39 ≡ true → base (take (n + 1) x) ≡ base (take n x)
base_shorter x n l e = ap base (take_more x n 0 l) ∙ (base-append (take n x) (get_or x n 0) ∙ ap (λ b. if b then base (take n x) else take n x ++ get_or x n 0 ∷ []) e)

pub base_reached : (x : List ℕ) (n : ℕ) → n < length x → eqb (get_or x n 0) 39 ≡ false → base (take (n + 1) x) ≡ take (n + 1) x
base_reached x n l e = ap base (take_more x n 0 l) ∙ (base-append (take n x) (get_or x n 0) ∙ (ap (λ b. if b then base (take n x) else take n x ++ get_or x n 0 ∷ []) e ∙ sym (take_more x n 0 l)))

-- ---- a name apart from others

pub apart_found : (m : ℕ) (taken : List (List ℕ)) (x : List ℕ) → 0 < m → has taken x ≡ false → apart_from m taken x ≡ x
apart_found zero taken x h e = absurd (omega arith)
apart_found (suc m) taken x h e = ap (λ b. if b then apart_from m taken (x ++ tick ∷ []) else x) e

pub apart_passed : (m : ℕ) (taken : List (List ℕ)) (x : List ℕ) → 0 < m → has taken x ≡ true → apart_from m taken x ≡ apart_from (m - 1) taken (x ++ tick ∷ [])
apart_passed zero taken x h e = absurd (omega arith)
apart_passed (suc m) taken x h e = let k : m ≡ suc m - 1 = omega arith in ap (λ b. if b then apart_from m taken (x ++ tick ∷ []) else x) e ∙ ap (λ j. apart_from j taken (x ++ tick ∷ [])) k
