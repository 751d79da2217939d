-- What is in lists of names.
use Rattle.std.proofs.Common.{◌≡◌, ℕ, List, [], ◌∷◌, ◌++◌, Bool, true, false, not, ◌&&◌, ◌||◌, if◌then◌else◌, ◌⊎◌, refl, sym, ◌∙◌, ap}
use Rattle.std.specs.Prelude.{bytes_eq}
use Rattle.std.proofs.lemmas.Bool.{or_cases}
use Rattle.term_core.specs.Names.{has, union, without}
use Rattle.term_core.proofs.NameLaws.{same_name, name_refl}

abbrev pub In : List (List ℕ) → List ℕ → Type 0
In xs z = has xs z ≡ true

pub in_one : (x z : List ℕ) → In (x ∷ []) z → x ≡ z
in_one x z h = same_name x z (sym (or_false (bytes_eq x z)) ∙ h)
  where
    or_false : (b : Bool) → (b || false) ≡ b
    or_false true = refl
    or_false false = refl

pub in_own : (x : List ℕ) → In (x ∷ []) x
in_own x = ap (λ b. b || false) (name_refl x)

pub in_same : (xs : List (List ℕ)) (y z : List ℕ) → bytes_eq y z ≡ true → has xs y ≡ has xs z
in_same xs y z e = ap (has xs) (same_name y z e)

has-append : (xs ys : List (List ℕ)) (z : List ℕ) → has (xs ++ ys) z ≡ (has xs z || has ys z)
has-append [] ys z = refl
has-append (x ∷ xs) ys z = ap (λ b. bytes_eq x z || b) (has-append xs ys z) ∙ assoc (bytes_eq x z)
  where
    assoc : (b : Bool) → (b || (has xs z || has ys z)) ≡ ((b || has xs z) || has ys z)
    assoc true = refl
    assoc false = refl

pub has-union : (xs ys : List (List ℕ)) (z : List ℕ) → has (union xs ys) z ≡ (has xs z || has ys z)
has-union xs [] z = sym (or_none (has xs z))
  where
    or_none : (b : Bool) → (b || false) ≡ b
    or_none true = refl
    or_none false = refl
has-union xs (y ∷ ys) z = by_tests (has xs y) (bytes_eq y z) refl refl (has-union xs ys z) (has-union (xs ++ y ∷ []) ys z)
  where
    kept : (a c : Bool) → (a || c) ≡ (a || (false || c))
    kept true c = refl
    kept false c = refl

    added : (a d c : Bool) → ((a || (d || false)) || c) ≡ (a || (d || c))
    added true d c = refl
    added false true c = refl
    added false false c = refl

    here : (a c : Bool) → a ≡ true → (a || c) ≡ (a || (true || c))
    here true c e = refl
    here false c e = absurd cc

    by_tests : (b d : Bool) → has xs y ≡ b → bytes_eq y z ≡ d → has (union xs ys) z ≡ (has xs z || has ys z) → has (union (xs ++ y ∷ []) ys) z ≡ (has (xs ++ y ∷ []) z || has ys z)
        → has (if b then union xs ys else union (xs ++ y ∷ []) ys) z ≡ (has xs z || (d || has ys z))
    by_tests true true p q u v = u ∙ here (has xs z) (has ys z) (sym (in_same xs y z q) ∙ p)
    by_tests true false p q u v = u ∙ kept (has xs z) (has ys z)
    by_tests false d p q u v = v ∙ (ap (λ b. b || has ys z) (has-append xs (y ∷ []) z) ∙ (ap (λ b. (has xs z || (b || false)) || has ys z) q ∙ added (has xs z) d (has ys z)))

pub has-without : (x : List ℕ) (ys : List (List ℕ)) (z : List ℕ) → has (without x ys) z ≡ (has ys z && not (bytes_eq z x))
has-without x [] z = refl
has-without x (y ∷ ys) z = by_tests (bytes_eq y x) (bytes_eq y z) (bytes_eq z x) refl refl refl (has-without x ys z)
  where
    by_tests : (b d e : Bool) → bytes_eq y x ≡ b → bytes_eq y z ≡ d → bytes_eq z x ≡ e → has (without x ys) z ≡ (has ys z && not (bytes_eq z x))
        → has (if b then without x ys else y ∷ without x ys) z ≡ ((d || has ys z) && not e)
    by_tests true true true p q r u = u ∙ (ap (λ c. has ys z && not c) r ∙ dropped (has ys z))
      where
        dropped : (c : Bool) → (c && false) ≡ false
        dropped true = refl
        dropped false = refl
    by_tests true true false p q r u = absurd (let s : bytes_eq z x ≡ true = ap (λ w. bytes_eq w x) (sym (same_name y z q)) ∙ p in cc)
    by_tests true false e p q r u = u ∙ ap (λ c. has ys z && not c) r
    by_tests false true true p q r u = absurd (let s : bytes_eq y x ≡ true = ap (λ w. bytes_eq w x) (same_name y z q) ∙ r in cc)
    by_tests false true false p q r u = ap (λ c. c || has (without x ys) z) q
    by_tests false false e p q r u = ap (λ c. c || has (without x ys) z) q ∙ (u ∙ ap (λ c. has ys z && not c) r)

-- ---- as facts

pub in_left : (xs ys : List (List ℕ)) (z : List ℕ) → In xs z → In (union xs ys) z
in_left xs ys z h = has-union xs ys z ∙ ap (λ b. b || has ys z) h

pub in_right : (xs ys : List (List ℕ)) (z : List ℕ) → In ys z → In (union xs ys) z
in_right xs ys z h = has-union xs ys z ∙ (ap (λ b. has xs z || b) h ∙ or_yes (has xs z))
  where
    or_yes : (b : Bool) → (b || true) ≡ true
    or_yes true = refl
    or_yes false = refl

pub in_either : (xs ys : List (List ℕ)) (z : List ℕ) → In (union xs ys) z → In xs z ⊎ In ys z
in_either xs ys z h = or_cases (has xs z) (has ys z) (sym (has-union xs ys z) ∙ h)

pub in_without : (x : List ℕ) (ys : List (List ℕ)) (z : List ℕ) → bytes_eq z x ≡ false → In ys z → In (without x ys) z
in_without x ys z ne h = has-without x ys z ∙ (λ i. h i && not (ne i))

pub in_without_parts : (x : List ℕ) (ys : List (List ℕ)) (z : List ℕ) → In (without x ys) z → In ys z × (bytes_eq z x ≡ false)
in_without_parts x ys z h = parts (has ys z) (bytes_eq z x) (sym (has-without x ys z) ∙ h)
  where
    parts : (a b : Bool) → (a && not b) ≡ true → (a ≡ true) × (b ≡ false)
    parts true false e = (refl, refl)
    parts true true e = absurd cc
    parts false b e = absurd cc

-- two tests are one where each is true when the other is
pub same_test : (a b : Bool) → (a ≡ true → b ≡ true) → (b ≡ true → a ≡ true) → a ≡ b
same_test true b f g = sym (f refl)
same_test false true f g = g refl
same_test false false f g = refl

-- ---- of a quantifier

pub in_low : (l h ys : List (List ℕ)) (x : List ℕ) → In l x → In (union l (union h ys)) x
in_low l h ys x k = in_left l (union h ys) x k

pub in_high : (l h ys : List (List ℕ)) (x : List ℕ) → In h x → In (union l (union h ys)) x
in_high l h ys x k = in_right l (union h ys) x (in_left h ys x k)

pub in_body : (l h ys : List (List ℕ)) (x : List ℕ) → In ys x → In (union l (union h ys)) x
in_body l h ys x k = in_right l (union h ys) x (in_right h ys x k)
