-- A fresh name is apart from those that are taken, and depends on which are taken alone.
use Rattle.std.proofs.Common.{◌≡◌, ℕ, zero, suc, ◌+◌, ◌≤◌, ◌<◌, List, [], ◌∷◌, ◌++◌, length, reverse, Bool, true, false, ◌||◌, eqb, nat_le, if◌then◌else◌, refl, sym, ◌∙◌, ap, subst, arith, length-append}
use Rattle.std.specs.Prelude.{bytes_eq}
use Rattle.std.proofs.lemmas.List.{reverse-reverse}
use Rattle.term_core.specs.Names.{has, tick, drop_ticks, apart_from, fresh, base}
use Rattle.term_core.proofs.NameLaws.{same_name, base-append}

-- how many of the names are at least n long
abbrev longs : ℕ → List (List ℕ) → ℕ
longs n [] = 0
longs n (y ∷ ys) = (if nat_le n (length y) then 1 else 0) + longs n ys

longs_all : (n : ℕ) (ys : List (List ℕ)) → longs n ys ≤ length ys
longs_all n [] = omega arith
longs_all n (y ∷ ys) = by_test (nat_le n (length y)) (longs_all n ys)
  where
    by_test : (b : Bool) → longs n ys ≤ length ys → (if b then 1 else 0) + longs n ys ≤ suc (length ys)
    by_test true h = omega arith
    by_test false h = omega arith

one_less : (n k : ℕ) → (if nat_le (suc n) k then 1 else 0) ≤ (if nat_le n k then 1 else 0)
one_less n k = grind arith

longs_less : (n : ℕ) (ys : List (List ℕ)) → longs (suc n) ys ≤ longs n ys
longs_less n [] = omega arith
longs_less n (y ∷ ys) = let a = one_less n (length y) in let b = longs_less n ys in omega arith

abbrev one_if : Bool → ℕ
one_if b = if b then 1 else 0

own_length : (n k : ℕ) → k ≡ n → (one_if (nat_le (suc n) k) ≡ 0) × (one_if (nat_le n k) ≡ 1)
own_length n k e = (grind arith, grind arith)

longs_drop : (x : List ℕ) (ys : List (List ℕ)) → has ys x ≡ true → longs (suc (length x)) ys < longs (length x) ys
longs_drop x [] h = absurd cc
longs_drop x (y ∷ ys) h = by_test (bytes_eq y x) refl (longs_drop x ys)
  where
    by_test : (b : Bool) → bytes_eq y x ≡ b → (has ys x ≡ true → longs (suc (length x)) ys < longs (length x) ys)
        → (if nat_le (suc (length x)) (length y) then 1 else 0) + longs (suc (length x)) ys < (if nat_le (length x) (length y) then 1 else 0) + longs (length x) ys
    by_test true e u = let o = own_length (length x) (length y) (ap length (same_name y x e)) in let l = longs_less (length x) ys in omega (arith, o.0, o.1)
    by_test false e u = let l = u (ap (λ b. b || has ys x) (sym e) ∙ h) in let a = one_less (length x) (length y) in omega arith

-- one more tick leaves fewer that are as long
ticked : (n : ℕ) (taken : List (List ℕ)) (x : List ℕ) → has taken x ≡ true → longs (length x) taken ≤ suc n → longs (length (x ++ tick ∷ [])) taken ≤ n
ticked n taken x e h = let l = longs_drop x taken e in let k : length (x ++ tick ∷ []) ≡ suc (length x) = omega (arith, length-append x (tick ∷ [])) in subst (λ j. longs j taken ≤ n) (sym k) (omega arith)

-- where there are as many steps as names that are as long
not_taken : (taken : List (List ℕ)) (x : List ℕ) → longs (length x) taken ≤ 0 → has taken x ≡ false
not_taken taken x h = by_test (has taken x) refl
  where
    by_test : (b : Bool) → has taken x ≡ b → has taken x ≡ false
    by_test false e = e
    by_test true e = absurd (let l = longs_drop x taken e in omega arith)

kept : (n : ℕ) (taken : List (List ℕ)) (x : List ℕ) → longs (length x) taken ≤ n → has taken (apart_from n taken x) ≡ false
kept zero taken x h = not_taken taken x h
kept (suc n) taken x h = by_test (has taken x) refl (kept n taken (x ++ tick ∷ []))
  where
    by_test : (b : Bool) → has taken x ≡ b → (longs (length (x ++ tick ∷ [])) taken ≤ n → has taken (apart_from n taken (x ++ tick ∷ [])) ≡ false)
        → has taken (if b then apart_from n taken (x ++ tick ∷ []) else x) ≡ false
    by_test false e u = e
    by_test true e u = u (ticked n taken x e h)

pub fresh_apart : (taken : List (List ℕ)) (x : List ℕ) → has taken (fresh taken x) ≡ false
fresh_apart taken x = kept (length taken) taken (base x) (longs_all (length (base x)) taken)

-- more steps change nothing
step_more : (n : ℕ) (taken : List (List ℕ)) (x : List ℕ) → longs (length x) taken ≤ n → apart_from (suc n) taken x ≡ apart_from n taken x
step_more zero taken x h = ap (λ b. if b then x ++ tick ∷ [] else x) (not_taken taken x h)
step_more (suc n) taken x h = by_test (has taken x) refl (step_more n taken (x ++ tick ∷ []))
  where
    by_test : (b : Bool) → has taken x ≡ b → (longs (length (x ++ tick ∷ [])) taken ≤ n → apart_from (suc n) taken (x ++ tick ∷ []) ≡ apart_from n taken (x ++ tick ∷ []))
        → (if b then apart_from (suc n) taken (x ++ tick ∷ []) else x) ≡ (if b then apart_from n taken (x ++ tick ∷ []) else x)
    by_test false e u = refl
    by_test true e u = u (ticked n taken x e h)

steps_more : (k n : ℕ) (taken : List (List ℕ)) (x : List ℕ) → longs (length x) taken ≤ n → apart_from (k + n) taken x ≡ apart_from n taken x
steps_more zero n taken x h = let e : 0 + n ≡ n = omega arith in ap (λ j. apart_from j taken x) e
steps_more (suc k) n taken x h =
    let e : suc k + n ≡ suc (k + n) = omega arith in
    ap (λ j. apart_from j taken x) e ∙ (step_more (k + n) taken x (omega arith) ∙ steps_more k n taken x h)

apart_alike : (n : ℕ) (a b : List (List ℕ)) (x : List ℕ) → ((z : List ℕ) → has a z ≡ has b z) → apart_from n a x ≡ apart_from n b x
apart_alike zero a b x h = refl
apart_alike (suc n) a b x h = (λ i. if h x i then apart_from n a (x ++ tick ∷ []) else x) ∙ ap (λ r. if has b x then r else x) (apart_alike n a b (x ++ tick ∷ []) h)

pub fresh_alike : (a b : List (List ℕ)) (x y : List ℕ) → ((z : List ℕ) → has a z ≡ has b z) → base x ≡ base y → fresh a x ≡ fresh b y
fresh_alike a b x y h e =
    let k : length a + length b ≡ length b + length a = omega arith in
    sym (steps_more (length b) (length a) a (base x) (longs_all (length (base x)) a))
    ∙ (ap (λ j. apart_from j a (base x)) (sym k)
    ∙ (apart_alike (length a + length b) a b (base x) h
    ∙ (steps_more (length a) (length b) b (base x) (longs_all (length (base x)) b)
    ∙ ap (apart_from (length b) b) e)))

-- ---- the base of a fresh name

drop_twice : (x : List ℕ) → drop_ticks (drop_ticks x) ≡ drop_ticks x
drop_twice [] = refl
drop_twice (b ∷ x) = by_test (eqb b tick) refl (drop_twice x)
  where
    by_test : (t : Bool) → eqb b tick ≡ t → drop_ticks (drop_ticks x) ≡ drop_ticks x → drop_ticks (if t then drop_ticks x else b ∷ x) ≡ (if t then drop_ticks x else b ∷ x)
    by_test true e again = again
    by_test false e again = ap (λ t. if t then drop_ticks x else b ∷ x) e

base_twice : (x : List ℕ) → base (base x) ≡ base x
base_twice x = ap (λ y. reverse (drop_ticks y)) (reverse-reverse (drop_ticks (reverse x))) ∙ ap reverse (drop_twice (reverse x))

base_apart : (n : ℕ) (taken : List (List ℕ)) (x : List ℕ) → base (apart_from n taken x) ≡ base x
base_apart zero taken x = refl
base_apart (suc n) taken x = by_test (has taken x) (base_apart n taken (x ++ tick ∷ []))
  where
    by_test : (b : Bool) → base (apart_from n taken (x ++ tick ∷ [])) ≡ base (x ++ tick ∷ []) → base (if b then apart_from n taken (x ++ tick ∷ []) else x) ≡ base x
    by_test true u = u ∙ base-append x tick
    by_test false u = refl

pub base-fresh : (taken : List (List ℕ)) (x : List ℕ) → base (fresh taken x) ≡ base x
base-fresh taken x = base_apart (length taken) taken (base x) ∙ base_twice x
