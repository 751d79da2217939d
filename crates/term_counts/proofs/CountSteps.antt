-- A count added at its place.
use Rattle.std.proofs.Common.{◌≡◌, ℕ, suc, ◌+◌, List, [], ◌∷◌, ◌++◌, length, get_or, set, Bool, true, false, not, cond, nat_lt, Option, Some, None, if◌then◌else◌, refl, sym, ◌∙◌, ap, subst, arith}
use Rattle.std.specs.Prelude.{bytes_eq, position}
use Rattle.std.specs.List.{prefix_len}
use Rattle.std.specs.Option.{option_map}
use Rattle.std.proofs.lemmas.Bool.{lt-ltb, le-ltb, ltb-true, ltb-false}
use Rattle.term_counts.specs.declared.counting.NameCount.{NameCount}
use Rattle.term_counts.specs.Counts.{Plus, together, with_count}

abbrev placed : Bool → ℕ → Option ℕ
placed b k = cond b (Some k) None

place_here : (n : ℕ) → placed (nat_lt 0 (suc n)) 0 ≡ Some 0
place_here n = ap (λ b. placed b 0) (lt-ltb 0 (suc n) (omega arith))

place_later : (k n : ℕ) → placed (nat_lt (1 + k) (suc n)) (1 + k) ≡ option_map suc (placed (nat_lt k n) k)
place_later k n = by_test (nat_lt k n) refl
  where
    one_more : 1 + k ≡ suc k
    one_more = omega arith

    by_test : (b : Bool) → nat_lt k n ≡ b → placed (nat_lt (1 + k) (suc n)) (1 + k) ≡ option_map suc (placed b k)
    by_test true e = ap (λ b. placed b (1 + k)) (lt-ltb (1 + k) (suc n) (let h = ltb-true k n e in omega arith)) ∙ ap Some one_more
    by_test false e = ap (λ b. placed b (1 + k)) (le-ltb (1 + k) (suc n) (let h = ltb-false k n e in omega arith))

position-cons : (p : NameCount → Bool) (d : NameCount) (ds : List NameCount) → position p (d ∷ ds) ≡ (if p d then Some 0 else option_map suc (position p ds))
position-cons p d ds = by_test (p d)
  where
    by_test : (b : Bool) → placed (nat_lt (cond (not b) (1 + prefix_len (λ x. not (p x)) ds) 0) (suc (length ds))) (cond (not b) (1 + prefix_len (λ x. not (p x)) ds) 0) ≡ (if b then Some 0 else option_map suc (position p ds))
    by_test true = place_here (length ds)
    by_test false = place_later (prefix_len (λ x. not (p x)) ds) (length ds)

abbrev named : NameCount → NameCount → Bool
named c d = bytes_eq d.name c.name

pub no_place : (plus : Plus) (ds : List NameCount) (c : NameCount) → position (named c) ds ≡ None → with_count plus ds c ≡ ds ++ c ∷ []
no_place plus [] c e = refl
no_place plus (d ∷ ds) c e = by_test (bytes_eq d.name c.name) refl (sym (position-cons (named c) d ds) ∙ e) (no_place plus ds c)
  where
    later_none : (o : Option ℕ) → option_map suc o ≡ None → o ≡ None
    later_none None h = refl
    later_none (Some n) h = absurd cc

    by_test : (b : Bool) → bytes_eq d.name c.name ≡ b → (if b then Some 0 else option_map suc (position (named c) ds)) ≡ None → (position (named c) ds ≡ None → with_count plus ds c ≡ ds ++ c ∷ [])
        → (if b then together plus d c ∷ ds else d ∷ with_count plus ds c) ≡ d ∷ (ds ++ c ∷ [])
    by_test true e h u = absurd cc
    by_test false e h u = ap (λ xs. d ∷ xs) (u (later_none (position (named c) ds) h))

pub at_place : (plus : Plus) (ds : List NameCount) (c x : NameCount) (i : ℕ) → position (named c) ds ≡ Some i → x ≡ get_or ds i x → set ds i (together plus x c) ≡ with_count plus ds c
at_place plus [] c x i e h = absurd (none i (sym (ap (λ b. placed b 0) (le-ltb 0 0 (omega arith))) ∙ e))
  where
    none : (i : ℕ) → None ≡ Some i → ⊥
    none i h = cc
at_place plus (d ∷ ds) c x i e h = by_test (bytes_eq d.name c.name) (sym (position-cons (named c) d ds) ∙ e) (at_place plus ds c x)
  where
    later_some : (o : Option ℕ) → option_map suc o ≡ Some i → (j : ℕ) × ((o ≡ Some j) × (i ≡ suc j))
    later_some None h = absurd cc
    later_some (Some n) h = (n, (refl, (let d : Some (suc n) ≡ Some i = h in cc)))

    by_test : (b : Bool) → (if b then Some 0 else option_map suc (position (named c) ds)) ≡ Some i
        → ((j : ℕ) → position (named c) ds ≡ Some j → x ≡ get_or ds j x → set ds j (together plus x c) ≡ with_count plus ds c)
        → set (d ∷ ds) i (together plus x c) ≡ (if b then together plus d c ∷ ds else d ∷ with_count plus ds c)
    by_test true e u =
        let z : i ≡ 0 = cc in
        let same : x ≡ d = subst (λ j. x ≡ get_or (d ∷ ds) j x) z h in
        ap (λ j. set (d ∷ ds) j (together plus x c)) z ∙ ap (λ y. together plus y c ∷ ds) same
    by_test false e u =
        let r = later_some (position (named c) ds) e in
        let there : x ≡ get_or ds r.0 x = subst (λ j. x ≡ get_or (d ∷ ds) j x) r.1.1 h in
        ap (λ j. set (d ∷ ds) j (together plus x c)) r.1.1 ∙ ap (λ xs. d ∷ xs) (u r.0 r.1.0 there)
