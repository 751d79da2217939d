-- Products that are counted up to a greatest number.
use Rattle.std.proofs.Common.{◌≡◌, ℕ, ◌-◌, ◌*◌, ◌^◌, ◌<◌, ◌≤◌, min, Bool, true, false, nat_lt, refl, sym, subst, ◌∙◌, arith}
use Rattle.std.proofs.lemmas.Bool.{ltb-true, ltb-false, lt-ltb, le-ltb}
use Rattle.std.proofs.lemmas.Nat.{mul-le}

-- past the limit, up to the greatest number
capped : (p : ℕ) → nat_lt 20000 (min p (2 ^ 64 - 1)) ≡ nat_lt 20000 p
capped p = by (nat_lt 20000 p) refl
  where
    by : (t : Bool) → nat_lt 20000 p ≡ t → nat_lt 20000 (min p (2 ^ 64 - 1)) ≡ nat_lt 20000 p
    by true e = lt-ltb 20000 (min p (2 ^ 64 - 1)) (omega (arith, ltb-true 20000 p e)) ∙ sym e
    by false e = le-ltb 20000 (min p (2 ^ 64 - 1)) (omega (arith, ltb-false 20000 p e)) ∙ sym e

-- a product past the limit is past it too where its parts are counted up to the greatest number
pub is_held : (k n : ℕ) → 1 < k → nat_lt 20000 (min (k * min n (2 ^ 64 - 1)) (2 ^ 64 - 1)) ≡ nat_lt 20000 (k * n)
is_held k n h = by (nat_lt (2 ^ 64 - 1) n) refl
  where
    by : (t : Bool) → nat_lt (2 ^ 64 - 1) n ≡ t → nat_lt 20000 (min (k * min n (2 ^ 64 - 1)) (2 ^ 64 - 1)) ≡ nat_lt 20000 (k * n)
    by false e =
        let l : n ≤ 2 ^ 64 - 1 = ltb-false (2 ^ 64 - 1) n e in
        let m : min n (2 ^ 64 - 1) ≡ n = omega arith in
        subst (λ (x : ℕ). nat_lt 20000 (min (k * x) (2 ^ 64 - 1)) ≡ nat_lt 20000 (k * n)) (sym m) (capped (k * n))
    by true e =
        let l : 2 ^ 64 - 1 < n = ltb-true (2 ^ 64 - 1) n e in
        let m : min n (2 ^ 64 - 1) ≡ 2 ^ 64 - 1 = omega arith in
        let p : 1 * (2 ^ 64 - 1) ≤ k * (2 ^ 64 - 1) = mul-le 1 (2 ^ 64 - 1) k (2 ^ 64 - 1) (omega arith) (omega arith) in
        let q : 1 * n ≤ k * n = mul-le 1 n k n (omega arith) (omega arith) in
        subst (λ (x : ℕ). nat_lt 20000 (min (k * x) (2 ^ 64 - 1)) ≡ nat_lt 20000 (k * n)) (sym m)
        (lt-ltb 20000 (min (k * (2 ^ 64 - 1)) (2 ^ 64 - 1)) (omega arith) ∙ sym (lt-ltb 20000 (k * n) (omega arith)))
