-- Products of whole numbers.
use Rattle.std.proofs.Common.{◌≡◌, ℕ, zero, suc, ℤ, pos, negsuc, ◌+ℤ◌, ◌-ℤ◌, ◌*ℤ◌, neg_ℤ, sym, ◌∙◌, ap, arith}
use Rattle.std.proofs.lemmas.Int.{ints}
use Rattle.std.proofs.Math.IntN.{one, *ℤ-one, suc_ℤ, pred_ℤ, suc_ℤ-+ℤ, pred_ℤ-+ℤ, suc_ℤ-*ℤ, pred_ℤ-*ℤ, +ℤ_idl, zero-*ℤ, *ℤ_comm}

-- ---- induction, from 0 up and down

from_zero : (P : ℤ → Type 0) → P (pos 0) → ((z : ℤ) → P z → P (suc_ℤ z)) → ((z : ℤ) → P z → P (pred_ℤ z)) → (z : ℤ) → P z
from_zero P none up down (pos zero) = none
from_zero P none up down (pos (suc n)) = up (pos n) (from_zero P none up down (pos n))
from_zero P none up down (negsuc n) = below n
  where
    below : (n : ℕ) → P (negsuc n)
    below zero = down (pos 0) none
    below (suc n) = down (negsuc n) (below n)

-- ---- a sum

-- (m + 1 + n) * k and (m - 1 + n) * k, from (m + n) * k
one_more : (a b c k : ℤ) → a ≡ b +ℤ c → a +ℤ k ≡ (b +ℤ k) +ℤ c
one_more a b c k e = omega (arith, ints)

one_less : (a b c k : ℤ) → a ≡ b +ℤ c → a -ℤ k ≡ (b -ℤ k) +ℤ c
one_less a b c k e = omega (arith, ints)

pub sum-times : (m n k : ℤ) → (m +ℤ n) *ℤ k ≡ m *ℤ k +ℤ n *ℤ k
sum-times m n k = from_zero (λ m. (m +ℤ n) *ℤ k ≡ m *ℤ k +ℤ n *ℤ k)
    (ap (λ x. x *ℤ k) (+ℤ_idl n) ∙ (sym (+ℤ_idl (n *ℤ k)) ∙ ap (λ x. x +ℤ n *ℤ k) (sym (zero-*ℤ k))))
    (λ m e. ap (λ x. x *ℤ k) (suc_ℤ-+ℤ m n) ∙ (suc_ℤ-*ℤ (m +ℤ n) k ∙ (one_more ((m +ℤ n) *ℤ k) (m *ℤ k) (n *ℤ k) k e ∙ ap (λ x. x +ℤ n *ℤ k) (sym (suc_ℤ-*ℤ m k)))))
    (λ m e. ap (λ x. x *ℤ k) (pred_ℤ-+ℤ m n) ∙ (pred_ℤ-*ℤ (m +ℤ n) k ∙ (one_less ((m +ℤ n) *ℤ k) (m *ℤ k) (n *ℤ k) k e ∙ ap (λ x. x +ℤ n *ℤ k) (sym (pred_ℤ-*ℤ m k)))))
    m

pub times-sum : (k m n : ℤ) → k *ℤ (m +ℤ n) ≡ k *ℤ m +ℤ k *ℤ n
times-sum k m n = *ℤ_comm k (m +ℤ n) ∙ (sum-times m n k ∙ (λ i. *ℤ_comm m k i +ℤ *ℤ_comm n k i))

-- ---- an opposite

opposites : (a b : ℤ) → a +ℤ b ≡ pos 0 → b ≡ neg_ℤ a
opposites a b e = omega (arith, ints)

nothing_left : (m : ℤ) → m +ℤ neg_ℤ m ≡ pos 0
nothing_left m = omega (arith, ints)

pub opposite-times : (m k : ℤ) → neg_ℤ m *ℤ k ≡ neg_ℤ (m *ℤ k)
opposite-times m k = opposites (m *ℤ k) (neg_ℤ m *ℤ k) (sym (sum-times m (neg_ℤ m) k) ∙ (ap (λ x. x *ℤ k) (nothing_left m) ∙ zero-*ℤ k))

pub times-opposite : (k m : ℤ) → k *ℤ neg_ℤ m ≡ neg_ℤ (k *ℤ m)
times-opposite k m = *ℤ_comm k (neg_ℤ m) ∙ (opposite-times m k ∙ ap neg_ℤ (*ℤ_comm m k))

pub times-difference : (k m n : ℤ) → k *ℤ (m -ℤ n) ≡ k *ℤ m -ℤ k *ℤ n
times-difference k m n = times-sum k m (neg_ℤ n) ∙ ap (λ x. k *ℤ m +ℤ x) (times-opposite k n)

pub minus_one : (z : ℤ) → neg_ℤ (pos 1) *ℤ z ≡ neg_ℤ z
unfolding one
minus_one z = *ℤ_comm (neg_ℤ (pos 1)) z ∙ (times-opposite z (pos 1) ∙ ap neg_ℤ (*ℤ-one z))

-- ---- a product

pub times-times : (m n k : ℤ) → (m *ℤ n) *ℤ k ≡ m *ℤ (n *ℤ k)
times-times m n k = from_zero (λ m. (m *ℤ n) *ℤ k ≡ m *ℤ (n *ℤ k))
    (ap (λ x. x *ℤ k) (zero-*ℤ n) ∙ (zero-*ℤ k ∙ sym (zero-*ℤ (n *ℤ k))))
    (λ m e. ap (λ x. x *ℤ k) (suc_ℤ-*ℤ m n) ∙ (sum-times (m *ℤ n) n k ∙ (ap (λ x. x +ℤ n *ℤ k) e ∙ sym (suc_ℤ-*ℤ m (n *ℤ k)))))
    (λ m e. ap (λ x. x *ℤ k) (pred_ℤ-*ℤ m n) ∙ (sum-times (m *ℤ n) (neg_ℤ n) k ∙ ((λ i. e i +ℤ opposite-times n k i) ∙ sym (pred_ℤ-*ℤ m (n *ℤ k)))))
    m
