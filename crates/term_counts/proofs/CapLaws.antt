-- Counts as numbers of 64 bits are the counts, up to the greatest such number.
use Rattle.std.proofs.Common.{◌≡◌, ℕ, ℤ, ◌+◌, ◌*◌, ◌<◌, ◌≤◌, max, min, List, [], ◌∷◌, map, Bool, true, false, if◌then◌else◌, ◌⊎◌, inl, inr, refl, sym, ◌∙◌, ap, arith}
use Rattle.std.specs.Prelude.{bytes_eq, fold}
use Rattle.std.specs.List.{sum_by}
use Rattle.std.proofs.lemmas.Bool.{cases_lt}
use Rattle.std.proofs.lemmas.List.Sums.{sum_by-cons}
use Rattle.std.proofs.Math.Nat.{mul-le-mul, mul-zero, mul_comm}
use Rattle.term_core.specs.declared.term.Oper.{Oper}
use Rattle.term_core.specs.declared.term.Term.{Term}
use Rattle.term_core.specs.declared.term.Term.TheOpen.{Term-F}
use Rattle.term_core.specs.declared.term.Term.TheFolds.{fold-roll-Term}
use Rattle.term_counts.specs.declared.counting.NameCount.{NameCount}
use Rattle.term_counts.specs.declared.counting.TermCounts.{TermCounts}
use Rattle.term_core.specs.Terms.{int, truth, var, op, Quantifier, for_all, exists, quantify, largest, Each, by_cases}
use Rattle.term_counts.specs.Counts.{Plus, together, with_count, with_counts, beside, all_beside, lowered, below, own_with, others, within_bound, of_leaf, of_name, of_none, of_quantifier, counts_step, counted_by, counted, most, capped_sum, capped_count, capped, size_after, depth_after}

-- ---- the counts of each kind of term

pub counted_int : (plus : Plus) (n : ℤ) → counted_by plus (int n) ≡ of_leaf
unfolding counted_by
counted_int plus n = fold-roll-Term TermCounts (counts_step plus) (Term-F.Int n)

pub counted_truth : (plus : Plus) (b : Bool) → counted_by plus (truth b) ≡ of_leaf
unfolding counted_by
counted_truth plus b = fold-roll-Term TermCounts (counts_step plus) (Term-F.Truth b)

pub counted_var : (plus : Plus) (x : List ℕ) → counted_by plus (var x) ≡ of_name x
unfolding counted_by
counted_var plus x = fold-roll-Term TermCounts (counts_step plus) (Term-F.Var x)

pub counted_op : (plus : Plus) (o : Oper) (ts : List Term) → counted_by plus (op o ts) ≡ below plus (all_beside plus of_none (map (counted_by plus) ts))
unfolding counted_by
counted_op plus o ts = fold-roll-Term TermCounts (counts_step plus) (Term-F.Op o ts)

pub counted_quantifier : (plus : Plus) (q : Quantifier) (x : List ℕ) (l h b : Term) → counted_by plus (quantify q x l h b) ≡ of_quantifier plus x (counted_by plus l) (counted_by plus h) (counted_by plus b)
unfolding counted_by
counted_quantifier plus for_all x l h b = fold-roll-Term TermCounts (counts_step plus) (Term-F.All x l h b)
counted_quantifier plus exists x l h b = fold-roll-Term TermCounts (counts_step plus) (Term-F.Some x l h b)

-- ---- sums and greatest numbers up to a greatest one

cap_sum : (a b : ℕ) → min (min a most + min b most) most ≡ min (a + b) most
cap_sum a b = omega arith

cap_more : (a : ℕ) → min (min a most + 1) most ≡ min (a + 1) most
cap_more a = omega arith

cap_max : (a b : ℕ) → max (min a most) (min b most) ≡ min (max a b) most
cap_max a b = omega arith

-- ---- each step keeps to it

cap_with_count : (ds : List NameCount) (c : NameCount) → with_count capped_sum (map capped_count ds) (capped_count c) ≡ map capped_count (with_count ◌+◌ ds c)
cap_with_count [] c = refl
cap_with_count (d ∷ ds) c = by_test (bytes_eq d.name c.name) (cap_with_count ds c)
  where
    by_test : (b : Bool) → with_count capped_sum (map capped_count ds) (capped_count c) ≡ map capped_count (with_count ◌+◌ ds c)
        → (if b then together capped_sum (capped_count d) (capped_count c) ∷ map capped_count ds else capped_count d ∷ with_count capped_sum (map capped_count ds) (capped_count c))
        ≡ map capped_count (if b then together ◌+◌ d c ∷ ds else d ∷ with_count ◌+◌ ds c)
    by_test true u = λ i. record { name = c.name; times = cap_sum d.times c.times i; above = cap_max d.above c.above i } ∷ map capped_count ds
    by_test false u = ap (λ xs. capped_count d ∷ xs) u

cap_with_counts : (ds cs : List NameCount) → with_counts capped_sum (map capped_count ds) (map capped_count cs) ≡ map capped_count (with_counts ◌+◌ ds cs)
cap_with_counts ds [] = refl
cap_with_counts ds (c ∷ cs) = ap (λ xs. with_counts capped_sum xs (map capped_count cs)) (cap_with_count ds c) ∙ cap_with_counts (with_count ◌+◌ ds c) cs

cap_beside : (a b : TermCounts) → beside capped_sum (capped a) (capped b) ≡ capped (beside ◌+◌ a b)
cap_beside a b = λ i. record { own = cap_sum a.own b.own i; depth = cap_max a.depth b.depth i; names = cap_with_counts a.names b.names i }

cap_all_beside : (a : TermCounts) (cs : List TermCounts) → all_beside capped_sum (capped a) (map capped cs) ≡ capped (all_beside ◌+◌ a cs)
cap_all_beside a [] = refl
cap_all_beside a (c ∷ cs) = ap (λ x. all_beside capped_sum x (map capped cs)) (cap_beside a c) ∙ cap_all_beside (beside ◌+◌ a c) cs

cap_lowered : (ns : List NameCount) → map (lowered capped_sum) (map capped_count ns) ≡ map capped_count (map (lowered ◌+◌) ns)
cap_lowered [] = refl
cap_lowered (n ∷ ns) = λ i. record { name = n.name; times = min n.times most; above = cap_more n.above i } ∷ cap_lowered ns i

cap_below : (c : TermCounts) → below capped_sum (capped c) ≡ capped (below ◌+◌ c)
cap_below c = λ i. record { own = cap_more c.own i; depth = cap_more c.depth i; names = cap_lowered c.names i }

cap_own : (x : List ℕ) (own : ℕ) (ns : List NameCount) → own_with capped_sum x (min own most) (map capped_count ns) ≡ min (own_with ◌+◌ x own ns) most
cap_own x own [] = refl
cap_own x own (n ∷ ns) = ap (λ k. own_with capped_sum x k (map capped_count ns)) (by_test (bytes_eq n.name x)) ∙ cap_own x (if bytes_eq n.name x then own + n.times else own) ns
  where
    by_test : (b : Bool) → (if b then min (min own most + min n.times most) most else min own most) ≡ min (if b then own + n.times else own) most
    by_test true = cap_sum own n.times
    by_test false = refl

cap_others : (x : List ℕ) (ns : List NameCount) → others x (map capped_count ns) ≡ map capped_count (others x ns)
cap_others x [] = refl
cap_others x (n ∷ ns) = by_test (bytes_eq n.name x) (cap_others x ns)
  where
    by_test : (b : Bool) → others x (map capped_count ns) ≡ map capped_count (others x ns) → (if b then others x (map capped_count ns) else capped_count n ∷ others x (map capped_count ns)) ≡ map capped_count (if b then others x ns else n ∷ others x ns)
    by_test true u = u
    by_test false u = ap (λ xs. capped_count n ∷ xs) u

cap_bound : (x : List ℕ) (c : TermCounts) → within_bound capped_sum x (capped c) ≡ capped (within_bound ◌+◌ x c)
cap_bound x c = λ i. record { own = cap_own x c.own c.names i; depth = min c.depth most; names = cap_others x c.names i }

cap_quantifier : (x : List ℕ) (l h b : TermCounts) → of_quantifier capped_sum x (capped l) (capped h) (capped b) ≡ capped (of_quantifier ◌+◌ x l h b)
cap_quantifier x l h b =
    (λ i. below capped_sum (beside capped_sum (cap_beside l h i) (cap_bound x b i)))
    ∙ (ap (below capped_sum) (cap_beside (beside ◌+◌ l h) (within_bound ◌+◌ x b)) ∙ cap_below (beside ◌+◌ (beside ◌+◌ l h) (within_bound ◌+◌ x b)))

abbrev IsCapped : Term → Type 0
IsCapped t = counted_by capped_sum t ≡ capped (counted t)

each_capped : (ts : List Term) → Each IsCapped ts → map (counted_by capped_sum) ts ≡ map capped (map counted ts)
each_capped [] h = refl
each_capped (t ∷ ts) h = let a = h.0 in let b = each_capped ts h.1 in λ i. a i ∷ b i

pub counted_capped : (t : Term) → IsCapped t
counted_capped = by_cases IsCapped record {
  at_int = λ n. counted_int capped_sum n ∙ ap capped (sym (counted_int ◌+◌ n));
  at_truth = λ b. counted_truth capped_sum b ∙ ap capped (sym (counted_truth ◌+◌ b));
  at_var = λ x. counted_var capped_sum x ∙ ap capped (sym (counted_var ◌+◌ x));
  at_op = λ o ts h. counted_op capped_sum o ts ∙ (ap (λ cs. below capped_sum (all_beside capped_sum of_none cs)) (each_capped ts h)
      ∙ (ap (below capped_sum) (cap_all_beside of_none (map counted ts)) ∙ (cap_below (all_beside ◌+◌ of_none (map counted ts)) ∙ ap capped (sym (counted_op ◌+◌ o ts)))));
  at_quantifier = λ q x l h b hl hh hb. counted_quantifier capped_sum q x l h b
      ∙ ((λ i. of_quantifier capped_sum x (hl i) (hh i) (hb i)) ∙ (cap_quantifier x (counted l) (counted h) (counted b) ∙ ap capped (sym (counted_quantifier ◌+◌ q x l h b))));
}

-- ---- products, and what follows from counts

reached : (n : ℕ) → most ≤ n → min n most ≡ most
reached n h = omega arith

small : (n : ℕ) → n ≤ most → min n most ≡ n
small n h = omega arith

past_most : (a b : ℕ) → most < a → 0 < b → most ≤ min a most * min b most
past_most a b h k = mul-le-mul {n₁ = most} {m₁ = 1} {n₂ = min a most} {m₂ = min b most} (omega arith) (omega arith)

past_product : (a b : ℕ) → most < a → 0 < b → most ≤ a * b
past_product a b h k = mul-le-mul {n₁ = most} {m₁ = 1} {n₂ = a} {m₂ = b} (omega arith) (omega arith)

cap_past : (a b : ℕ) → most < a → min (min a most * min b most) most ≡ min (a * b) most
cap_past a b p = by_zero (cases_lt 0 b)
  where
    by_zero : (0 < b) ⊎ (b ≤ 0) → min (min a most * min b most) most ≡ min (a * b) most
    by_zero (inl q) = reached (min a most * min b most) (past_most a b p q) ∙ sym (reached (a * b) (past_product a b p q))
    by_zero (inr q) =
        let z : b ≡ 0 = omega arith in
        ap (λ k. min (min a most * min k most) most) z ∙ (ap (λ k. min k most) (mul-zero (min a most) ∙ sym (mul-zero a)) ∙ ap (λ k. min (a * k) most) (sym z))

pub cap_product : (a b : ℕ) → min (min a most * min b most) most ≡ min (a * b) most
cap_product a b = by_order (cases_lt most a) (cases_lt most b)
  where
    by_order : (most < a) ⊎ (a ≤ most) → (most < b) ⊎ (b ≤ most) → min (min a most * min b most) most ≡ min (a * b) most
    by_order (inl p) r = cap_past a b p
    by_order (inr p) (inl q) = ap (λ k. min k most) (mul_comm (min a most) (min b most)) ∙ (cap_past b a q ∙ ap (λ k. min k most) (mul_comm b a))
    by_order (inr p) (inr q) = λ i. min (small a p i * small b q i) most

-- two sums that are one up to the greatest number stay so with two further numbers that are
cap_both : (a b c d : ℕ) → min a most ≡ min b most → min c most ≡ min d most → min (a + c) most ≡ min (b + d) most
cap_both a b c d e f = sym (cap_sum a c) ∙ ((λ i. min (e i + f i) most) ∙ cap_sum b d)

abbrev weight : (List ℕ → ℕ) → NameCount → ℕ
weight sizes n = n.times * sizes n.name

cap_weights : (f : List ℕ → ℕ) (ns : List NameCount) → min (sum_by (weight (λ x. min (f x) most)) (map capped_count ns)) most ≡ min (sum_by (weight f) ns) most
cap_weights f [] = refl
cap_weights f (n ∷ ns) =
    ap (λ k. min k most) (sum_by-cons (weight (λ x. min (f x) most)) (capped_count n) (map capped_count ns))
    ∙ (cap_both (min n.times most * min (f n.name) most) (n.times * f n.name) (sum_by (weight (λ x. min (f x) most)) (map capped_count ns)) (sum_by (weight f) ns) (cap_product n.times (f n.name)) (cap_weights f ns)
    ∙ ap (λ k. min k most) (sym (sum_by-cons (weight f) n ns)))

cap_own_most : (a : ℕ) → min (min a most) most ≡ min a most
cap_own_most a = omega arith

-- the size from counts and sizes of 64 bits
pub cap_size : (c : TermCounts) (f : List ℕ → ℕ) → min (size_after (capped c) (λ x. min (f x) most)) most ≡ min (size_after c f) most
cap_size c f = cap_both (min c.own most) c.own (sum_by (weight (λ x. min (f x) most)) (map capped_count c.names)) (sum_by (weight f) c.names) (cap_own_most c.own) (cap_weights f c.names)

largest-from : (a : ℕ) (ns : List ℕ) → fold max a ns ≡ max a (largest ns)
largest-from a [] = let e : a ≡ max a 0 = omega arith in e
largest-from a (n ∷ ns) = largest-from (max a n) ns ∙ (sym (max_assoc a n (largest ns)) ∙ ap (max a) (sym (largest-from (max 0 n) ns ∙ ap (λ k. max k (largest ns)) (zero_max n))))
  where
    max_assoc : (a b c : ℕ) → max a (max b c) ≡ max (max a b) c
    max_assoc a b c = omega arith

    zero_max : (n : ℕ) → max 0 n ≡ n
    zero_max n = omega arith

pub largest-cons : (n : ℕ) (ns : List ℕ) → largest (n ∷ ns) ≡ max n (largest ns)
largest-cons n ns = largest-from (max 0 n) ns ∙ (let e : max 0 n ≡ n = omega arith in ap (λ k. max k (largest ns)) e)

abbrev reach : (List ℕ → ℕ) → NameCount → ℕ
reach depths n = n.above + depths n.name

cap_reach : (a b c d : ℕ) → min c most ≡ min d most → min (max (min a most + min b most) c) most ≡ min (max (a + b) d) most
cap_reach a b c d e = omega arith

cap_reaches : (f : List ℕ → ℕ) (ns : List NameCount) → min (largest (map (reach (λ x. min (f x) most)) (map capped_count ns))) most ≡ min (largest (map (reach f) ns)) most
cap_reaches f [] = refl
cap_reaches f (n ∷ ns) =
    ap (λ k. min k most) (largest-cons (min n.above most + min (f n.name) most) (map (reach (λ x. min (f x) most)) (map capped_count ns)))
    ∙ (cap_reach n.above (f n.name) (largest (map (reach (λ x. min (f x) most)) (map capped_count ns))) (largest (map (reach f) ns)) (cap_reaches f ns)
    ∙ ap (λ k. min k most) (sym (largest-cons (n.above + f n.name) (map (reach f) ns))))

cap_deeper : (a c d : ℕ) → min c most ≡ min d most → min (max (min a most) c) most ≡ min (max a d) most
cap_deeper a c d e = omega arith

-- the depth from counts and depths of 64 bits
pub cap_depth : (c : TermCounts) (f : List ℕ → ℕ) → min (depth_after (capped c) (λ x. min (f x) most)) most ≡ min (depth_after c f) most
cap_depth c f = cap_deeper c.depth (largest (map (reach (λ x. min (f x) most)) (map capped_count c.names))) (largest (map (reach f) c.names)) (cap_reaches f c.names)
