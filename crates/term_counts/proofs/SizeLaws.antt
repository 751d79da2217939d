-- The size and the depth after a substitution, from the counts of the term.
use Rattle.std.proofs.Common.{◌≡◌, ℕ, ◌+◌, ◌*◌, List, [], ◌∷◌, map, sum, Bool, true, false, if◌then◌else◌, refl, sym, ◌∙◌, ap, arith}
use Rattle.std.specs.Prelude.{bytes_eq}
use Rattle.std.specs.List.{sum_by}
use Rattle.std.proofs.lemmas.List.Sums.{sum_by-cons}
use Rattle.std.proofs.Math.Nat.{add-mul, mul-one, one-mul}
use Rattle.term_core.specs.declared.term.Term.{Term}
use Rattle.term_core.specs.declared.term.Term.TheOpen.{Term-F}
use Rattle.term_core.specs.declared.term.Term.TheViews.{roll-Term}
use Rattle.term_core.specs.declared.term.Term.TheFolds.{fold-roll-Term, map-Term}
use Rattle.term_counts.specs.declared.counting.NameCount.{NameCount}
use Rattle.term_counts.specs.declared.counting.TermCounts.{TermCounts}
use Rattle.term_core.specs.Terms.{var, Quantifier, for_all, exists, quantify, Each, by_cases, size_of, size_step}
use Rattle.term_core.specs.Substitution.{Sub, put, extend}
use Rattle.term_counts.specs.Counts.{together, with_count, with_counts, beside, all_beside, lowered, below, own_with, others, within_bound, of_none, of_quantifier, counted, size_after}
use Rattle.term_core.proofs.NameLaws.{same_name}
use Rattle.term_core.proofs.PutLaws.{put_each, put_int, put_truth, put_var, put_op, put_quantifier, name_for}
use Rattle.term_counts.proofs.CapLaws.{counted_int, counted_truth, counted_var, counted_op, counted_quantifier}

-- numbers of what stands for names
abbrev pub Numbers : Type 0
Numbers = List ℕ → ℕ

-- within a quantifier over x, whose name stands for a name
abbrev pub fixed : List ℕ → Numbers → Numbers
fixed x f = λ y. if bytes_eq y x then 1 else f y

-- ---- sizes

abbrev weight : Numbers → NameCount → ℕ
weight f n = n.times * f n.name

weight_together : (f : Numbers) (d c : NameCount) → bytes_eq d.name c.name ≡ true → weight f (together ◌+◌ d c) ≡ weight f d + weight f c
weight_together f d c e = add-mul d.times c.times (f c.name) ∙ ap (λ y. d.times * f y + c.times * f c.name) (sym (same_name d.name c.name e))

sum-with_count : (f : Numbers) (ds : List NameCount) (c : NameCount) → sum_by (weight f) (with_count ◌+◌ ds c) ≡ sum_by (weight f) ds + weight f c
sum-with_count f [] c = refl
sum-with_count f (d ∷ ds) c = by_test (bytes_eq d.name c.name) refl (sum-with_count f ds c)
  where
    rest : ℕ
    rest = sum_by (weight f) ds

    shift : (a b r : ℕ) → (a + b) + r ≡ (a + r) + b
    shift a b r = omega arith

    by_test : (b : Bool) → bytes_eq d.name c.name ≡ b → sum_by (weight f) (with_count ◌+◌ ds c) ≡ sum_by (weight f) ds + weight f c
        → sum_by (weight f) (if b then together ◌+◌ d c ∷ ds else d ∷ with_count ◌+◌ ds c) ≡ sum_by (weight f) (d ∷ ds) + weight f c
    by_test true e u = sum_by-cons (weight f) (together ◌+◌ d c) ds ∙ (ap (λ k. k + sum_by (weight f) ds) (weight_together f d c e)
        ∙ (shift (weight f d) (weight f c) (sum_by (weight f) ds) ∙ ap (λ k. k + weight f c) (sym (sum_by-cons (weight f) d ds))))
    by_test false e u = sum_by-cons (weight f) d (with_count ◌+◌ ds c) ∙ (ap (λ k. weight f d + k) u
        ∙ (assoc (weight f d) (sum_by (weight f) ds) (weight f c) ∙ ap (λ k. k + weight f c) (sym (sum_by-cons (weight f) d ds))))
      where
        assoc : (a b c : ℕ) → a + (b + c) ≡ (a + b) + c
        assoc a b c = omega arith

sum-with_counts : (f : Numbers) (ds cs : List NameCount) → sum_by (weight f) (with_counts ◌+◌ ds cs) ≡ sum_by (weight f) ds + sum_by (weight f) cs
sum-with_counts f ds [] = none (sum_by (weight f) ds)
  where
    none : (a : ℕ) → a ≡ a + 0
    none a = omega arith
sum-with_counts f ds (c ∷ cs) = sum-with_counts f (with_count ◌+◌ ds c) cs ∙ (ap (λ k. k + sum_by (weight f) cs) (sum-with_count f ds c)
    ∙ (assoc (sum_by (weight f) ds) (weight f c) (sum_by (weight f) cs) ∙ ap (λ k. sum_by (weight f) ds + k) (sym (sum_by-cons (weight f) c cs))))
  where
    assoc : (a b c : ℕ) → (a + b) + c ≡ a + (b + c)
    assoc a b c = omega arith

size-beside : (f : Numbers) (a b : TermCounts) → size_after (beside ◌+◌ a b) f ≡ size_after a f + size_after b f
size-beside f a b = ap (λ k. (a.own + b.own) + k) (sum-with_counts f a.names b.names) ∙ apart a.own b.own (sum_by (weight f) a.names) (sum_by (weight f) b.names)
  where
    apart : (a b x y : ℕ) → (a + b) + (x + y) ≡ (a + x) + (b + y)
    apart a b x y = omega arith

sum-cons : (x : ℕ) (xs : List ℕ) → sum (x ∷ xs) ≡ x + sum xs
sum-cons x xs = sum_by-cons (λ y. y) x xs

size-all_beside : (f : Numbers) (a : TermCounts) (cs : List TermCounts) → size_after (all_beside ◌+◌ a cs) f ≡ size_after a f + sum (map (λ c. size_after c f) cs)
size-all_beside f a [] = none (size_after a f)
  where
    none : (a : ℕ) → a ≡ a + 0
    none a = omega arith
size-all_beside f a (c ∷ cs) = size-all_beside f (beside ◌+◌ a c) cs ∙ (ap (λ k. k + sum (map (λ c. size_after c f) cs)) (size-beside f a c)
    ∙ (assoc (size_after a f) (size_after c f) (sum (map (λ c. size_after c f) cs)) ∙ ap (λ k. size_after a f + k) (sym (sum-cons (size_after c f) (map (λ c. size_after c f) cs)))))
  where
    assoc : (a b c : ℕ) → (a + b) + c ≡ a + (b + c)
    assoc a b c = omega arith

sum-lowered : (f : Numbers) (ns : List NameCount) → sum_by (weight f) (map (lowered ◌+◌) ns) ≡ sum_by (weight f) ns
sum-lowered f [] = refl
sum-lowered f (n ∷ ns) = sum_by-cons (weight f) (lowered ◌+◌ n) (map (lowered ◌+◌) ns) ∙ (ap (λ k. weight f n + k) (sum-lowered f ns) ∙ sym (sum_by-cons (weight f) n ns))

size-below : (f : Numbers) (c : TermCounts) → size_after (below ◌+◌ c) f ≡ 1 + size_after c f
size-below f c = ap (λ k. (c.own + 1) + k) (sum-lowered f c.names) ∙ front c.own (sum_by (weight f) c.names)
  where
    front : (a b : ℕ) → (a + 1) + b ≡ 1 + (a + b)
    front a b = omega arith

own_and_others : (f : Numbers) (x : List ℕ) (own : ℕ) (ns : List NameCount) → own_with ◌+◌ x own ns + sum_by (weight f) (others x ns) ≡ own + sum_by (weight (fixed x f)) ns
own_and_others f x own [] = refl
own_and_others f x own (n ∷ ns) = by_test (bytes_eq n.name x) refl (λ k. own_and_others f x k ns)
  where
    moved : (a t r : ℕ) → (a + t) + r ≡ a + (t * 1 + r)
    moved a t r = let e = mul-one t in omega arith

    swapped : (o w r : ℕ) → o + (w + r) ≡ w + (o + r)
    swapped o w r = omega arith

    by_test : (b : Bool) → bytes_eq n.name x ≡ b → ((k : ℕ) → own_with ◌+◌ x k ns + sum_by (weight f) (others x ns) ≡ k + sum_by (weight (fixed x f)) ns)
        → own_with ◌+◌ x (if b then own + n.times else own) ns + sum_by (weight f) (if b then others x ns else n ∷ others x ns) ≡ own + sum_by (weight (fixed x f)) (n ∷ ns)
    by_test true e u = u (own + n.times) ∙ (moved own n.times (sum_by (weight (fixed x f)) ns)
        ∙ (ap (λ b. own + (n.times * (if b then 1 else f n.name) + sum_by (weight (fixed x f)) ns)) (sym e) ∙ ap (λ k. own + k) (sym (sum_by-cons (weight (fixed x f)) n ns))))
    by_test false e u = ap (λ k. own_with ◌+◌ x own ns + k) (sum_by-cons (weight f) n (others x ns)) ∙ (swapped (own_with ◌+◌ x own ns) (weight f n) (sum_by (weight f) (others x ns))
        ∙ (ap (λ k. weight f n + k) (u own) ∙ (swapped (weight f n) own (sum_by (weight (fixed x f)) ns)
        ∙ (ap (λ b. own + (n.times * (if b then 1 else f n.name) + sum_by (weight (fixed x f)) ns)) (sym e) ∙ ap (λ k. own + k) (sym (sum_by-cons (weight (fixed x f)) n ns))))))

size-within_bound : (f : Numbers) (x : List ℕ) (c : TermCounts) → size_after (within_bound ◌+◌ x c) f ≡ size_after c (fixed x f)
size-within_bound f x c = own_and_others f x c.own c.names

size-of_quantifier : (f : Numbers) (x : List ℕ) (l h b : TermCounts) → size_after (of_quantifier ◌+◌ x l h b) f ≡ 1 + (size_after l f + size_after h f + size_after b (fixed x f))
size-of_quantifier f x l h b =
    size-below f (beside ◌+◌ (beside ◌+◌ l h) (within_bound ◌+◌ x b))
    ∙ ap (λ k. 1 + k) (size-beside f (beside ◌+◌ l h) (within_bound ◌+◌ x b) ∙ (λ i. size-beside f l h i + size-within_bound f x b i))

-- ---- the law of sizes

size_roll : (y : Term-F Term) → size_of (roll-Term y) ≡ size_step (map-Term Term ℕ size_of y)
size_roll y = fold-roll-Term ℕ size_step y

size_of-quantify : (q : Quantifier) (x : List ℕ) (l h b : Term) → size_of (quantify q x l h b) ≡ 1 + (size_of l + size_of h + size_of b)
size_of-quantify for_all x l h b = size_roll (Term-F.All x l h b)
size_of-quantify exists x l h b = size_roll (Term-F.Some x l h b)

abbrev sizes : Sub → Numbers
sizes s = λ y. size_of (s y)

abbrev SizeLaw : Term → Type 0
SizeLaw t = (s : Sub) → size_of (put t s) ≡ size_after (counted t) (sizes s)

size_each : (ts : List Term) → Each SizeLaw ts → (s : Sub) → sum (map size_of (put_each s ts)) ≡ sum (map (λ c. size_after c (sizes s)) (map counted ts))
size_each [] h s = refl
size_each (t ∷ ts) h s = sum-cons (size_of (put t s)) (map size_of (put_each s ts)) ∙ ((let a = h.0 s in let b = size_each ts h.1 s in λ i. a i + b i)
    ∙ sym (sum-cons (size_after (counted t) (sizes s)) (map (λ c. size_after c (sizes s)) (map counted ts))))

-- within a quantifier its name stands for a name
sizes_within : (s : Sub) (x y : List ℕ) → ◌≡◌ {A = Numbers} (sizes (extend s x (var y))) (fixed x (sizes s))
sizes_within s x y = λ i z. at z (bytes_eq z x) i
  where
    at : (z : List ℕ) (b : Bool) → size_of (if b then var y else s z) ≡ (if b then 1 else size_of (s z))
    at z true = size_roll (Term-F.Var y)
    at z false = refl

one_name : (k : ℕ) → k ≡ 0 + (0 + 1 * k)
one_name k = let e = one-mul k in omega arith

pub size-put : (t : Term) → SizeLaw t
size-put = by_cases SizeLaw record {
  at_int = λ n s. ap size_of (put_int n s) ∙ (size_roll (Term-F.Int n) ∙ ap (λ c. size_after c (sizes s)) (sym (counted_int ◌+◌ n)));
  at_truth = λ b s. ap size_of (put_truth b s) ∙ (size_roll (Term-F.Truth b) ∙ ap (λ c. size_after c (sizes s)) (sym (counted_truth ◌+◌ b)));
  at_var = λ x s. ap size_of (put_var x s) ∙ (one_name (size_of (s x)) ∙ ap (λ c. size_after c (sizes s)) (sym (counted_var ◌+◌ x)));
  at_op = λ o ts h s. ap size_of (put_op o ts s) ∙ (size_roll (Term-F.Op o (put_each s ts)) ∙ (ap (λ k. 1 + k) (size_each ts h s)
      ∙ (ap (λ k. 1 + k) (none (sum (map (λ c. size_after c (sizes s)) (map counted ts)))) ∙ (ap (λ k. 1 + k) (sym (size-all_beside (sizes s) of_none (map counted ts)))
      ∙ (sym (size-below (sizes s) (all_beside ◌+◌ of_none (map counted ts))) ∙ ap (λ c. size_after c (sizes s)) (sym (counted_op ◌+◌ o ts)))))));
  at_quantifier = λ q x l h b hl hh hb s.
      let y = name_for s x b in
      ap size_of (put_quantifier q x l h b s) ∙ (size_of-quantify q y (put l s) (put h s) (put b (extend s x (var y)))
      ∙ ((λ i. 1 + (hl s i + hh s i + (hb (extend s x (var y)) ∙ ap (size_after (counted b)) (sizes_within s x y)) i))
      ∙ (sym (size-of_quantifier (sizes s) x (counted l) (counted h) (counted b)) ∙ ap (λ c. size_after c (sizes s)) (sym (counted_quantifier ◌+◌ q x l h b)))));
}
  where
    none : (a : ℕ) → a ≡ (0 + 0) + a
    none a = omega arith
