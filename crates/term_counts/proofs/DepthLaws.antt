-- The depth after a substitution, from the counts of the term.
use Rattle.std.proofs.Common.{◌≡◌, ℕ, ◌+◌, ◌<◌, ◌≤◌, max, List, [], ◌∷◌, map, Bool, true, false, if◌then◌else◌, refl, sym, ◌∙◌, ap, subst, arith}
use Rattle.std.specs.Prelude.{bytes_eq}
use Rattle.term_core.specs.declared.term.Term.{Term}
use Rattle.term_core.specs.declared.term.Term.TheOpen.{Term-F}
use Rattle.term_core.specs.declared.term.Term.TheViews.{roll-Term}
use Rattle.term_core.specs.declared.term.Term.TheFolds.{fold-roll-Term, map-Term}
use Rattle.term_counts.specs.declared.counting.NameCount.{NameCount}
use Rattle.term_counts.specs.declared.counting.TermCounts.{TermCounts}
use Rattle.term_core.specs.Terms.{int, truth, var, op, Quantifier, for_all, exists, quantify, Each, by_cases, depth_of, depth_step, largest}
use Rattle.term_core.specs.Substitution.{Sub, put, extend}
use Rattle.term_counts.specs.Counts.{together, with_count, with_counts, beside, all_beside, lowered, below, others, within_bound, of_leaf, of_name, of_none, of_quantifier, counted, depth_after}
use Rattle.term_core.proofs.NameLaws.{same_name}
use Rattle.term_core.proofs.PutLaws.{put_each, put_int, put_truth, put_var, put_op, put_quantifier, name_for}
use Rattle.term_counts.proofs.CapLaws.{counted_int, counted_truth, counted_var, counted_op, counted_quantifier, largest-cons}
use Rattle.term_counts.proofs.SizeLaws.{Numbers, fixed}

-- how deep what stands for a name reaches
abbrev reach : Numbers → NameCount → ℕ
reach f n = n.above + f n.name

deepest : Numbers → List NameCount → ℕ
deepest f ns = largest (map (reach f) ns)

deepest-nil : (f : Numbers) → deepest f [] ≡ 0
unfolding deepest
deepest-nil f = refl

deepest-cons : (f : Numbers) (n : NameCount) (ns : List NameCount) → deepest f (n ∷ ns) ≡ max (reach f n) (deepest f ns)
unfolding deepest
deepest-cons f n ns = largest-cons (reach f n) (map (reach f) ns)

depth_is : (c : TermCounts) (f : Numbers) → depth_after c f ≡ max c.depth (deepest f c.names)
unfolding deepest
depth_is c f = refl

reach_together : (f : Numbers) (d c : NameCount) → bytes_eq d.name c.name ≡ true → reach f (together ◌+◌ d c) ≡ max (reach f d) (reach f c)
reach_together f d c e = raised d.above c.above (f c.name) ∙ ap (λ y. max (d.above + f y) (c.above + f c.name)) (sym (same_name d.name c.name e))
  where
    raised : (a b k : ℕ) → max a b + k ≡ max (a + k) (b + k)
    raised a b k = omega arith

deepest-with_count : (f : Numbers) (ds : List NameCount) (c : NameCount) → deepest f (with_count ◌+◌ ds c) ≡ max (deepest f ds) (reach f c)
deepest-with_count f [] c = deepest-cons f c [] ∙ ((λ i. max (reach f c) (deepest-nil f i)) ∙ (turned (reach f c) ∙ ap (λ k. max k (reach f c)) (sym (deepest-nil f))))
  where
    turned : (a : ℕ) → max a 0 ≡ max 0 a
    turned a = omega arith
deepest-with_count f (d ∷ ds) c = by_test (bytes_eq d.name c.name) refl (deepest-with_count f ds c)
  where
    shift : (a b r : ℕ) → max (max a b) r ≡ max (max a r) b
    shift a b r = omega arith

    assoc : (a b c : ℕ) → max a (max b c) ≡ max (max a b) c
    assoc a b c = omega arith

    by_test : (b : Bool) → bytes_eq d.name c.name ≡ b → deepest f (with_count ◌+◌ ds c) ≡ max (deepest f ds) (reach f c)
        → deepest f (if b then together ◌+◌ d c ∷ ds else d ∷ with_count ◌+◌ ds c) ≡ max (deepest f (d ∷ ds)) (reach f c)
    by_test true e u = deepest-cons f (together ◌+◌ d c) ds ∙ (ap (λ k. max k (deepest f ds)) (reach_together f d c e)
        ∙ (shift (reach f d) (reach f c) (deepest f ds) ∙ ap (λ k. max k (reach f c)) (sym (deepest-cons f d ds))))
    by_test false e u = deepest-cons f d (with_count ◌+◌ ds c) ∙ (ap (max (reach f d)) u
        ∙ (assoc (reach f d) (deepest f ds) (reach f c) ∙ ap (λ k. max k (reach f c)) (sym (deepest-cons f d ds))))

deepest-with_counts : (f : Numbers) (ds cs : List NameCount) → deepest f (with_counts ◌+◌ ds cs) ≡ max (deepest f ds) (deepest f cs)
deepest-with_counts f ds [] = none (deepest f ds) ∙ ap (max (deepest f ds)) (sym (deepest-nil f))
  where
    none : (a : ℕ) → a ≡ max a 0
    none a = omega arith
deepest-with_counts f ds (c ∷ cs) = deepest-with_counts f (with_count ◌+◌ ds c) cs ∙ (ap (λ k. max k (deepest f cs)) (deepest-with_count f ds c)
    ∙ (assoc (deepest f ds) (reach f c) (deepest f cs) ∙ ap (max (deepest f ds)) (sym (deepest-cons f c cs))))
  where
    assoc : (a b c : ℕ) → max (max a b) c ≡ max a (max b c)
    assoc a b c = omega arith

depth-beside : (f : Numbers) (a b : TermCounts) → depth_after (beside ◌+◌ a b) f ≡ max (depth_after a f) (depth_after b f)
depth-beside f a b = depth_is (beside ◌+◌ a b) f ∙ (ap (max (max a.depth b.depth)) (deepest-with_counts f a.names b.names)
    ∙ (apart a.depth b.depth (deepest f a.names) (deepest f b.names) ∙ (λ i. max (sym (depth_is a f) i) (sym (depth_is b f) i))))
  where
    apart : (a b x y : ℕ) → max (max a b) (max x y) ≡ max (max a x) (max b y)
    apart a b x y = omega arith

depth-all_beside : (f : Numbers) (a : TermCounts) (cs : List TermCounts) → depth_after (all_beside ◌+◌ a cs) f ≡ max (depth_after a f) (largest (map (λ c. depth_after c f) cs))
depth-all_beside f a [] = none (depth_after a f)
  where
    none : (a : ℕ) → a ≡ max a 0
    none a = omega arith
depth-all_beside f a (c ∷ cs) = depth-all_beside f (beside ◌+◌ a c) cs ∙ (ap (λ k. max k (largest (map (λ c. depth_after c f) cs))) (depth-beside f a c)
    ∙ (assoc (depth_after a f) (depth_after c f) (largest (map (λ c. depth_after c f) cs)) ∙ ap (max (depth_after a f)) (sym (largest-cons (depth_after c f) (map (λ c. depth_after c f) cs)))))
  where
    assoc : (a b c : ℕ) → max (max a b) c ≡ max a (max b c)
    assoc a b c = omega arith

deepest-lowered : (f : Numbers) (d : ℕ) (ns : List NameCount) → max (d + 1) (deepest f (map (lowered ◌+◌) ns)) ≡ 1 + max d (deepest f ns)
deepest-lowered f d [] = (λ i. max (d + 1) (deepest-nil f i)) ∙ (none d ∙ (λ i. 1 + max d (sym (deepest-nil f) i)))
  where
    none : (a : ℕ) → max (a + 1) 0 ≡ 1 + max a 0
    none a = omega arith
deepest-lowered f d (n ∷ ns) = ap (max (d + 1)) (deepest-cons f (lowered ◌+◌ n) (map (lowered ◌+◌) ns))
    ∙ (joined d n.above (f n.name) (deepest f (map (lowered ◌+◌) ns)) ∙ (deepest-lowered f (max d (reach f n)) ns
    ∙ (ap (λ k. 1 + k) (assoc d (reach f n) (deepest f ns)) ∙ ap (λ k. 1 + max d k) (sym (deepest-cons f n ns)))))
  where
    joined : (d a k r : ℕ) → max (d + 1) (max ((a + 1) + k) r) ≡ max (max d (a + k) + 1) r
    joined d a k r = omega arith

    assoc : (a b c : ℕ) → max (max a b) c ≡ max a (max b c)
    assoc a b c = omega arith

depth-below : (f : Numbers) (c : TermCounts) → depth_after (below ◌+◌ c) f ≡ 1 + depth_after c f
depth-below f c = depth_is (below ◌+◌ c) f ∙ (deepest-lowered f c.depth c.names ∙ ap (λ k. 1 + k) (sym (depth_is c f)))

-- ---- no name stands below the deepest node

abbrev Above : ℕ → List NameCount → Type 0
Above d [] = Unit {0}
Above d (n ∷ ns) = (n.above < d) × Above d ns

above_more : (d e : ℕ) (ns : List NameCount) → d ≤ e → Above d ns → Above e ns
above_more d e [] h k = tt
above_more d e (n ∷ ns) h k = ((let p = k.0 in omega arith), above_more d e ns h k.1)

above-with_count : (d : ℕ) (ds : List NameCount) (c : NameCount) → Above d ds → c.above < d → Above d (with_count ◌+◌ ds c)
above-with_count d [] c h k = (k, tt)
above-with_count d (x ∷ ds) c h k = by_test (bytes_eq x.name c.name) (above-with_count d ds c h.1 k)
  where
    by_test : (b : Bool) → Above d (with_count ◌+◌ ds c) → Above d (if b then together ◌+◌ x c ∷ ds else x ∷ with_count ◌+◌ ds c)
    by_test true u = ((let p = h.0 in omega arith), h.1)
    by_test false u = (h.0, u)

above-with_counts : (d : ℕ) (ds cs : List NameCount) → Above d ds → Above d cs → Above d (with_counts ◌+◌ ds cs)
above-with_counts d ds [] h k = h
above-with_counts d ds (c ∷ cs) h k = above-with_counts d (with_count ◌+◌ ds c) cs (above-with_count d ds c h k.0) k.1

abbrev InDepth : TermCounts → Type 0
InDepth c = Above c.depth c.names

in_depth-beside : (a b : TermCounts) → InDepth a → InDepth b → InDepth (beside ◌+◌ a b)
in_depth-beside a b h k = above-with_counts (max a.depth b.depth) a.names b.names (above_more a.depth (max a.depth b.depth) a.names (omega arith) h) (above_more b.depth (max a.depth b.depth) b.names (omega arith) k)

above-lowered : (d : ℕ) (ns : List NameCount) → Above d ns → Above (d + 1) (map (lowered ◌+◌) ns)
above-lowered d [] h = tt
above-lowered d (n ∷ ns) h = ((let p = h.0 in omega arith), above-lowered d ns h.1)

above-others : (d : ℕ) (x : List ℕ) (ns : List NameCount) → Above d ns → Above d (others x ns)
above-others d x [] h = tt
above-others d x (n ∷ ns) h = by_test (bytes_eq n.name x) (above-others d x ns h.1)
  where
    by_test : (b : Bool) → Above d (others x ns) → Above d (if b then others x ns else n ∷ others x ns)
    by_test true u = u
    by_test false u = (h.0, u)

abbrev CountedInDepth : Term → Type 0
CountedInDepth t = InDepth (counted t)

in_depth_all : (ts : List Term) → Each CountedInDepth ts → (a : TermCounts) → InDepth a → InDepth (all_beside ◌+◌ a (map counted ts))
in_depth_all [] h a k = k
in_depth_all (t ∷ ts) h a k = in_depth_all ts h.1 (beside ◌+◌ a (counted t)) (in_depth-beside a (counted t) k h.0)

counted_in_depth : (t : Term) → CountedInDepth t
counted_in_depth = by_cases CountedInDepth record {
  at_int = λ n. subst InDepth (sym (counted_int ◌+◌ n)) tt;
  at_truth = λ b. subst InDepth (sym (counted_truth ◌+◌ b)) tt;
  at_var = λ x. subst InDepth (sym (counted_var ◌+◌ x)) ((omega arith), tt);
  at_op = λ o ts h. subst InDepth (sym (counted_op ◌+◌ o ts)) (above-lowered (all_beside ◌+◌ of_none (map counted ts)).depth (all_beside ◌+◌ of_none (map counted ts)).names (in_depth_all ts h of_none tt));
  at_quantifier = λ q x l h b hl hh hb. subst InDepth (sym (counted_quantifier ◌+◌ q x l h b))
      (above-lowered (beside ◌+◌ (beside ◌+◌ (counted l) (counted h)) (within_bound ◌+◌ x (counted b))).depth (beside ◌+◌ (beside ◌+◌ (counted l) (counted h)) (within_bound ◌+◌ x (counted b))).names
      (in_depth-beside (beside ◌+◌ (counted l) (counted h)) (within_bound ◌+◌ x (counted b)) (in_depth-beside (counted l) (counted h) hl hh) (above-others (counted b).depth x (counted b).names hb)));
}

-- a bound name reaches no deeper than the term
deepest-others : (f : Numbers) (x : List ℕ) (d : ℕ) (ns : List NameCount) → Above d ns → max d (deepest f (others x ns)) ≡ max d (deepest (fixed x f) ns)
deepest-others f x d [] h = λ i. max d ((deepest-nil f ∙ sym (deepest-nil (fixed x f))) i)
deepest-others f x d (n ∷ ns) h = by_test (bytes_eq n.name x) refl (deepest-others f x d ns h.1)
  where
    reached : (a r : ℕ) → a < d → max d r ≡ max d (max (a + 1) r)
    reached a r p = omega arith

    moved : (a r : ℕ) → max d (max a r) ≡ max a (max d r)
    moved a r = omega arith

    by_test : (b : Bool) → bytes_eq n.name x ≡ b → max d (deepest f (others x ns)) ≡ max d (deepest (fixed x f) ns)
        → max d (deepest f (if b then others x ns else n ∷ others x ns)) ≡ max d (deepest (fixed x f) (n ∷ ns))
    by_test true e u = u ∙ (reached n.above (deepest (fixed x f) ns) h.0
        ∙ (ap (λ b. max d (max (n.above + (if b then 1 else f n.name)) (deepest (fixed x f) ns))) (sym e) ∙ ap (max d) (sym (deepest-cons (fixed x f) n ns))))
    by_test false e u = ap (max d) (deepest-cons f n (others x ns)) ∙ (moved (reach f n) (deepest f (others x ns)) ∙ (ap (max (reach f n)) u ∙ (sym (moved (reach f n) (deepest (fixed x f) ns))
        ∙ (ap (λ b. max d (max (n.above + (if b then 1 else f n.name)) (deepest (fixed x f) ns))) (sym e) ∙ ap (max d) (sym (deepest-cons (fixed x f) n ns))))))

depth-within_bound : (f : Numbers) (x : List ℕ) (c : TermCounts) → InDepth c → depth_after (within_bound ◌+◌ x c) f ≡ depth_after c (fixed x f)
depth-within_bound f x c h = depth_is (within_bound ◌+◌ x c) f ∙ (deepest-others f x c.depth c.names h ∙ sym (depth_is c (fixed x f)))

depth-of_quantifier : (f : Numbers) (x : List ℕ) (l h b : TermCounts) → InDepth b → depth_after (of_quantifier ◌+◌ x l h b) f ≡ 1 + max (depth_after l f) (max (depth_after h f) (depth_after b (fixed x f)))
depth-of_quantifier f x l h b k =
    depth-below f (beside ◌+◌ (beside ◌+◌ l h) (within_bound ◌+◌ x b))
    ∙ ap (λ k. 1 + k) (depth-beside f (beside ◌+◌ l h) (within_bound ◌+◌ x b) ∙ ((λ i. max (depth-beside f l h i) (depth-within_bound f x b k i))
    ∙ assoc (depth_after l f) (depth_after h f) (depth_after b (fixed x f))))
  where
    assoc : (a b c : ℕ) → max (max a b) c ≡ max a (max b c)
    assoc a b c = omega arith

-- ---- the law of depths

depth_roll : (y : Term-F Term) → depth_of (roll-Term y) ≡ depth_step (map-Term Term ℕ depth_of y)
depth_roll y = fold-roll-Term ℕ depth_step y

depth_of-quantify : (q : Quantifier) (x : List ℕ) (l h b : Term) → depth_of (quantify q x l h b) ≡ 1 + max (depth_of l) (max (depth_of h) (depth_of b))
depth_of-quantify for_all x l h b = depth_roll (Term-F.All x l h b)
depth_of-quantify exists x l h b = depth_roll (Term-F.Some x l h b)

abbrev IsDeep : Term → Type 0
IsDeep t = 0 < depth_of t

deep_from : (k n : ℕ) → k ≡ 1 + n → 0 < k
deep_from k n e = omega arith

depth_positive : (t : Term) → IsDeep t
depth_positive = by_cases IsDeep record {
  at_int = λ n. deep_from (depth_of (int n)) 0 (depth_roll (Term-F.Int n));
  at_truth = λ b. deep_from (depth_of (truth b)) 0 (depth_roll (Term-F.Truth b));
  at_var = λ x. deep_from (depth_of (var x)) 0 (depth_roll (Term-F.Var x));
  at_op = λ o ts h. deep_from (depth_of (op o ts)) (largest (map depth_of ts)) (depth_roll (Term-F.Op o ts));
  at_quantifier = λ q x l h b hl hh hb. deep_from (depth_of (quantify q x l h b)) (max (depth_of l) (max (depth_of h) (depth_of b))) (depth_of-quantify q x l h b);
}

abbrev depths : Sub → Numbers
depths s = λ y. depth_of (s y)

abbrev DepthLaw : Term → Type 0
DepthLaw t = (s : Sub) → depth_of (put t s) ≡ depth_after (counted t) (depths s)

depth_each : (ts : List Term) → Each DepthLaw ts → (s : Sub) → largest (map depth_of (put_each s ts)) ≡ largest (map (λ c. depth_after c (depths s)) (map counted ts))
depth_each [] h s = refl
depth_each (t ∷ ts) h s = largest-cons (depth_of (put t s)) (map depth_of (put_each s ts)) ∙ ((let a = h.0 s in let b = depth_each ts h.1 s in λ i. max (a i) (b i))
    ∙ sym (largest-cons (depth_after (counted t) (depths s)) (map (λ c. depth_after c (depths s)) (map counted ts))))

depths_within : (s : Sub) (x y : List ℕ) → ◌≡◌ {A = Numbers} (depths (extend s x (var y))) (fixed x (depths s))
depths_within s x y = λ i z. at z (bytes_eq z x) i
  where
    at : (z : List ℕ) (b : Bool) → depth_of (if b then var y else s z) ≡ (if b then 1 else depth_of (s z))
    at z true = depth_roll (Term-F.Var y)
    at z false = refl

depth-of_name : (f : Numbers) (x : List ℕ) → 0 < f x → f x ≡ depth_after (of_name x) f
depth-of_name f x h = one (f x) h ∙ ((λ i. max 1 (max (0 + f x) (sym (deepest-nil f) i))) ∙ (ap (max 1) (sym (deepest-cons f (record { name = x; times = 1; above = 0 }) [])) ∙ sym (depth_is (of_name x) f)))
  where
    one : (k : ℕ) → 0 < k → k ≡ max 1 (max (0 + k) 0)
    one k p = omega arith

depth-of_leaf : (f : Numbers) → depth_after of_leaf f ≡ 1
depth-of_leaf f = depth_is of_leaf f ∙ (λ i. max 1 (deepest-nil f i))

depth-of_none : (f : Numbers) → depth_after of_none f ≡ 0
depth-of_none f = depth_is of_none f ∙ (λ i. max 0 (deepest-nil f i))

pub depth-put : (t : Term) → DepthLaw t
depth-put = by_cases DepthLaw record {
  at_int = λ n s. ap depth_of (put_int n s) ∙ (depth_roll (Term-F.Int n) ∙ (sym (depth-of_leaf (depths s)) ∙ ap (λ c. depth_after c (depths s)) (sym (counted_int ◌+◌ n))));
  at_truth = λ b s. ap depth_of (put_truth b s) ∙ (depth_roll (Term-F.Truth b) ∙ (sym (depth-of_leaf (depths s)) ∙ ap (λ c. depth_after c (depths s)) (sym (counted_truth ◌+◌ b))));
  at_var = λ x s. ap depth_of (put_var x s) ∙ (depth-of_name (depths s) x (depth_positive (s x)) ∙ ap (λ c. depth_after c (depths s)) (sym (counted_var ◌+◌ x)));
  at_op = λ o ts h s. ap depth_of (put_op o ts s) ∙ (depth_roll (Term-F.Op o (put_each s ts)) ∙ (ap (λ k. 1 + k) (depth_each ts h s)
      ∙ (ap (λ k. 1 + k) (none (largest (map (λ c. depth_after c (depths s)) (map counted ts))) ∙ ap (λ k. max k (largest (map (λ c. depth_after c (depths s)) (map counted ts)))) (sym (depth-of_none (depths s))))
      ∙ (ap (λ k. 1 + k) (sym (depth-all_beside (depths s) of_none (map counted ts)))
      ∙ (sym (depth-below (depths s) (all_beside ◌+◌ of_none (map counted ts))) ∙ ap (λ c. depth_after c (depths s)) (sym (counted_op ◌+◌ o ts)))))));
  at_quantifier = λ q x l h b hl hh hb s.
      let y = name_for s x b in
      ap depth_of (put_quantifier q x l h b s) ∙ (depth_of-quantify q y (put l s) (put h s) (put b (extend s x (var y)))
      ∙ ((λ i. 1 + max (hl s i) (max (hh s i) ((hb (extend s x (var y)) ∙ ap (depth_after (counted b)) (depths_within s x y)) i)))
      ∙ (sym (depth-of_quantifier (depths s) x (counted l) (counted h) (counted b) (counted_in_depth b)) ∙ ap (λ c. depth_after c (depths s)) (sym (counted_quantifier ◌+◌ q x l h b)))));
}
  where
    none : (a : ℕ) → a ≡ max 0 a
    none a = omega arith
