-- The free names of a substitution's result; substitutions compose, and results are normal.
use Rattle.std.proofs.Common.{◌≡◌, ℕ, List, [], ◌∷◌, map, Bool, true, false, ◌||◌, if◌then◌else◌, ◌⊎◌, inl, inr, refl, sym, ◌∙◌, ap}
use Rattle.std.specs.Prelude.{bytes_eq}
use Rattle.term_core.specs.declared.term.Term.{Term}
use Rattle.term_core.specs.declared.replacing.Entry.{Entry}
use Rattle.term_core.specs.Names.{has, union, union_all, without}
use Rattle.term_core.specs.Substitution.{free, Sub, extend, frees, put, normal, subst_of, then_entries, sub_of, normal_entries, put_all}
use Rattle.term_core.specs.Terms.{int, truth, var, op, quantify, Each, by_cases}
use Rattle.term_core.proofs.NameLaws.{same_name, name_refl}
use Rattle.term_core.proofs.PutLaws.{free_int, free_truth, free_var, free_op, free_quantifier, put_each, name_for, put_int, put_truth, put_var, put_op, put_quantifier}
use Rattle.term_laws.proofs.Agreement.{in_free, put_same}
use Rattle.term_laws.proofs.Freshness.{fresh_alike, base-fresh}
use Rattle.term_laws.proofs.Membership.{In, in_one, in_own, in_left, in_right, in_either, in_without, in_without_parts, in_low, in_high, in_body, same_test}
use Rattle.term_laws.proofs.PutValues.{in_frees, new_is_apart}

-- w is free in what stands for one of these names
abbrev Comes : Sub → List (List ℕ) → List ℕ → Type 0
Comes s xs w = (y : List ℕ) × (In xs y × In (free (s y)) w)

from_free : (t : Term) (xs : List (List ℕ)) (x : List ℕ) → free t ≡ xs → In (free t) x → In xs x
from_free t xs x e k = ap (λ ys. has ys x) (sym e) ∙ k

from_frees : (s : Sub) (ys : List (List ℕ)) (w : List ℕ) → In (union_all (frees s ys)) w → Comes s ys w
from_frees s [] w h = absurd cc
from_frees s (y ∷ ys) w h = by_side (in_either (free (s y)) (union_all (frees s ys)) w h) (from_frees s ys w)
  where
    later : (b c : Bool) → c ≡ true → (b || c) ≡ true
    later true c k = refl
    later false c k = k

    by_side : In (free (s y)) w ⊎ In (union_all (frees s ys)) w → (In (union_all (frees s ys)) w → Comes s ys w) → Comes s (y ∷ ys) w
    by_side (inl k) u = (y, (ap (λ b. b || has ys y) (name_refl y), k))
    by_side (inr k) u = let r = u k in (r.0, (later (bytes_eq y r.0) (has ys r.0) r.1.0, r.1.1))

-- ---- free names of the result

abbrev From : Term → Type 0
From t = (s : Sub) (w : List ℕ) → In (free (put t s)) w → Comes s (free t) w

abbrev To : Term → Type 0
To t = (s : Sub) (w : List ℕ) → Comes s (free t) w → In (free (put t s)) w

more_names : (s : Sub) (xs ys : List (List ℕ)) (w : List ℕ) → ((y : List ℕ) → In xs y → In ys y) → Comes s xs w → Comes s ys w
more_names s xs ys w f h = (h.0, (f h.0 h.1.0, h.1.1))

from_each : (ts : List Term) → Each From ts → (s : Sub) (w : List ℕ) → In (union_all (map free (put_each s ts))) w → Comes s (union_all (map free ts)) w
from_each [] h s w k = absurd cc
from_each (t ∷ ts) h s w k = by_side (in_either (free (put t s)) (union_all (map free (put_each s ts))) w k) (from_each ts h.1 s w)
  where
    by_side : In (free (put t s)) w ⊎ In (union_all (map free (put_each s ts))) w → (In (union_all (map free (put_each s ts))) w → Comes s (union_all (map free ts)) w) → Comes s (union_all (map free (t ∷ ts))) w
    by_side (inl p) u = more_names s (free t) _ w (in_left (free t) (union_all (map free ts))) (h.0 s w p)
    by_side (inr p) u = more_names s (union_all (map free ts)) _ w (in_right (free t) (union_all (map free ts))) (u p)

to_each : (ts : List Term) → Each To ts → (s : Sub) (w : List ℕ) → Comes s (union_all (map free ts)) w → In (union_all (map free (put_each s ts))) w
to_each [] h s w k = absurd (let e = k.1.0 in cc)
to_each (t ∷ ts) h s w k = by_side (in_either (free t) (union_all (map free ts)) k.0 k.1.0) (to_each ts h.1 s w)
  where
    by_side : In (free t) k.0 ⊎ In (union_all (map free ts)) k.0 → (Comes s (union_all (map free ts)) w → In (union_all (map free (put_each s ts))) w) → In (union_all (map free (put_each s (t ∷ ts)))) w
    by_side (inl p) u = in_left (free (put t s)) (union_all (map free (put_each s ts))) w (h.0 s w (k.0, (p, k.1.1)))
    by_side (inr p) u = in_right (free (put t s)) (union_all (map free (put_each s ts))) w (u (k.0, (p, k.1.1)))

-- within a quantifier, of what stands for the names of its body, all but its own name
body_from : (s : Sub) (x : List ℕ) (b : Term) (w : List ℕ) → bytes_eq w (name_for s x b) ≡ false → Comes (extend s x (var (name_for s x b))) (free b) w → Comes s (without x (free b)) w
body_from s x b w ne h = by_test (bytes_eq h.0 x) refl h.1.1
  where
    by_test : (t : Bool) → bytes_eq h.0 x ≡ t → In (free (if t then var (name_for s x b) else s h.0)) w → Comes s (without x (free b)) w
    by_test true e k = absurd (let p : bytes_eq w (name_for s x b) ≡ true = ap (λ z. bytes_eq z (name_for s x b)) (sym (in_one (name_for s x b) w (from_free (var (name_for s x b)) _ w (free_var (name_for s x b)) k))) ∙ name_refl (name_for s x b) in cc)
    by_test false e k = (h.0, (in_without x (free b) h.0 e h.1.0, k))

body_to : (s : Sub) (x : List ℕ) (b : Term) (w : List ℕ) → Comes s (without x (free b)) w → Comes (extend s x (var (name_for s x b))) (free b) w × (bytes_eq w (name_for s x b) ≡ false)
body_to s x b w h =
    let p = in_without_parts x (free b) h.0 h.1.0 in
    ((h.0, (p.0, ap (λ t. has (free (if t then var (name_for s x b) else s h.0)) w) p.1 ∙ h.1.1)), new_is_apart s x (without x (free b)) h.0 w h.1.0 h.1.1)

from_put : (t : Term) → From t
from_put = by_cases From record {
  at_int = λ n s w h. absurd (let k = from_free (int n) _ w (free_int n) (ap (λ t. has (free t) w) (sym (put_int n s)) ∙ h) in cc);
  at_truth = λ b s w h. absurd (let k = from_free (truth b) _ w (free_truth b) (ap (λ t. has (free t) w) (sym (put_truth b s)) ∙ h) in cc);
  at_var = λ x s w h. (x, (in_free (var x) _ x (free_var x) (in_own x), ap (λ t. has (free t) w) (sym (put_var x s)) ∙ h));
  at_op = λ o ts is s w h. more_names s _ (free (op o ts)) w (λ y k. in_free (op o ts) _ y (free_op o ts) k)
      (from_each ts is s w (from_free (op o (put_each s ts)) _ w (free_op o (put_each s ts)) (ap (λ t. has (free t) w) (sym (put_op o ts s)) ∙ h)));
  at_quantifier = λ q x l h b pl ph pb s w k.
      let y = name_for s x b in
      let b' = put b (extend s x (var y)) in
      let inside = from_free (quantify q y (put l s) (put h s) b') _ w (free_quantifier q y (put l s) (put h s) b') (ap (λ t. has (free t) w) (sym (put_quantifier q x l h b s)) ∙ k) in
      more_names s _ (free (quantify q x l h b)) w (λ z e. in_free (quantify q x l h b) _ z (free_quantifier q x l h b) e)
      (quantified_from s x l h b w (pl s w) (ph s w) (pb (extend s x (var y)) w) (in_either (free (put l s)) _ w inside));
}
  where
    quantified_from : (s : Sub) (x : List ℕ) (l h b : Term) (w : List ℕ) → (In (free (put l s)) w → Comes s (free l) w) → (In (free (put h s)) w → Comes s (free h) w)
        → (In (free (put b (extend s x (var (name_for s x b))))) w → Comes (extend s x (var (name_for s x b))) (free b) w)
        → In (free (put l s)) w ⊎ In (union (free (put h s)) (without (name_for s x b) (free (put b (extend s x (var (name_for s x b))))))) w
        → Comes s (union (free l) (union (free h) (without x (free b)))) w
    quantified_from s x l h b w pl ph pb (inl k) = more_names s (free l) _ w (in_low (free l) (free h) (without x (free b))) (pl k)
    quantified_from s x l h b w pl ph pb (inr k) = by_side (in_either (free (put h s)) _ w k)
      where
        by_side : In (free (put h s)) w ⊎ In (without (name_for s x b) (free (put b (extend s x (var (name_for s x b)))))) w → Comes s (union (free l) (union (free h) (without x (free b)))) w
        by_side (inl p) = more_names s (free h) _ w (in_high (free l) (free h) (without x (free b))) (ph p)
        by_side (inr p) = let r = in_without_parts (name_for s x b) _ w p in more_names s (without x (free b)) _ w (in_body (free l) (free h) (without x (free b))) (body_from s x b w r.1 (pb r.0))

to_put : (t : Term) → To t
to_put = by_cases To record {
  at_int = λ n s w h. absurd (let k = from_free (int n) _ h.0 (free_int n) h.1.0 in cc);
  at_truth = λ b s w h. absurd (let k = from_free (truth b) _ h.0 (free_truth b) h.1.0 in cc);
  at_var = λ x s w h. ap (λ t. has (free t) w) (put_var x s) ∙ (ap (λ y. has (free (s y)) w) (in_one x h.0 (from_free (var x) _ h.0 (free_var x) h.1.0)) ∙ h.1.1);
  at_op = λ o ts is s w h. ap (λ t. has (free t) w) (put_op o ts s) ∙ in_free (op o (put_each s ts)) _ w (free_op o (put_each s ts))
      (to_each ts is s w (more_names s (free (op o ts)) _ w (λ y k. from_free (op o ts) _ y (free_op o ts) k) h));
  at_quantifier = λ q x l h b pl ph pb s w k.
      let y = name_for s x b in
      let b' = put b (extend s x (var y)) in
      let inside = from_free (quantify q x l h b) _ k.0 (free_quantifier q x l h b) k.1.0 in
      ap (λ t. has (free t) w) (put_quantifier q x l h b s) ∙ in_free (quantify q y (put l s) (put h s) b') _ w (free_quantifier q y (put l s) (put h s) b')
      (quantified_to s x l h b w k.0 k.1.1 (pl s w) (ph s w) (pb (extend s x (var y)) w) (in_either (free l) _ k.0 inside));
}
  where
    quantified_to : (s : Sub) (x : List ℕ) (l h b : Term) (w z : List ℕ) → In (free (s z)) w → (Comes s (free l) w → In (free (put l s)) w) → (Comes s (free h) w → In (free (put h s)) w)
        → (Comes (extend s x (var (name_for s x b))) (free b) w → In (free (put b (extend s x (var (name_for s x b))))) w)
        → In (free l) z ⊎ In (union (free h) (without x (free b))) z
        → In (union (free (put l s)) (union (free (put h s)) (without (name_for s x b) (free (put b (extend s x (var (name_for s x b)))))))) w
    quantified_to s x l h b w z f pl ph pb (inl k) = in_low (free (put l s)) (free (put h s)) _ w (pl (z, (k, f)))
    quantified_to s x l h b w z f pl ph pb (inr k) = by_side (in_either (free h) _ z k)
      where
        by_side : In (free h) z ⊎ In (without x (free b)) z → In (union (free (put l s)) (union (free (put h s)) (without (name_for s x b) (free (put b (extend s x (var (name_for s x b)))))))) w
        by_side (inl p) = in_high (free (put l s)) (free (put h s)) _ w (ph (z, (p, f)))
        by_side (inr p) = let r = body_to s x b w (z, (p, f)) in in_body (free (put l s)) (free (put h s)) _ w (in_without (name_for s x b) _ w r.1 (pb r.0))

-- ---- substitutions compose

abbrev pub after : Sub → Sub → Sub
after s u = λ x. put (s x) u

-- the free names of the body of a quantifier in the result, but for its own
abbrev inner_names : Sub → List ℕ → Term → List (List ℕ)
inner_names s x b = without (name_for s x b) (free (put b (extend s x (var (name_for s x b)))))

-- the name of a quantifier is the same, one after the other and at once
names_alike : (s u : Sub) (x : List ℕ) (b : Term) → name_for u (name_for s x b) (put b (extend s x (var (name_for s x b)))) ≡ name_for (after s u) x b
names_alike s u x b =
    fresh_alike (union_all (frees u (inner_names s x b))) (union_all (frees (after s u) (without x (free b)))) (name_for s x b) x
    (λ w. same_test (has (union_all (frees u (inner_names s x b))) w) (has (union_all (frees (after s u) (without x (free b)))) w) (there w) (back w))
    (base-fresh (union_all (frees s (without x (free b)))) x)
  where
    there : (w : List ℕ) → In (union_all (frees u (inner_names s x b))) w → In (union_all (frees (after s u) (without x (free b)))) w
    there w h =
        let c = from_frees u (inner_names s x b) w h in
        let p = in_without_parts (name_for s x b) (free (put b (extend s x (var (name_for s x b))))) c.0 c.1.0 in
        let d = body_from s x b c.0 p.1 (from_put b (extend s x (var (name_for s x b))) c.0 p.0) in
        in_frees (after s u) (without x (free b)) d.0 w d.1.0 (to_put (s d.0) u w (c.0, (d.1.1, c.1.1)))

    back : (w : List ℕ) → In (union_all (frees (after s u) (without x (free b)))) w → In (union_all (frees u (inner_names s x b))) w
    back w h =
        let c = from_frees (after s u) (without x (free b)) w h in
        let d = from_put (s c.0) u w c.1.1 in
        let r = body_to s x b d.0 (c.0, (c.1.0, d.1.0)) in
        in_frees u (inner_names s x b) d.0 w (in_without (name_for s x b) (free (put b (extend s x (var (name_for s x b))))) d.0 r.1 (to_put b (extend s x (var (name_for s x b))) d.0 r.0)) d.1.1

-- under a quantifier too
body_after : (s u : Sub) (x z : List ℕ) (b : Term) → put b (after (extend s x (var (name_for s x b))) (extend u (name_for s x b) (var z))) ≡ put b (extend (after s u) x (var z))
body_after s u x z b = put_same b _ _ (λ v k. by_test v k (bytes_eq v x) refl)
  where
    own : put (var (name_for s x b)) (extend u (name_for s x b) (var z)) ≡ var z
    own = put_var (name_for s x b) (extend u (name_for s x b) (var z)) ∙ ap (λ t. if t then var z else u (name_for s x b)) (name_refl (name_for s x b))

    by_test : (v : List ℕ) → In (free b) v → (t : Bool) → bytes_eq v x ≡ t → put (if t then var (name_for s x b) else s v) (extend u (name_for s x b) (var z)) ≡ (if t then var z else put (s v) u)
    by_test v k true e = own
    by_test v k false e = put_same (s v) _ _ (λ w f. ap (λ t. if t then var z else u w) (new_is_apart s x (without x (free b)) v w (in_without x (free b) v e k) f))

abbrev PutPut : Term → Type 0
PutPut t = (s u : Sub) → put (put t s) u ≡ put t (after s u)

put_put_each : (ts : List Term) → Each PutPut ts → (s u : Sub) → put_each u (put_each s ts) ≡ put_each (after s u) ts
put_put_each [] h s u = refl
put_put_each (t ∷ ts) h s u = let a = h.0 s u in let b = put_put_each ts h.1 s u in λ i. a i ∷ b i

pub put_put : (t : Term) → PutPut t
put_put = by_cases PutPut record {
  at_int = λ n s u. ap (λ t. put t u) (put_int n s) ∙ (put_int n u ∙ sym (put_int n (after s u)));
  at_truth = λ b s u. ap (λ t. put t u) (put_truth b s) ∙ (put_truth b u ∙ sym (put_truth b (after s u)));
  at_var = λ x s u. ap (λ t. put t u) (put_var x s) ∙ sym (put_var x (after s u));
  at_op = λ o ts h s u. ap (λ t. put t u) (put_op o ts s) ∙ (put_op o (put_each s ts) u ∙ (ap (op o) (put_put_each ts h s u) ∙ sym (put_op o ts (after s u))));
  at_quantifier = λ q x l h b pl ph pb s u.
      let y = name_for s x b in
      let inner = extend s x (var y) in
      let z = name_for u y (put b inner) in
      let body = pb inner (extend u y (var z)) ∙ body_after s u x z b in
      ap (λ t. put t u) (put_quantifier q x l h b s) ∙ (put_quantifier q y (put l s) (put h s) (put b inner) u
      ∙ ((λ i. quantify q z (pl s u i) (ph s u i) (body i))
      ∙ (ap (λ w. quantify q w (put l (after s u)) (put h (after s u)) (put b (extend (after s u) x (var w)))) (names_alike s u x b) ∙ sym (put_quantifier q x l h b (after s u)))));
}

-- ---- normal terms

-- the result is normal where what is put in is
pub normal_put : (t : Term) (s : Sub) → ((x : List ℕ) → In (free t) x → normal (s x) ≡ s x) → normal (put t s) ≡ put t s
normal_put t s h = put_put t s var ∙ put_same t (after s var) s h

pub normal_normal : (t : Term) → normal (normal t) ≡ normal t
normal_normal t = normal_put t var (λ x k. put_var x var)

normal_then : (es : List Entry) (s : Sub) (x : List ℕ) → ((x : List ℕ) → normal (s x) ≡ s x) → normal (then_entries s (normal_entries es) x) ≡ then_entries s (normal_entries es) x
normal_then [] s x h = h x
normal_then (e ∷ es) s x h = normal_then es (extend s e.name (normal e.by)) x (λ y. by_test y (bytes_eq y e.name))
  where
    by_test : (y : List ℕ) (b : Bool) → normal (if b then normal e.by else s y) ≡ (if b then normal e.by else s y)
    by_test y true = normal_normal e.by
    by_test y false = h y

pub normal_put_all : (t : Term) (es : List Entry) → normal (put_all t es) ≡ put_all t es
normal_put_all t es = normal_put t (sub_of (normal_entries es)) (λ x k. normal_then es var x (λ y. put_var y var))

-- an unused name: the result is the normal form
pub subst_unused : (t by : Term) (x : List ℕ) → has (free t) x ≡ false → subst_of t x by ≡ normal t
subst_unused t by x h = put_same t (extend var x (normal by)) var (λ y k. by_test y k (bytes_eq y x) refl)
  where
    by_test : (y : List ℕ) → In (free t) y → (b : Bool) → bytes_eq y x ≡ b → (if b then normal by else var y) ≡ var y
    by_test y k false e = refl
    by_test y k true e = absurd (let f : has (free t) x ≡ true = ap (has (free t)) (sym (same_name y x e)) ∙ k in cc)
