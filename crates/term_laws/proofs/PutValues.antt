-- The value of a substitution's result.
use Rattle.std.proofs.Common.{◌≡◌, ℕ, List, [], ◌∷◌, map, Bool, true, false, ◌||◌, if◌then◌else◌, Some, refl, sym, ◌∙◌, ap}
use Rattle.std.specs.Prelude.{bytes_eq}
use Rattle.term_core.specs.declared.term.Term.{Term}
use Rattle.term_core.specs.Names.{has, union, union_all, without}
use Rattle.term_core.specs.Operations.{Tables}
use Rattle.term_core.specs.Evaluation.{Calls, in_env, applied, value_by}
use Rattle.term_core.specs.Substitution.{free, Sub, extend, frees, new_name, put, normal, subst_of}
use Rattle.term_core.specs.Terms.{var, op, quantify, Each, by_cases}
use Rattle.term_core.specs.Values.{Value, Env, set}
use Rattle.term_core.proofs.NameLaws.{same_name, name_refl}
use Rattle.term_core.proofs.PutLaws.{free_var, free_op, free_quantifier, put_each, name_for, put_int, put_truth, put_var, put_op, put_quantifier}
use Rattle.term_laws.proofs.Agreement.{in_free, agrees, over_same}
use Rattle.term_laws.proofs.Freshness.{fresh_apart}
use Rattle.term_laws.proofs.Membership.{In, in_own, in_left, in_right, in_without, in_low, in_high, in_body}
use Rattle.term_laws.proofs.ValueLaws.{value_int, value_truth, value_var, value_op, value_quantifier}

-- the terms of s have in e the values of r, at these names
abbrev pub Gives : Tables → Calls → Sub → Env → Env → List (List ℕ) → Type 0
Gives m c s e r xs = (x : List ℕ) → In xs x → value_by m c (s x) e ≡ Some (r x)

abbrev PutLaw : Tables → Calls → Term → Type 0
PutLaw m c t = (s : Sub) (e r : Env) → Gives m c s e r (free t) → value_by m c (put t s) e ≡ value_by m c t r

pub in_frees : (s : Sub) (ys : List (List ℕ)) (z w : List ℕ) → In ys z → In (free (s z)) w → In (union_all (frees s ys)) w
in_frees s [] z w h k = absurd cc
in_frees s (y ∷ ys) z w h k = by_test (bytes_eq y z) refl (in_frees s ys z w)
  where
    by_test : (b : Bool) → bytes_eq y z ≡ b → (In ys z → In (free (s z)) w → In (union_all (frees s ys)) w) → In (union (free (s y)) (union_all (frees s ys))) w
    by_test true e u = in_left (free (s y)) (union_all (frees s ys)) w (ap (λ x. has (free (s x)) w) (same_name y z e) ∙ k)
    by_test false e u = in_right (free (s y)) (union_all (frees s ys)) w (u (ap (λ b. b || has ys z) (sym e) ∙ h) k)

-- the new name isn't free in what is put in
pub new_is_apart : (s : Sub) (x : List ℕ) (ys : List (List ℕ)) (z w : List ℕ) → In ys z → In (free (s z)) w → bytes_eq w (new_name s x ys) ≡ false
new_is_apart s x ys z w h k = by_test (bytes_eq w (new_name s x ys)) refl
  where
    by_test : (b : Bool) → bytes_eq w (new_name s x ys) ≡ b → bytes_eq w (new_name s x ys) ≡ false
    by_test false e = e
    by_test true e = absurd (let p = fresh_apart (union_all (frees s ys)) x in let q = in_frees s ys z w h k in let r : has (union_all (frees s ys)) (new_name s x ys) ≡ true = ap (has (union_all (frees s ys))) (sym (same_name w (new_name s x ys) e)) ∙ q in cc)

gives_under : (m : Tables) (c : Calls) (s : Sub) (e r : Env) (x y : List ℕ) (ys : List (List ℕ)) (v : Value) → Gives m c s e r (without x ys)
    → ((z w : List ℕ) → In (without x ys) z → In (free (s z)) w → bytes_eq w y ≡ false)
    → Gives m c (extend s x (var y)) (set e y v) (set r x v) ys
gives_under m c s e r x y ys v g apart z k = by_test (bytes_eq z x) refl
  where
    by_test : (b : Bool) → bytes_eq z x ≡ b → value_by m c (if b then var y else s z) (set e y v) ≡ Some (if b then v else r z)
    by_test true t = value_var m c y (set e y v) ∙ ap (λ b. Some (if b then v else e y)) (name_refl y)
    by_test false t = agrees m c (s z) (set e y v) e (λ w h. ap (λ b. if b then v else e w) (apart z w (in_without x ys z t k) h)) ∙ g z (in_without x ys z t k)

gives_body : (m : Tables) (c : Calls) (s : Sub) (e r : Env) (x : List ℕ) (ys : List (List ℕ)) (v : Value) → Gives m c s e r (without x ys)
    → Gives m c (extend s x (var (new_name s x (without x ys)))) (set e (new_name s x (without x ys)) v) (set r x v) ys
gives_body m c s e r x ys v g = gives_under m c s e r x (new_name s x (without x ys)) ys v g (new_is_apart s x (without x ys))

put_law_each : (m : Tables) (c : Calls) (ts : List Term) (s : Sub) (e r : Env) → Each (PutLaw m c) ts → Gives m c s e r (union_all (map free ts)) → in_env e (map (value_by m c) (put_each s ts)) ≡ in_env r (map (value_by m c) ts)
put_law_each m c [] s e r h g = refl
put_law_each m c (t ∷ ts) s e r h g =
    let a = h.0 s e r (λ x k. g x (in_left (free t) (union_all (map free ts)) x k)) in
    let b = put_law_each m c ts s e r h.1 (λ x k. g x (in_right (free t) (union_all (map free ts)) x k)) in
    λ i. a i ∷ b i

pub put_law : (m : Tables) (c : Calls) (t : Term) → PutLaw m c t
put_law m c = by_cases (PutLaw m c) record {
  at_int = λ n s e r g. ap (λ t. value_by m c t e) (put_int n s) ∙ (value_int m c n e ∙ sym (value_int m c n r));
  at_truth = λ b s e r g. ap (λ t. value_by m c t e) (put_truth b s) ∙ (value_truth m c b e ∙ sym (value_truth m c b r));
  at_var = λ x s e r g. ap (λ t. value_by m c t e) (put_var x s) ∙ (g x (in_free (var x) _ x (free_var x) (in_own x)) ∙ sym (value_var m c x r));
  at_op = λ o ts h s e r g. ap (λ t. value_by m c t e) (put_op o ts s) ∙ (value_op m c o (put_each s ts) e
      ∙ (ap (applied m c o) (put_law_each m c ts s e r h (λ x k. g x (in_free (op o ts) _ x (free_op o ts) k))) ∙ sym (value_op m c o ts r)));
  at_quantifier = λ q x l h b hl hh hb s e r g.
      let k = λ (y : List ℕ). λ (k : In (union (free l) (union (free h) (without x (free b)))) y). g y (in_free (quantify q x l h b) _ y (free_quantifier q x l h b) k) in
      ap (λ t. value_by m c t e) (put_quantifier q x l h b s) ∙ (value_quantifier m c q (name_for s x b) (put l s) (put h s) (put b (extend s x (var (name_for s x b)))) e
      ∙ (over_same q _ _ _ _ _ _ (hl s e r (λ y p. k y (in_low (free l) (free h) _ y p))) (hh s e r (λ y p. k y (in_high (free l) (free h) _ y p)))
      (λ v. hb _ _ _ (gives_body m c s e r x (free b) v (λ y p. k y (in_body (free l) (free h) _ y p)))) ∙ sym (value_quantifier m c q x l h b r)));
}

-- the normal form has the same value
pub normal_law : (m : Tables) (c : Calls) (t : Term) (e : Env) → value_by m c (normal t) e ≡ value_by m c t e
normal_law m c t e = put_law m c t var e e (λ x k. value_var m c x e)

-- the value of the result is that of the term in the state with the name set to the value of `by`
pub subst_law : (m : Tables) (c : Calls) (t by : Term) (x : List ℕ) (e : Env) (v : Value) → value_by m c by e ≡ Some v → value_by m c (subst_of t x by) e ≡ value_by m c t (set e x v)
subst_law m c t by x e v h = put_law m c t (extend var x (normal by)) e (set e x v) (λ y k. by_test y (bytes_eq y x))
  where
    by_test : (y : List ℕ) (b : Bool) → value_by m c (if b then normal by else var y) e ≡ Some (if b then v else e y)
    by_test y true = normal_law m c by e ∙ h
    by_test y false = value_var m c y e
