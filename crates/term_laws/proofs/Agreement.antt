-- A value, and the result of a substitution, depend on the free names alone.
use Rattle.std.proofs.Common.{◌≡◌, ℕ, List, [], ◌∷◌, map, Bool, true, false, ◌||◌, if◌then◌else◌, Option, Some, refl, sym, ◌∙◌, ap}
use Rattle.std.specs.Prelude.{bytes_eq}
use Rattle.term_core.specs.declared.term.Term.{Term}
use Rattle.term_core.specs.Names.{has, union, union_all, without, fresh}
use Rattle.term_core.specs.Operations.{Tables}
use Rattle.term_core.specs.Evaluation.{Calls, in_env, applied, over, value_by}
use Rattle.term_core.specs.Substitution.{free, Sub, extend, frees, put}
use Rattle.term_core.specs.Terms.{var, op, Quantifier, quantify, Each, by_cases}
use Rattle.term_core.specs.Values.{Value, Env, set}
use Rattle.term_core.proofs.NameLaws.{name_refl}
use Rattle.term_core.proofs.PutLaws.{free_var, free_op, free_quantifier, put_each, name_for, put_int, put_truth, put_var, put_op, put_quantifier}
use Rattle.term_laws.proofs.Membership.{In, in_own, in_left, in_right, in_without, in_low, in_high, in_body}
use Rattle.term_laws.proofs.ValueLaws.{value_int, value_truth, value_var, value_op, value_quantifier}

pub in_free : (t : Term) (xs : List (List ℕ)) (x : List ℕ) → free t ≡ xs → In xs x → In (free t) x
in_free t xs x e k = ap (λ ys. has ys x) e ∙ k

-- ---- values

abbrev pub SameEnv : List (List ℕ) → Env → Env → Type 0
SameEnv xs e f = (x : List ℕ) → In xs x → e x ≡ f x

abbrev Agrees : Tables → Calls → Term → Type 0
Agrees m c t = (e f : Env) → SameEnv (free t) e f → value_by m c t e ≡ value_by m c t f

agree_each : (m : Tables) (c : Calls) (ts : List Term) (e f : Env) → Each (Agrees m c) ts → SameEnv (union_all (map free ts)) e f → in_env e (map (value_by m c) ts) ≡ in_env f (map (value_by m c) ts)
agree_each m c [] e f h same = refl
agree_each m c (t ∷ ts) e f h same =
    let a = h.0 e f (λ x k. same x (in_left (free t) (union_all (map free ts)) x k)) in
    let b = agree_each m c ts e f h.1 (λ x k. same x (in_right (free t) (union_all (map free ts)) x k)) in
    λ i. a i ∷ b i

set_same : (x : List ℕ) (v : Value) (e f : Env) (ys : List (List ℕ)) → SameEnv (without x ys) e f → SameEnv ys (set e x v) (set f x v)
set_same x v e f ys h y k = by_test (bytes_eq y x) refl
  where
    by_test : (b : Bool) → bytes_eq y x ≡ b → (if b then v else e y) ≡ (if b then v else f y)
    by_test true t = refl
    by_test false t = h y (in_without x ys y t k)

pub over_same : (q : Quantifier) (a a' b b' : Option Value) (f g : Value → Option Value) → a ≡ a' → b ≡ b' → ((v : Value) → f v ≡ g v) → over q a b f ≡ over q a' b' g
over_same q a a' b b' f g p r h = λ i. over q (p i) (r i) (λ v. h v i)

pub agrees : (m : Tables) (c : Calls) (t : Term) → Agrees m c t
agrees m c = by_cases (Agrees m c) record {
  at_int = λ n e f s. value_int m c n e ∙ sym (value_int m c n f);
  at_truth = λ b e f s. value_truth m c b e ∙ sym (value_truth m c b f);
  at_var = λ x e f s. value_var m c x e ∙ (ap Some (s x (in_free (var x) _ x (free_var x) (in_own x))) ∙ sym (value_var m c x f));
  at_op = λ o ts h e f s. value_op m c o ts e ∙ (ap (applied m c o) (agree_each m c ts e f h (λ x k. s x (in_free (op o ts) _ x (free_op o ts) k))) ∙ sym (value_op m c o ts f));
  at_quantifier = λ q x l h b hl hh hb e f s.
      let g = λ (y : List ℕ). λ (k : In (union (free l) (union (free h) (without x (free b)))) y). s y (in_free (quantify q x l h b) _ y (free_quantifier q x l h b) k) in
      value_quantifier m c q x l h b e ∙ (over_same q _ _ _ _ _ _ (hl e f (λ y k. g y (in_low (free l) (free h) _ y k))) (hh e f (λ y k. g y (in_high (free l) (free h) _ y k)))
      (λ v. hb (set e x v) (set f x v) (set_same x v e f (free b) (λ y k. g y (in_body (free l) (free h) _ y k)))) ∙ sym (value_quantifier m c q x l h b f));
}

-- ---- substitution

abbrev pub SameSub : List (List ℕ) → Sub → Sub → Type 0
SameSub xs s u = (x : List ℕ) → In xs x → s x ≡ u x

frees_same : (s u : Sub) (ys : List (List ℕ)) → SameSub ys s u → frees s ys ≡ frees u ys
frees_same s u [] h = refl
frees_same s u (y ∷ ys) h =
    let a = h y (ap (λ b. b || has ys y) (name_refl y)) in
    let b = frees_same s u ys (λ x k. h x (later (bytes_eq y x) _ k)) in
    λ i. free (a i) ∷ b i
  where
    later : (b c : Bool) → c ≡ true → (b || c) ≡ true
    later true c k = refl
    later false c k = k

abbrev PutSame : Term → Type 0
PutSame t = (s u : Sub) → SameSub (free t) s u → put t s ≡ put t u

each_same : (ts : List Term) (s u : Sub) → Each PutSame ts → SameSub (union_all (map free ts)) s u → put_each s ts ≡ put_each u ts
each_same [] s u h k = refl
each_same (t ∷ ts) s u h k =
    let a = h.0 s u (λ x e. k x (in_left (free t) (union_all (map free ts)) x e)) in
    let b = each_same ts s u h.1 (λ x e. k x (in_right (free t) (union_all (map free ts)) x e)) in
    λ i. a i ∷ b i

extend_same : (x : List ℕ) (t : Term) (s u : Sub) (ys : List (List ℕ)) → SameSub (without x ys) s u → SameSub ys (extend s x t) (extend u x t)
extend_same x t s u ys h z k = by_test (bytes_eq z x) refl
  where
    by_test : (b : Bool) → bytes_eq z x ≡ b → (if b then t else s z) ≡ (if b then t else u z)
    by_test true e = refl
    by_test false e = h z (in_without x ys z e k)

pub put_same : (t : Term) → PutSame t
put_same = by_cases PutSame record {
  at_int = λ n s u k. put_int n s ∙ sym (put_int n u);
  at_truth = λ b s u k. put_truth b s ∙ sym (put_truth b u);
  at_var = λ x s u k. put_var x s ∙ (k x (in_free (var x) _ x (free_var x) (in_own x)) ∙ sym (put_var x u));
  at_op = λ o ts h s u k. put_op o ts s ∙ (ap (op o) (each_same ts s u h (λ x e. k x (in_free (op o ts) _ x (free_op o ts) e))) ∙ sym (put_op o ts u));
  at_quantifier = λ q x l h b pl ph pb s u k.
      let g = λ (y : List ℕ). λ (e : In (union (free l) (union (free h) (without x (free b)))) y). k y (in_free (quantify q x l h b) _ y (free_quantifier q x l h b) e) in
      let right = λ (y : List ℕ). λ (e : In (without x (free b)) y). g y (in_body (free l) (free h) _ y e) in
      let n = ap (λ fs. fresh (union_all fs) x) (frees_same s u (without x (free b)) right) in
      let pl = pl s u (λ y e. g y (in_low (free l) (free h) _ y e)) in
      let ph = ph s u (λ y e. g y (in_high (free l) (free h) _ y e)) in
      let pb = pb (extend s x (var (name_for s x b))) (extend u x (var (name_for s x b))) (extend_same x (var (name_for s x b)) s u (free b) right) in
      put_quantifier q x l h b s ∙ ((λ i. quantify q (name_for s x b) (pl i) (ph i) (pb i)) ∙ (ap (λ y. quantify q y (put l u) (put h u) (put b (extend u x (var y)))) n ∙ sym (put_quantifier q x l h b u)));
}
