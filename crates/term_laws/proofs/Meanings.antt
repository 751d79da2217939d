-- The one value of each term, and what the forms of terms make of it.
use Rattle.std.proofs.Common.{◌≡◌, ℕ, zero, suc, ◌+◌, ℤ, pos, List, [], ◌∷◌, map, Bool, true, false, ◌||◌, if◌then◌else◌, Option, Some, None, refl, sym, ◌∙◌, ap, subst, arith}
use Rattle.std.specs.Prelude.{bytes_eq}
use Rattle.std.specs.Option.{option_map, option_map_or, option_and_then}
use Rattle.term_core.specs.declared.term.Oper.{Oper}
use Rattle.term_core.specs.declared.term.Oper.TheVariants as oper
use Rattle.term_core.specs.declared.term.Term.{Term}
use Rattle.term_core.specs.Names.{has}
use Rattle.term_core.specs.Options.{all_some}
use Rattle.term_core.specs.Terms.{int, truth, var, op}
use Rattle.term_core.specs.Substitution.{free, Sub, put, subst_of}
use Rattle.term_core.specs.Values.{Value, a_number, a_truth, a_list, a_record, a_made, values, as_truth, Env, set}
use Rattle.term_core.specs.Operations.{Tables, outcome}
use Rattle.term_core.specs.Evaluation.{Calls, Meaning, tables_of, is_generator, fitting, called, calls, value, value_by, in_env, applied}
use Rattle.term_core.specs.Validity.{Holds}
use Rattle.term_core.proofs.NameLaws.{same_name}
use Rattle.term_laws.specs.Settled.{Settled, val, true_in, is_plain}
use Rattle.term_laws.proofs.Agreement.{SameEnv, agrees}
use Rattle.term_laws.proofs.PutValues.{put_law, subst_law}
use Rattle.term_laws.proofs.ValueLaws.{value_grows, one_value, value_int, value_truth, value_var, value_op}

pub is_val : (me : Meaning) (s : Settled me) (n : ℕ) (t : Term) (env : Env) (v : Value) → value n me t env ≡ Some v → val me s t env ≡ v
unfolding val
is_val me s n t env v e = one_value (s.settle t env).0 n me t env (s.settle t env).1.0 v (s.settle t env).1.1 e

-- the bound from which it is the value
pub val_found : (me : Meaning) (s : Settled me) (t : Term) (env : Env) → (n : ℕ) × (value n me t env ≡ Some (val me s t env))
unfolding val
val_found me s t env = ((s.settle t env).0, (s.settle t env).1.1)

-- ---- truth

truth_is : (v : Value) → as_truth v ≡ true → v ≡ a_truth true
truth_is (a_truth true) h = refl
truth_is (a_truth false) h = absurd cc
truth_is (a_number z) h = absurd cc
truth_is (a_list l vs) h = absurd cc
truth_is (a_record vs) h = absurd cc
truth_is (a_made g vs) h = absurd cc

pub holds_from : (me : Meaning) (s : Settled me) (t : Term) (env : Env) → true_in me s env t ≡ true → Holds me t env
unfolding true_in
holds_from me s t env h = let f = val_found me s t env in (f.0, f.1 ∙ ap Some (truth_is (val me s t env) h))

pub holds_to : (me : Meaning) (s : Settled me) (t : Term) (env : Env) → Holds me t env → true_in me s env t ≡ true
unfolding true_in
holds_to me s t env h = ap as_truth (is_val me s h.0 t env (a_truth true) h.1)

-- ---- leaves

pub val_int : (me : Meaning) (s : Settled me) (z : ℤ) (env : Env) → val me s (int z) env ≡ a_number z
val_int me s z env = is_val me s 0 (int z) env (a_number z) (value_int (tables_of me) (calls 0 me) z env)

pub val_truth : (me : Meaning) (s : Settled me) (b : Bool) (env : Env) → val me s (truth b) env ≡ a_truth b
val_truth me s b env = is_val me s 0 (truth b) env (a_truth b) (value_truth (tables_of me) (calls 0 me) b env)

pub val_var : (me : Meaning) (s : Settled me) (x : List ℕ) (env : Env) → val me s (var x) env ≡ env x
val_var me s x env = is_val me s 0 (var x) env (env x) (value_var (tables_of me) (calls 0 me) x env)

-- ---- operators

abbrev pub vals : (me : Meaning) → Settled me → Env → List Term → List Value
vals me s env ts = map (λ t. val me s t env) ts

pub parts_of : {A B : Type 0} (o : Option A) (f : A → Option B) (r : B) → option_and_then f o ≡ Some r → (v : A) × ((o ≡ Some v) × (f v ≡ Some r))
parts_of (Some v) f r e = (v, (refl, e))
parts_of None f r e = absurd cc

pub mapped_parts : {A B : Type 0} (o : Option A) (f : A → B) (r : B) → option_map f o ≡ Some r → (v : A) × ((o ≡ Some v) × (f v ≡ r))
mapped_parts (Some v) f r e = (v, (refl, (let d : Some (f v) ≡ Some r = e in cc)))
mapped_parts None f r e = absurd cc

-- values that are all there are the values of the terms
vals_are : (me : Meaning) (s : Settled me) (n : ℕ) (ts : List Term) (env : Env) (vs : List Value) → all_some (in_env env (map (value_by (tables_of me) (calls n me)) ts)) ≡ Some vs → vs ≡ vals me s env ts
vals_are me s n [] env vs e = let d : Some [] ≡ Some vs = e in cc
vals_are me s n (t ∷ ts) env vs e =
    let p = parts_of (value n me t env) _ vs e in
    let q = mapped_parts (all_some (in_env env (map (value_by (tables_of me) (calls n me)) ts))) (λ ws. p.0 ∷ ws) vs p.1.1 in
    let a = is_val me s n t env p.0 p.1.0 in
    let b = vals_are me s n ts env q.0 q.1.0 in
    sym q.1.1 ∙ (λ i. sym a i ∷ b i)

plain_applied : (m : Tables) (c : Calls) (o : Oper) (os : List (Option Value)) → is_plain o ≡ true → applied m c o os ≡ option_and_then (λ vs. Some (outcome m o vs)) (all_some os)
plain_applied m c oper.If os h = absurd cc
plain_applied m c (oper.User f) os h = absurd cc
plain_applied m c oper.Add os h = refl
plain_applied m c _ os h = refl

pub val_op : (me : Meaning) (s : Settled me) (o : Oper) (ts : List Term) (env : Env) → is_plain o ≡ true → val me s (op o ts) env ≡ outcome (tables_of me) o (vals me s env ts)
val_op me s o ts env h =
    let f = val_found me s (op o ts) env in
    let m = tables_of me in
    let e = sym (plain_applied m (calls f.0 me) o (in_env env (map (value_by m (calls f.0 me)) ts)) h) ∙ (sym (value_op m (calls f.0 me) o ts env) ∙ f.1) in
    let p = parts_of (all_some (in_env env (map (value_by m (calls f.0 me)) ts))) (λ vs. Some (outcome m o vs)) (val me s (op o ts) env) e in
    some_same (val me s (op o ts) env) (outcome m o p.0) (sym p.1.1) ∙ ap (outcome m o) (vals_are me s f.0 ts env p.0 p.1.0)
  where
    some_same : (v w : Value) → Some v ≡ Some w → v ≡ w
    some_same v w e = cc

pub val_if : (me : Meaning) (s : Settled me) (c a b : Term) (env : Env) → val me s (op oper.If (c ∷ a ∷ b ∷ [])) env ≡ (if true_in me s env c then val me s a env else val me s b env)
unfolding true_in
val_if me s c a b env =
    let f = val_found me s (op oper.If (c ∷ a ∷ b ∷ [])) env in
    let e = sym (value_op (tables_of me) (calls f.0 me) oper.If (c ∷ a ∷ b ∷ []) env) ∙ f.1 in
    let p = parts_of (value f.0 me c env) (λ v. if as_truth v then value f.0 me a env else value f.0 me b env) _ e in
    by_side f.0 (as_truth p.0) p.1.1 ∙ ap (λ v. if as_truth v then val me s a env else val me s b env) (sym (is_val me s f.0 c env p.0 p.1.0))
  where
    by_side : (n : ℕ) (t : Bool) → (if t then value n me a env else value n me b env) ≡ Some (val me s (op oper.If (c ∷ a ∷ b ∷ [])) env)
        → val me s (op oper.If (c ∷ a ∷ b ∷ [])) env ≡ (if t then val me s a env else val me s b env)
    by_side n true e = sym (is_val me s n a env _ e)
    by_side n false e = sym (is_val me s n b env _ e)

-- ---- operators of traits

-- what a call is at the bound of the value
user_found : (me : Meaning) (s : Settled me) (f : ℕ) (ts : List Term) (env : Env) → (n : ℕ) × (calls n me f (vals me s env ts) ≡ Some (val me s (op (oper.User f) ts) env))
user_found me s f ts env =
    let g = val_found me s (op (oper.User f) ts) env in
    let e = sym (value_op (tables_of me) (calls g.0 me) (oper.User f) ts env) ∙ g.1 in
    let p = parts_of (all_some (in_env env (map (value_by (tables_of me) (calls g.0 me)) ts))) (calls g.0 me f) _ e in
    (g.0, ap (calls g.0 me f) (sym (vals_are me s g.0 ts env p.0 p.1.0)) ∙ p.1.1)

pub val_generator : (me : Meaning) (s : Settled me) (f : ℕ) (ts : List Term) (env : Env) → is_generator me f ≡ true → val me s (op (oper.User f) ts) env ≡ a_made f (values (vals me s env ts))
val_generator me s f ts env h = let u = user_found me s f ts env in by_bound u.0 u.1
  where
    made : (r : Term → Env → Option Value) → called me r f (vals me s env ts) ≡ Some (val me s (op (oper.User f) ts) env) → val me s (op (oper.User f) ts) env ≡ a_made f (values (vals me s env ts))
    made r e = let d : Some (a_made f (values (vals me s env ts))) ≡ Some (val me s (op (oper.User f) ts) env)
        = ap (λ b. if b then Some (a_made f (values (vals me s env ts))) else option_map_or (λ p. r p.0 p.1) (fitting me.equations f (vals me s env ts)) (Some (a_number (pos 0)))) (sym h) ∙ e in cc

    by_bound : (n : ℕ) → calls n me f (vals me s env ts) ≡ Some (val me s (op (oper.User f) ts) env) → val me s (op (oper.User f) ts) env ≡ a_made f (values (vals me s env ts))
    by_bound zero e = made _ e
    by_bound (suc n) e = made _ e

-- a call of an operator that is no generator
not_made : (me : Meaning) (r : Term → Env → Option Value) (f : ℕ) (vs : List Value) (o : Option (Term × Env)) (v : Value) → is_generator me f ≡ false → fitting me.equations f vs ≡ o → called me r f vs ≡ Some v
    → option_map_or (λ p. r p.0 p.1) o (Some (a_number (pos 0))) ≡ Some v
not_made me r f vs o v h k e = (λ i. if sym h i then Some (a_made f (values vs)) else option_map_or (λ p. r p.0 p.1) (sym k i) (Some (a_number (pos 0)))) ∙ e

pub val_unfolded : (me : Meaning) (s : Settled me) (f : ℕ) (ts : List Term) (env : Env) (right : Term) (state : Env) → is_generator me f ≡ false → fitting me.equations f (vals me s env ts) ≡ Some (right, state)
    → val me s (op (oper.User f) ts) env ≡ val me s right state
val_unfolded me s f ts env right state h k = let u = user_found me s f ts env in by_bound u.0 u.1
  where
    by_bound : (n : ℕ) → calls n me f (vals me s env ts) ≡ Some (val me s (op (oper.User f) ts) env) → val me s (op (oper.User f) ts) env ≡ val me s right state
    by_bound zero e = absurd (let d : None ≡ Some (val me s (op (oper.User f) ts) env) = not_made me _ f (vals me s env ts) _ _ h k e in cc)
    by_bound (suc n) e = sym (is_val me s n right state _ (not_made me _ f (vals me s env ts) _ _ h k e))

pub val_undefined : (me : Meaning) (s : Settled me) (f : ℕ) (ts : List Term) (env : Env) → is_generator me f ≡ false → fitting me.equations f (vals me s env ts) ≡ None → val me s (op (oper.User f) ts) env ≡ a_number (pos 0)
val_undefined me s f ts env h k = let u = user_found me s f ts env in by_bound u.0 u.1
  where
    by_bound : (n : ℕ) → calls n me f (vals me s env ts) ≡ Some (val me s (op (oper.User f) ts) env) → val me s (op (oper.User f) ts) env ≡ a_number (pos 0)
    by_bound zero e = let d : Some (a_number (pos 0)) ≡ Some (val me s (op (oper.User f) ts) env) = not_made me _ f (vals me s env ts) _ _ h k e in cc
    by_bound (suc n) e = let d : Some (a_number (pos 0)) ≡ Some (val me s (op (oper.User f) ts) env) = not_made me _ f (vals me s env ts) _ _ h k e in cc

-- ---- substitution and states

pub val_agrees : (me : Meaning) (s : Settled me) (t : Term) (e f : Env) → SameEnv (free t) e f → val me s t e ≡ val me s t f
val_agrees me s t e f h = let g = val_found me s t f in is_val me s g.0 t e _ (agrees (tables_of me) (calls g.0 me) t e f h ∙ g.1)

pub val_subst : (me : Meaning) (s : Settled me) (t by : Term) (x : List ℕ) (env : Env) → val me s (subst_of t x by) env ≡ val me s t (set env x (val me s by env))
val_subst me s t by x env =
    let f = val_found me s by env in
    let g = val_found me s t (set env x (val me s by env)) in
    let a = value_grows g.0 f.0 me by env _ f.1 in
    let b = value_grows f.0 g.0 me t (set env x (val me s by env)) _ g.1 in
    let c : f.0 + g.0 ≡ g.0 + f.0 = omega arith in
    let d = subst (λ j. value j me t (set env x (val me s by env)) ≡ Some (val me s t (set env x (val me s by env)))) c b in
    is_val me s (g.0 + f.0) (subst_of t x by) env _ (subst_law (tables_of me) (calls (g.0 + f.0) me) t by x env (val me s by env) a ∙ d)

-- ---- a substitution of all names at once

-- from one bound on, all these names' terms have their values
abbrev Reached : (me : Meaning) → Settled me → Sub → Env → List (List ℕ) → ℕ → Type 0
Reached me s u env xs n = (x : List ℕ) → has xs x ≡ true → value n me (u x) env ≡ Some (val me s (u x) env)

all_reached : (me : Meaning) (s : Settled me) (u : Sub) (env : Env) (xs : List (List ℕ)) → (n : ℕ) × Reached me s u env xs n
all_reached me s u env [] = (0, λ x h. absurd cc)
all_reached me s u env (y ∷ ys) =
    let a = val_found me s (u y) env in
    let b = all_reached me s u env ys in
    (a.0 + b.0, λ x h. by_test a.0 a.1 b.0 b.1 x (bytes_eq y x) refl h)
  where
    by_test : (i : ℕ) → value i me (u y) env ≡ Some (val me s (u y) env) → (j : ℕ) → Reached me s u env ys j → (x : List ℕ) (t : Bool) → bytes_eq y x ≡ t → (bytes_eq y x || has ys x) ≡ true
        → value (i + j) me (u x) env ≡ Some (val me s (u x) env)
    by_test i e j r x true p h =
        let k : j + i ≡ i + j = omega arith in
        ap (λ z. value (i + j) me (u z) env) (sym (same_name y x p)) ∙ (subst (λ m. value m me (u y) env ≡ Some (val me s (u y) env)) k (value_grows j i me (u y) env _ e)
        ∙ ap (λ z. Some (val me s (u z) env)) (same_name y x p))
    by_test i e j r x false p h = value_grows i j me (u x) env _ (r x (ap (λ b. b || has ys x) (sym p) ∙ h))

pub val_put : (me : Meaning) (s : Settled me) (t : Term) (u : Sub) (env : Env) → val me s (put t u) env ≡ val me s t (λ x. val me s (u x) env)
val_put me s t u env =
    let r = all_reached me s u env (free t) in
    let inside : Env = λ x. val me s (u x) env in
    let f = val_found me s t inside in
    let k : r.0 + f.0 ≡ f.0 + r.0 = omega arith in
    let known = subst (λ m. value m me t inside ≡ Some (val me s t inside)) k (value_grows r.0 f.0 me t inside _ f.1) in
    is_val me s (f.0 + r.0) (put t u) env _ (put_law (tables_of me) (calls (f.0 + r.0) me) t u env inside (λ x h. value_grows f.0 r.0 me (u x) env _ (r.1 x h)) ∙ known)
