-- A term has a value from some bound on, where each call in it has.
use Rattle.std.proofs.Common.{◌≡◌, ℕ, zero, suc, ◌+◌, ℤ, pos, ◌+ℤ◌, List, [], ◌∷◌, map, Bool, true, false, if◌then◌else◌, Option, Some, None, refl, sym, ◌∙◌, ap, subst, arith}
use Rattle.std.specs.Option.{option_map, option_map_or, option_and_then}
use Rattle.term_core.specs.declared.term.Oper.{Oper}
use Rattle.term_core.specs.declared.term.Oper.TheVariants as oper
use Rattle.term_core.specs.declared.term.Term.{Term}
use Rattle.term_core.specs.Options.{all_some}
use Rattle.term_core.specs.Terms.{Quantifier, Each, by_cases}
use Rattle.term_core.specs.Values.{Value, a_number, a_truth, a_made, values, as_truth, as_number, how_many, Env, set}
use Rattle.term_core.specs.Operations.{outcome}
use Rattle.term_core.specs.Evaluation.{Meaning, tables_of, is_generator, fitting, called, result_of, in_env, chosen, if_of, applied, along, holds, over, value_by, calls, value}
use Rattle.term_laws.specs.Settled.{CallsSettle}
use Rattle.term_laws.proofs.ValueLaws.{value_op, value_int, value_truth, value_var, value_quantifier, value_grows, calls_grow}

-- a thing that depends on the bound has a value at some bound
abbrev pub Settles : (ℕ → Option Value) → Type 0
Settles f = (n : ℕ) × ((v : Value) × (f n ≡ Some v))

-- it stays as it is once it is known
abbrev pub Stays : {A : Type 0} → (ℕ → Option A) → Type 0
Stays {A = A} f = (k n : ℕ) (v : A) → f n ≡ Some v → f (k + n) ≡ Some v

calls_stay : (me : Meaning) (g : ℕ) (vs : List Value) → Stays (λ n. calls n me g vs)
calls_stay me g vs zero n v e = let h : n ≡ 0 + n = omega arith in subst (λ j. calls j me g vs ≡ Some v) h e
calls_stay me g vs (suc k) n v e = let h : suc (k + n) ≡ suc k + n = omega arith in
    subst (λ j. calls j me g vs ≡ Some v) h (calls_grow (k + n) me g vs v (calls_stay me g vs k n v e))

-- a list of things settles
abbrev SettleAll : (ℕ → List (Option Value)) → Type 0
SettleAll f = (n : ℕ) × ((vs : List Value) × (all_some (f n) ≡ Some vs))

at_both : {A B : Type 0} (f : ℕ → Option A) (g : ℕ → Option B) → Stays f → Stays g → (a : ℕ) (v : A) → f a ≡ Some v → (b : ℕ) (w : B) → g b ≡ Some w → (n : ℕ) × ((f n ≡ Some v) × (g n ≡ Some w))
at_both f g sf sg a v e b w h = let k : b + a ≡ a + b = omega arith in (a + b, (subst (λ j. f j ≡ Some v) k (sf b a v e), sg a b w h))

cons_some : (o : Option Value) (os : List (Option Value)) (v : Value) (vs : List Value) → o ≡ Some v → all_some os ≡ Some vs → all_some (o ∷ os) ≡ Some (v ∷ vs)
cons_some o os v vs e h = (λ i. option_and_then (λ v. option_map (λ vs. v ∷ vs) (h i)) (e i))

-- the two parts of a list that is there
cons_parts : (o : Option Value) (r : Option (List Value)) (vs : List Value) → option_and_then (λ v. option_map (λ vs. v ∷ vs) r) o ≡ Some vs
    → (v : Value) × ((ws : List Value) × ((o ≡ Some v) × ((r ≡ Some ws) × (v ∷ ws ≡ vs))))
cons_parts (Some v) (Some ws) vs e = (v, (ws, (refl, (refl, (let d : Some (v ∷ ws) ≡ Some vs = e in cc)))))
cons_parts None r vs e = absurd cc
cons_parts (Some v) None vs e = absurd cc

-- where a member and the others stay, all do
cons_stay : (f : ℕ → Option Value) (g : ℕ → List (Option Value)) → Stays f → Stays (λ n. all_some (g n)) → Stays (λ n. all_some (f n ∷ g n))
cons_stay f g sf sg k n vs e =
    let p = cons_parts (f n) (all_some (g n)) vs e in
    cons_some (f (k + n)) (g (k + n)) p.0 p.1.0 (sf k n p.0 p.1.1.0) (sg k n p.1.0 p.1.1.1.0) ∙ ap Some p.1.1.1.1

-- and where they settle, all do
cons_settle : (f : ℕ → Option Value) (g : ℕ → List (Option Value)) → Stays f → Stays (λ n. all_some (g n)) → Settles f → SettleAll g → SettleAll (λ n. f n ∷ g n)
cons_settle f g sf sg a b =
    let c = at_both f (λ n. all_some (g n)) sf sg a.0 a.1.0 a.1.1 b.0 b.1.0 b.1.1 in
    (c.0, (a.1.0 ∷ b.1.0, cons_some (f c.0) (g c.0) a.1.0 b.1.0 c.1.0 c.1.1))

abbrev SettlesIn : Meaning → Term → Type 0
SettlesIn me t = (env : Env) → Settles (λ n. value n me t env)

value_stays : (me : Meaning) (t : Term) (env : Env) → Stays (λ n. value n me t env)
value_stays me t env k n v e = value_grows k n me t env v e

abbrev args_at : Meaning → List Term → Env → ℕ → List (Option Value)
args_at me ts env n = in_env env (map (value_by (tables_of me) (calls n me)) ts)

args_stay : (me : Meaning) (ts : List Term) (env : Env) → Stays (λ n. all_some (args_at me ts env n))
args_stay me [] env = λ k n v e. e
args_stay me (t ∷ ts) env = cons_stay (λ n. value n me t env) (args_at me ts env) (value_stays me t env) (args_stay me ts env)

args_settle : (me : Meaning) (ts : List Term) (env : Env) → Each (SettlesIn me) ts → SettleAll (args_at me ts env)
args_settle me [] env h = (0, ([], refl))
args_settle me (t ∷ ts) env h = cons_settle (λ n. value n me t env) (args_at me ts env) (value_stays me t env) (args_stay me ts env) (h.0 env) (args_settle me ts env h.1)

-- ---- a quantifier: one bound for all of the range

abbrev body_at : Meaning → Term → List ℕ → Env → ℤ → ℕ → ℕ → List (Option Value)
body_at me b x env l c n = along (λ i. value n me b (set env x (a_number i))) l c

along_stay : (me : Meaning) (b : Term) (x : List ℕ) (env : Env) (l : ℤ) (c : ℕ) → Stays (λ n. all_some (body_at me b x env l c n))
along_stay me b x env l zero = λ k n v e. e
along_stay me b x env l (suc c) = cons_stay (λ n. value n me b (set env x (a_number l))) (body_at me b x env (l +ℤ pos 1) c) (value_stays me b (set env x (a_number l))) (along_stay me b x env (l +ℤ pos 1) c)

along_settle : (me : Meaning) (b : Term) (x : List ℕ) (env : Env) → SettlesIn me b → (l : ℤ) (c : ℕ) → SettleAll (body_at me b x env l c)
along_settle me b x env h l zero = (0, ([], refl))
along_settle me b x env h l (suc c) = cons_settle (λ n. value n me b (set env x (a_number l))) (body_at me b x env (l +ℤ pos 1) c) (value_stays me b (set env x (a_number l))) (along_stay me b x env (l +ℤ pos 1) c)
    (h (set env x (a_number l))) (along_settle me b x env h (l +ℤ pos 1) c)

over_settle : (q : Quantifier) (me : Meaning) (x : List ℕ) (l h b : Term) (env : Env) → SettlesIn me l → SettlesIn me h → SettlesIn me b
    → Settles (λ n. over q (value n me l env) (value n me h env) (λ v. value n me b (set env x v)))
over_settle q me x l h b env sl sh sb =
    let a = sl env in
    let c = sh env in
    let r = along_settle me b x env sb (as_number a.1.0) (how_many (as_number a.1.0) (as_number c.1.0)) in
    let p = at_both (λ n. value n me l env) (λ n. value n me h env) (value_stays me l env) (value_stays me h env) a.0 a.1.0 a.1.1 c.0 c.1.0 c.1.1 in
    let k : r.0 + p.0 ≡ p.0 + r.0 = omega arith in
    let el = subst (λ j. value j me l env ≡ Some a.1.0) k (value_grows r.0 p.0 me l env a.1.0 p.1.0) in
    let eh = subst (λ j. value j me h env ≡ Some c.1.0) k (value_grows r.0 p.0 me h env c.1.0 p.1.1) in
    let eb = along_stay me b x env (as_number a.1.0) (how_many (as_number a.1.0) (as_number c.1.0)) p.0 r.0 r.1.0 r.1.1 in
    (p.0 + r.0, (a_truth (holds q r.1.0), (λ i. over q (el i) (eh i) (λ v. value (p.0 + r.0) me b (set env x v))) ∙ ap (option_map (λ vs. a_truth (holds q vs))) eb))

-- ---- operators

after_args : (me : Meaning) (o : Oper) (os : ℕ → List (Option Value)) → SettleAll os → Stays (λ n. all_some (os n)) → ((vs : List Value) → Settles (λ n. result_of (tables_of me) (calls n me) o vs)) → ((vs : List Value) → Stays (λ n. result_of (tables_of me) (calls n me) o vs))
    → Settles (λ n. option_and_then (result_of (tables_of me) (calls n me) o) (all_some (os n)))
after_args me o os a st c cst =
    let r = c a.1.0 in
    let p = at_both (λ n. all_some (os n)) (λ n. result_of (tables_of me) (calls n me) o a.1.0) st (cst a.1.0) a.0 a.1.0 a.1.1 r.0 r.1.0 r.1.1 in
    (p.0, (r.1.0, ap (option_and_then (result_of (tables_of me) (calls p.0 me) o)) p.1.0 ∙ p.1.1))

result_settles : (me : Meaning) → CallsSettle me → (o : Oper) (vs : List Value) → Settles (λ n. result_of (tables_of me) (calls n me) o vs)
result_settles me c (oper.User g) vs = c g vs
result_settles me c o vs = (0, (outcome (tables_of me) o vs, refl))

result_stays : (me : Meaning) (o : Oper) (vs : List Value) → Stays (λ n. result_of (tables_of me) (calls n me) o vs)
result_stays me (oper.User g) vs = calls_stay me g vs
result_stays me o vs = λ k n v e. e

if_settles : (me : Meaning) (ts : List Term) (env : Env) → Each (SettlesIn me) ts → Settles (λ n. if_of (args_at me ts env n))
if_settles me [] env h = (0, (a_number (pos 0), refl))
if_settles me (t ∷ []) env h = (0, (a_number (pos 0), refl))
if_settles me (t ∷ u ∷ []) env h = (0, (a_number (pos 0), refl))
if_settles me (t ∷ u ∷ w ∷ x ∷ ts) env h = (0, (a_number (pos 0), refl))
if_settles me (t ∷ u ∷ w ∷ []) env h = by_test (as_truth (h.0 env).1.0) refl
  where
    by_test : (b : Bool) → as_truth (h.0 env).1.0 ≡ b → Settles (λ n. chosen (value n me t env) (value n me u env) (value n me w env))
    by_test true e = let r = h.1.0 env in
        let p = at_both (λ n. value n me t env) (λ n. value n me u env) (value_stays me t env) (value_stays me u env) (h.0 env).0 (h.0 env).1.0 (h.0 env).1.1 r.0 r.1.0 r.1.1 in
        (p.0, (r.1.0, ap (λ c. chosen c (value p.0 me u env) (value p.0 me w env)) p.1.0 ∙ (ap (λ b. if b then value p.0 me u env else value p.0 me w env) e ∙ p.1.1)))
    by_test false e = let r = h.1.1.0 env in
        let p = at_both (λ n. value n me t env) (λ n. value n me w env) (value_stays me t env) (value_stays me w env) (h.0 env).0 (h.0 env).1.0 (h.0 env).1.1 r.0 r.1.0 r.1.1 in
        (p.0, (r.1.0, ap (λ c. chosen c (value p.0 me u env) (value p.0 me w env)) p.1.0 ∙ (ap (λ b. if b then value p.0 me u env else value p.0 me w env) e ∙ p.1.1)))

applied_settles : (me : Meaning) → CallsSettle me → (o : Oper) (ts : List Term) (env : Env) → Each (SettlesIn me) ts → Settles (λ n. applied (tables_of me) (calls n me) o (args_at me ts env n))
applied_settles me c oper.If ts env h = if_settles me ts env h
applied_settles me c o ts env h = after_args me o (args_at me ts env) (args_settle me ts env h) (args_stay me ts env) (result_settles me c o) (result_stays me o)

along_eqs : (f g : ℕ → Option Value) → ((n : ℕ) → f n ≡ g n) → Settles g → Settles f
along_eqs f g e s = (s.0, (s.1.0, e s.0 ∙ s.1.1))

-- where every call settles, every term does
pub settles : (me : Meaning) → CallsSettle me → (t : Term) → SettlesIn me t
settles me c = by_cases (SettlesIn me) record {
  at_int = λ z env. (0, (a_number z, value_int (tables_of me) (calls 0 me) z env));
  at_truth = λ b env. (0, (a_truth b, value_truth (tables_of me) (calls 0 me) b env));
  at_var = λ x env. (0, (env x, value_var (tables_of me) (calls 0 me) x env));
  at_op = λ o ts h env. along_eqs _ _ (λ n. value_op (tables_of me) (calls n me) o ts env) (applied_settles me c o ts env h);
  at_quantifier = λ q x l h b sl sh sb env. along_eqs _ _ (λ n. value_quantifier (tables_of me) (calls n me) q x l h b env) (over_settle q me x l h b env sl sh sb);
}

-- ---- without equations

-- what a call gives then, at every bound
abbrev plain_call : Meaning → ℕ → List Value → Value
plain_call me f vs = if is_generator me f then a_made f (values vs) else a_number (pos 0)

unfitted : (me : Meaning) (r : Term → Env → Option Value) (f : ℕ) (vs : List Value) → me.equations ≡ [] → called me r f vs ≡ Some (plain_call me f vs)
unfitted me r f vs e = ap (λ es. if is_generator me f then Some (a_made f (values vs)) else option_map_or (λ p. r p.0 p.1) (fitting es f vs) (Some (a_number (pos 0)))) e ∙ by_test (is_generator me f)
  where
    by_test : (b : Bool) → (if b then Some (a_made f (values vs)) else Some (a_number (pos 0))) ≡ Some (if b then a_made f (values vs) else a_number (pos 0))
    by_test true = refl
    by_test false = refl

calls_without : (me : Meaning) → me.equations ≡ [] → (n : ℕ) (f : ℕ) (vs : List Value) → calls n me f vs ≡ Some (plain_call me f vs)
calls_without me e zero f vs = unfitted me _ f vs e
calls_without me e (suc n) f vs = unfitted me _ f vs e

pub calls_settle_without : (me : Meaning) → me.equations ≡ [] → CallsSettle me
calls_settle_without me e f vs = (0, (plain_call me f vs, calls_without me e 0 f vs))

same_calls : (me : Meaning) → me.equations ≡ [] → (n : ℕ) → calls n me ≡ calls 0 me
same_calls me e n = λ i f vs. (calls_without me e n f vs ∙ sym (calls_without me e 0 f vs)) i

-- one value, at every bound
pub value_without : (me : Meaning) → me.equations ≡ [] → (t : Term) (env : Env) → (v : Value) × ((n : ℕ) → value n me t env ≡ Some v)
value_without me e t env =
    let s = settles me (calls_settle_without me e) t env in
    (s.1.0, λ n. ap (λ c. value_by (tables_of me) c t env) (same_calls me e n ∙ sym (same_calls me e s.0)) ∙ s.1.1)
