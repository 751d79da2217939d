-- The value of each kind of term, and that more calls give no other values.
use Rattle.std.proofs.Common.{◌≡◌, ℕ, zero, suc, ◌+◌, ℤ, pos, ◌+ℤ◌, List, [], ◌∷◌, map, Bool, true, false, if◌then◌else◌, Option, Some, None, refl, sym, ◌∙◌, ap, subst, arith}
use Rattle.std.specs.Option.{option_map, option_map_or, option_and_then}
use Rattle.term_core.specs.declared.term.Oper.{Oper}
use Rattle.term_core.specs.declared.term.Oper.TheVariants as oper
use Rattle.term_core.specs.declared.term.Term.{Term}
use Rattle.term_core.specs.declared.term.Term.TheOpen.{Term-F}
use Rattle.term_core.specs.declared.term.Term.TheFolds.{fold-roll-Term}
use Rattle.term_core.specs.Options.{all_some}
use Rattle.term_core.specs.Terms.{int, truth, var, op, Quantifier, for_all, exists, quantify, Each, by_cases}
use Rattle.term_core.specs.Values.{Value, a_number, a_truth, a_made, values, as_truth, as_number, how_many, Env, set}
use Rattle.term_core.specs.Operations.{Tables}
use Rattle.term_core.specs.Evaluation.{Calls, result_of, Meant, in_env, chosen, if_of, applied, along, over, value_step, value_by, Meaning, tables_of, is_generator, fitting, called, calls, value}

-- ---- the value of each kind of term

pub value_op : (m : Tables) (c : Calls) (o : Oper) (ts : List Term) (env : Env) → value_by m c (op o ts) env ≡ applied m c o (in_env env (map (value_by m c) ts))
unfolding value_by
value_op m c o ts env = ap (λ f. f env) (fold-roll-Term Meant (value_step m c) (Term-F.Op o ts))

pub value_int : (m : Tables) (c : Calls) (n : ℤ) (env : Env) → value_by m c (int n) env ≡ Some (a_number n)
unfolding value_by
value_int m c n env = ap (λ f. f env) (fold-roll-Term Meant (value_step m c) (Term-F.Int n))

pub value_truth : (m : Tables) (c : Calls) (b : Bool) (env : Env) → value_by m c (truth b) env ≡ Some (a_truth b)
unfolding value_by
value_truth m c b env = ap (λ f. f env) (fold-roll-Term Meant (value_step m c) (Term-F.Truth b))

pub value_var : (m : Tables) (c : Calls) (x : List ℕ) (env : Env) → value_by m c (var x) env ≡ Some (env x)
unfolding value_by
value_var m c x env = ap (λ f. f env) (fold-roll-Term Meant (value_step m c) (Term-F.Var x))

pub value_quantifier : (m : Tables) (c : Calls) (q : Quantifier) (x : List ℕ) (l h b : Term) (env : Env)
    → value_by m c (quantify q x l h b) env ≡ over q (value_by m c l env) (value_by m c h env) (λ v. value_by m c b (set env x v))
unfolding value_by
value_quantifier m c for_all x l h b env = ap (λ f. f env) (fold-roll-Term Meant (value_step m c) (Term-F.All x l h b))
value_quantifier m c exists x l h b env = ap (λ f. f env) (fold-roll-Term Meant (value_step m c) (Term-F.Some x l h b))

-- ---- more is known

-- where the first is known, the second is the same
abbrev pub Below : {A : Type 0} → Option A → Option A → Type 0
Below {A = A} o p = (v : A) → o ≡ Some v → p ≡ Some v

abbrev pub BelowEach : {A : Type 0} → List (Option A) → List (Option A) → Type 0
BelowEach [] [] = Unit {0}
BelowEach (o ∷ os) (p ∷ ps) = Below o p × BelowEach os ps
BelowEach _ _ = ⊥

below_then : {A B : Type 0} (o p : Option A) (f g : A → Option B) → Below o p → ((v : A) → Below (f v) (g v)) → Below (option_and_then f o) (option_and_then g p)
below_then None p f g h k v e = absurd cc
below_then (Some x) p f g h k v e = ap (option_and_then g) (h x refl) ∙ k x v e

below_map : {A B : Type 0} (o p : Option A) (f : A → B) → Below o p → Below (option_map f o) (option_map f p)
below_map None p f h v e = absurd cc
below_map (Some x) p f h v e = ap (option_map f) (h x refl) ∙ e

below_all_some : {A : Type 0} (os ps : List (Option A)) → BelowEach os ps → Below (all_some os) (all_some ps)
below_all_some [] [] h = λ v e. e
below_all_some (o ∷ os) (p ∷ ps) h = below_then o p _ _ h.0 (λ v. below_map (all_some os) (all_some ps) (λ vs. v ∷ vs) (below_all_some os ps h.1))
below_all_some [] (p ∷ ps) h = absurd h
below_all_some (o ∷ os) [] h = absurd h

-- every call that is known in the first is the same in the second
abbrev pub MoreCalls : Calls → Calls → Type 0
MoreCalls c d = (f : ℕ) (vs : List Value) → Below (c f vs) (d f vs)

below_result : (m : Tables) (c d : Calls) → MoreCalls c d → (o : Oper) (vs : List Value) → Below (result_of m c o vs) (result_of m d o vs)
below_result m c d more (oper.User f) vs = more f vs
below_result m c d more _ vs = λ v e. e

below_chosen : (c c' a a' b b' : Option Value) → Below c c' → Below a a' → Below b b' → Below (chosen c a b) (chosen c' a' b')
below_chosen c c' a a' b b' hc ha hb = below_then c c' _ _ hc (λ v. by_test (as_truth v))
  where
    by_test : (t : Bool) → Below (if t then a else b) (if t then a' else b')
    by_test true = ha
    by_test false = hb

below_if : (os ps : List (Option Value)) → BelowEach os ps → Below (if_of os) (if_of ps)
below_if [] [] h = λ v e. e
below_if (o ∷ []) (p ∷ []) h = λ v e. e
below_if (o ∷ o' ∷ []) (p ∷ p' ∷ []) h = λ v e. e
below_if (o ∷ o' ∷ o'' ∷ []) (p ∷ p' ∷ p'' ∷ []) h = below_chosen o p o' p' o'' p'' h.0 h.1.0 h.1.1.0
below_if (o ∷ o' ∷ o'' ∷ x ∷ os) (p ∷ p' ∷ p'' ∷ y ∷ ps) h = λ v e. e
below_if [] (p ∷ ps) h = absurd h
below_if (o ∷ []) [] h = absurd h
below_if (o ∷ []) (p ∷ p' ∷ ps) h = absurd h.1
below_if (o ∷ o' ∷ os) [] h = absurd h
below_if (o ∷ o' ∷ os) (p ∷ []) h = absurd h.1
below_if (o ∷ o' ∷ []) (p ∷ p' ∷ q ∷ ps) h = absurd h.1.1
below_if (o ∷ o' ∷ o'' ∷ os) (p ∷ p' ∷ []) h = absurd h.1.1
below_if (o ∷ o' ∷ o'' ∷ []) (p ∷ p' ∷ p'' ∷ q ∷ ps) h = absurd h.1.1.1
below_if (o ∷ o' ∷ o'' ∷ x ∷ os) (p ∷ p' ∷ p'' ∷ []) h = absurd h.1.1.1

below_applied : (m : Tables) (c d : Calls) → MoreCalls c d → (o : Oper) (os ps : List (Option Value)) → BelowEach os ps → Below (applied m c o os) (applied m d o ps)
below_applied m c d more oper.If os ps h = below_if os ps h
below_applied m c d more o os ps h = below_then (all_some os) (all_some ps) _ _ (below_all_some os ps h) (below_result m c d more o)

below_along : (f g : ℤ → Option Value) → ((i : ℤ) → Below (f i) (g i)) → (l : ℤ) (n : ℕ) → BelowEach (along f l n) (along g l n)
below_along f g h l zero = tt
below_along f g h l (suc n) = (h l, below_along f g h (l +ℤ pos 1) n)

below_over : (q : Quantifier) (a a' b b' : Option Value) (f g : Value → Option Value) → Below a a' → Below b b' → ((v : Value) → Below (f v) (g v)) → Below (over q a b f) (over q a' b' g)
below_over q a a' b b' f g ha hb hf = below_then a a' _ _ ha (λ l. below_then b b' _ _ hb (λ h. below_map _ _ _ (below_all_some _ _ (below_along _ _ (λ i. hf (a_number i)) (as_number l) (how_many (as_number l) (as_number h))))))

abbrev Grows : Tables → Calls → Calls → Term → Type 0
Grows m c d t = (env : Env) → Below (value_by m c t env) (value_by m d t env)

grows_each : (m : Tables) (c d : Calls) (ts : List Term) (env : Env) → Each (Grows m c d) ts → BelowEach (in_env env (map (value_by m c) ts)) (in_env env (map (value_by m d) ts))
grows_each m c d [] env h = tt
grows_each m c d (t ∷ ts) env h = (h.0 env, grows_each m c d ts env h.1)

below_along_eqs : {A : Type 0} (o o' p p' : Option A) → o ≡ o' → p ≡ p' → Below o' p' → Below o p
below_along_eqs o o' p p' e f h v k = f ∙ h v (sym e ∙ k)

-- where more calls are known, known values stay
pub grows : (m : Tables) (c d : Calls) → MoreCalls c d → (t : Term) → Grows m c d t
grows m c d more = by_cases (Grows m c d) record {
  at_int = λ n env. below_along_eqs _ _ _ _ (value_int m c n env) (value_int m d n env) (λ v e. e);
  at_truth = λ b env. below_along_eqs _ _ _ _ (value_truth m c b env) (value_truth m d b env) (λ v e. e);
  at_var = λ x env. below_along_eqs _ _ _ _ (value_var m c x env) (value_var m d x env) (λ v e. e);
  at_op = λ o ts h env. below_along_eqs _ _ _ _ (value_op m c o ts env) (value_op m d o ts env) (below_applied m c d more o _ _ (grows_each m c d ts env h));
  at_quantifier = λ q x l h b hl hh hb env. below_along_eqs _ _ _ _ (value_quantifier m c q x l h b env) (value_quantifier m d q x l h b env) (below_over q _ _ _ _ _ _ (hl env) (hh env) (λ v. hb (set env x v)));
}

-- ---- one step more

below_called : (me : Meaning) (r s : Term → Meant) → ((t : Term) (env : Env) → Below (r t env) (s t env)) → MoreCalls (called me r) (called me s)
below_called me r s h f vs = by_test (is_generator me f)
  where
    by_fit : (o : Option (Term × Env)) → Below (option_map_or (λ e. r e.0 e.1) o (Some (a_number (pos 0)))) (option_map_or (λ e. s e.0 e.1) o (Some (a_number (pos 0))))
    by_fit None = λ v e. e
    by_fit (Some p) = h p.0 p.1

    by_test : (b : Bool) → Below (if b then Some (a_made f (values vs)) else option_map_or (λ e. r e.0 e.1) (fitting me.equations f vs) (Some (a_number (pos 0))))
        (if b then Some (a_made f (values vs)) else option_map_or (λ e. s e.0 e.1) (fitting me.equations f vs) (Some (a_number (pos 0))))
    by_test true = λ v e. e
    by_test false = by_fit (fitting me.equations f vs)

pub calls_grow : (n : ℕ) (me : Meaning) → MoreCalls (calls n me) (calls (suc n) me)
calls_grow zero me = below_called me _ _ (λ t env v e. absurd (none v e))
  where
    none : (v : Value) → None ≡ Some v → ⊥
    none v e = cc
calls_grow (suc n) me = below_called me _ _ (λ t env. grows (tables_of me) (calls n me) (calls (suc n) me) (calls_grow n me) t env)

-- the value is the same at every larger n
pub value_grows : (k n : ℕ) (me : Meaning) (t : Term) (env : Env) → Below (value n me t env) (value (k + n) me t env)
value_grows zero n me t env v e = let h : n ≡ 0 + n = omega arith in subst (λ j. value j me t env ≡ Some v) h e
value_grows (suc k) n me t env v e =
    let one = grows (tables_of me) (calls (k + n) me) (calls (suc (k + n)) me) (calls_grow (k + n) me) t env v (value_grows k n me t env v e) in
    let h : suc (k + n) ≡ suc k + n = omega arith in subst (λ j. value j me t env ≡ Some v) h one

-- there is no other
pub one_value : (n k : ℕ) (me : Meaning) (t : Term) (env : Env) (v w : Value) → value n me t env ≡ Some v → value k me t env ≡ Some w → v ≡ w
one_value n k me t env v w e f =
    let a = value_grows k n me t env v e in
    let b = value_grows n k me t env w f in
    let c : n + k ≡ k + n = omega arith in
    let d : Some v ≡ Some w = sym a ∙ subst (λ j. value j me t env ≡ Some w) c b in cc
