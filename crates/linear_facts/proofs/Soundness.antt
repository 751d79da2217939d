-- A sequent that coefficients close is valid.
use Rattle.std.proofs.Common.{◌≡◌, ℕ, zero, suc, ◌+◌, ◌-◌, ◌≤◌, ℤ, pos, ◌+ℤ◌, ◌*ℤ◌, ◌≤ℤ◌, ◌<ℤ◌, List, [], ◌∷◌, Bool, true, false, not, if◌then◌else◌, Option, Some, None, refl, sym, ◌∙◌, ap, subst, arith}
use Rattle.std.specs.Prelude.{slice_get}
use Rattle.std.proofs.lemmas.Bool.{and_parts}
use Rattle.std.proofs.lemmas.Option.{same_Some}
use Rattle.std.proofs.lemmas.Int.{ints}
use Rattle.term_core.specs.declared.term.Term.{Term}
use Rattle.term_core.specs.declared.sequent.Sequent.{Sequent}
use Rattle.term_core.specs.Operations.{Tables, is_zero}
use Rattle.term_core.specs.Evaluation.{Meaning, Calls, tables_of, calls, value}
use Rattle.term_core.specs.Validity.{Holds, AllHold, Valid}
use Rattle.term_core.specs.Values.{Value, a_truth, Env}
use Rattle.term_laws.specs.Settled.{Settled}
use Rattle.term_laws.proofs.Meanings.{parts_of}
use Rattle.term_laws.proofs.ValueLaws.{value_grows}
use Rattle.linear_facts.specs.Closing.{may_weigh, each_may_weigh, weighed, weights_from, weights, total, Closes}
use Rattle.linear_facts.specs.Facts.{Fact, form_of, denied, bound, fact_of, against, hypothesis_at, fact_at}
use Rattle.linear_facts.specs.Forms.{constant}
use Rattle.linear_facts.proofs.BoundLaws.{every_append}
use Rattle.linear_facts.proofs.ShapeLaws.{Every}
use Rattle.linear_facts.proofs.Integers.{times-sum}
use Rattle.linear_facts.proofs.Summands.{scaled, summands_in, summands_of, valued, valued-append, valued-scaled, number_total, all_vanish}
use Rattle.linear_facts.proofs.Truths as truths

-- ---- at one bound

later : (n k : ℕ) (me : Meaning) (t : Term) (env : Env) (v : Value) → n ≤ k → value n me t env ≡ Some v → value k me t env ≡ Some v
later n k me t env v h e = let f : k - n + n ≡ k = omega arith in subst (λ j. value j me t env ≡ Some v) f (value_grows (k - n) n me t env v e)

-- where each hypothesis holds, all do at one bound
at_one_bound : (me : Meaning) (ts : List Term) (env : Env) → AllHold me ts env → (n : ℕ) × ((k : ℕ) → n ≤ k → Every (λ t. value k me t env ≡ Some (a_truth true)) ts)
at_one_bound me [] env h = (0, λ k l. tt)
at_one_bound me (t ∷ ts) env h =
    let r = at_one_bound me ts env h.1 in
    (h.0.0 + r.0, λ k l. (later h.0.0 k me t env (a_truth true) (omega arith) h.0.1, r.1 k (omega arith)))

every_at : (P : Term → Type 0) (ts : List Term) (i : ℕ) (t : Term) → Every P ts → slice_get ts i ≡ Some t → P t
every_at P [] i t h e = absurd cc
every_at P (u ∷ us) zero t h e = subst P (let f : Some u ≡ Some t = e in cc) h.0
every_at P (u ∷ us) (suc i) t h e = every_at P us i t h.1 e

contradiction : (s v k : ℤ) → s ≡ v +ℤ k → v ≡ pos 0 → s ≤ℤ pos 0 → pos 0 <ℤ k → ⊥
contradiction s v k e z h p = omega (arith, ints)

sum_below : (a b : ℤ) → a ≤ℤ pos 0 → b ≤ℤ pos 0 → (a +ℤ b) ≤ℤ pos 0
sum_below a b h k = omega (arith, ints)

module _ (m : Tables) (c : Calls) (env : Env) where
  -- a fact that is true of values that are there
  abbrev IsTrueFact : Fact → Type 0
  IsTrueFact fact = (truths.says m c env fact ≡ true) × truths.Sides m c env fact

  -- with a coefficient that may weigh it
  abbrev Adds : ℤ × Fact → Type 0
  Adds w = ((w.0 *ℤ truths.distance m c env w.1) ≤ℤ pos 0) × truths.Sides m c env w.1

  adds_first : (n : ℤ) (o : Option Fact) → may_weigh n o ≡ true → ((fact : Fact) → o ≡ Some fact → IsTrueFact fact) → Every Adds (weighed n o)
  adds_first n None e h = tt
  adds_first n (Some fact) e h = by_test (is_zero n)
    where
      by_test : (b : Bool) → Every Adds (if b then [] else (n, fact) ∷ [])
      by_test true = tt
      by_test false = let f = h fact refl in ((truths.adds_nothing m c env n fact f.0 e, f.1), tt)

  adds_each : (sequent : Sequent) (i : ℕ) (cs : List ℤ) → each_may_weigh sequent i cs ≡ true → ((j : ℕ) (fact : Fact) → fact_at sequent j ≡ Some fact → IsTrueFact fact)
      → Every Adds (weights_from sequent i cs)
  adds_each sequent i [] e h = tt
  adds_each sequent i (n ∷ cs) e h =
      let r = and_parts (may_weigh n (fact_at sequent i)) (each_may_weigh sequent (suc i) cs) e in
      every_append Adds (weighed n (fact_at sequent i)) (weights_from sequent (suc i) cs) (adds_first n (fact_at sequent i) r.0 (h i)) (adds_each sequent (suc i) cs r.1 h)

  -- the weighted sum of the facts' numbers
  sum_of : List (ℤ × Fact) → ℤ
  sum_of [] = pos 0
  sum_of (w ∷ ws) = w.0 *ℤ truths.distance m c env w.1 +ℤ sum_of ws

  sum_is : (ws : List (ℤ × Fact)) → Every Adds ws → sum_of ws ≡ valued (truths.number_at m c env) (summands_of ws) +ℤ total ws constant
  unfolding sum_of
  sum_is [] h = refl
  sum_is (w ∷ ws) h =
      let f = truths.number_at m c env in
      (λ i. (ap (λ d. w.0 *ℤ d) (truths.distance_is m c env w.1 h.0.1)
      ∙ (times-sum w.0 (valued f (summands_in w.1)) (form_of w.1 constant) ∙ ap (λ z. z +ℤ w.0 *ℤ form_of w.1 constant) (sym (valued-scaled w.0 f (summands_in w.1))))) i +ℤ sum_is ws h.1 i)
      ∙ (truths.rearranged (valued f (scaled w.0 (summands_in w.1))) (w.0 *ℤ form_of w.1 constant) (valued f (summands_of ws)) (total ws constant)
      ∙ ap (λ z. z +ℤ (w.0 *ℤ form_of w.1 constant +ℤ total ws constant)) (sym (valued-append f (scaled w.0 (summands_in w.1)) (summands_of ws))))

  sum_nothing : (ws : List (ℤ × Fact)) → Every Adds ws → sum_of ws ≤ℤ pos 0
  unfolding sum_of
  sum_nothing [] h = truths.none_above
  sum_nothing (w ∷ ws) h = sum_below (w.0 *ℤ truths.distance m c env w.1) (sum_of ws) h.0.0 (sum_nothing ws h.1)

  -- not all facts can be true
  impossible : (sequent : Sequent) (cs : List ℤ) → Closes sequent cs → ((j : ℕ) (fact : Fact) → fact_at sequent j ≡ Some fact → IsTrueFact fact) → ⊥
  impossible sequent cs closes h =
      let ws = weights sequent cs in
      let f = truths.number_at m c env in
      let adds = adds_each sequent 0 cs closes.allowed h in
      contradiction (sum_of ws) (valued f (summands_of ws)) (total ws constant) (sum_is ws adds)
      (all_vanish f (summands_of ws) (λ u. number_total u ws ∙ closes.no_atom u)) (sum_nothing ws adds) closes.positive

  -- so the goal is true where the hypotheses are
  goal_true : (sequent : Sequent) (cs : List ℤ) → Closes sequent cs → Every (λ t. truths.has m c env t (a_truth true)) sequent.hyps → (v : Value) → truths.has m c env sequent.goal v → v ≡ a_truth true
  goal_true sequent cs closes hyps v e = by_fact (against sequent.goal) refl
    where
      in_hypothesis : (i : ℕ) (fact : Fact) → hypothesis_at sequent i ≡ Some fact → IsTrueFact fact
      in_hypothesis i fact f =
          let p = parts_of (slice_get sequent.hyps i) (fact_of sequent.vars) fact f in
          truths.fact_tells m c env sequent.vars p.0 fact p.1.1 (every_at (λ t. truths.has m c env t (a_truth true)) sequent.hyps i p.0 hyps p.1.0)

      with_first : ((fact : Fact) → against sequent.goal ≡ Some fact → IsTrueFact fact) → (j : ℕ) (fact : Fact) → fact_at sequent j ≡ Some fact → IsTrueFact fact
      with_first h zero fact f = h fact f
      with_first h (suc i) fact f = in_hypothesis i fact f

      by_truth : (b : Bool) (g fact : Fact) → truths.says m c env g ≡ b → v ≡ a_truth (truths.says m c env g) → (not (truths.says m c env g) ≡ truths.says m c env fact) × truths.Sides m c env fact
          → against sequent.goal ≡ Some fact → v ≡ a_truth true
      by_truth true g fact t is d f = is ∙ ap a_truth t
      by_truth false g fact t is d f = absurd (impossible sequent cs closes (with_first (λ other k.
          subst IsTrueFact (same_Some fact other (sym f ∙ k)) (sym d.0 ∙ ap not t, d.1))))

      by_fact : (o : Option Fact) → against sequent.goal ≡ o → v ≡ a_truth true
      by_fact None f = absurd (impossible sequent cs closes (with_first (λ fact k. absurd (let n : None ≡ Some fact = sym f ∙ k in cc))))
      by_fact (Some fact) f =
          let p = parts_of (bound sequent.goal) denied fact f in
          let g = truths.bound_tells m c env sequent.goal p.0 p.1.0 v e in
          by_truth (truths.says m c env p.0) p.0 fact refl g.0 (truths.denied_says m c env p.0 fact p.1.1 g.1) f

pub closing_holds : (me : Meaning) (sequent : Sequent) (cs : List ℤ) (env : Env) (n : ℕ) (v : Value)
    → Closes sequent cs → AllHold me sequent.hyps env → value n me sequent.goal env ≡ Some v → Holds me sequent.goal env
closing_holds me sequent cs env n v closes hyps e =
    let r = at_one_bound me sequent.hyps env hyps in
    let k = r.0 + n in
    let f = later n k me sequent.goal env v (omega arith) e in
    (k, f ∙ ap Some (goal_true (tables_of me) (calls k me) env sequent cs closes (r.1 k (omega arith)) v f))

pub closing_valid : (me : Meaning) → Settled me → (sequent : Sequent) (cs : List ℤ) → Closes sequent cs → Valid me sequent
closing_valid me settled sequent cs closes env typed hyps =
    let s = settled.settle sequent.goal env in closing_holds me sequent cs env s.0 s.1.0 closes hyps s.1.1
