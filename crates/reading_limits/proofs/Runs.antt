-- Reading within the limits, along the tokens: what has been read, what stands where reading ends, and why.
use Rattle.std.proofs.Common.{◌≡◌, ℕ, suc, ◌+◌, ◌≤◌, List, [], ◌∷◌, ◌++◌, refl, sym, ◌∙◌, ap, subst, Option, Some, None, Bool, true, false, ◌&&◌, length, arith, le-leb, leb-true, Result, Ok, Err, inl, inr}
use Rattle.std.specs.Prelude.{◌⊎◌, max, nat_le, if◌then◌else◌}
use Rattle.std.proofs.lemmas.Bool.{and_parts, and_from}
use Rattle.ada_tree.specs.declared.limits.TheConstants.{MOST_NESTED, MOST_NESTED_STEPS, MOST_OPEN}
use Rattle.ada_tree.specs.Reading.{open_after}
use Rattle.reading_table.specs.declared.held.Held.{Held}
use Rattle.reading_table.specs.Heights.{masses, highest, least}
use Rattle.reading_table.specs.Limits.{Standing, surely, fits, widest, Outcome, read, stopped, limited, later, ended, going_on, deep, admitted, fed_to, with_next, run_within}
use Rattle.reading_table.specs.Machine.{hush, apply, feed, shifted, run}
use Rattle.reading_table.specs.Machine.{going_on as run_on}
use Rattle.reading_table.specs.Reading.{reading_table, deepest}
use Rattle.reading_table.specs.Rows.{Placed}
use Rattle.reading_table.specs.States.{Token, State}
use Rattle.reading_table.specs.Tables.{arrived, Derives}
use Rattle.reading_table.proofs.Conditions.{table_is_predictive}
use Rattle.reading_table.proofs.Faults.{can_be, fed_can_be}
use Rattle.reading_table.proofs.Samples.{deepest_sample}
use Rattle.reading_table.proofs.Sound.{feed_derives}
use Rattle.reading_limits.proofs.Bounds.{lower_bound}
use Rattle.reading_limits.proofs.Finishing.{fitting_example, fitting_serve, each_is_sampled, each_row_can_be, count_along}
use Rattle.reading_limits.proofs.Opens.{open_along, open_bound, widest_from}
use Rattle.reading_limits.proofs.Order.{Below, highest_below}
use Rattle.reading_limits.proofs.Standing.{Fine, On, feed_fine}
use Rattle.reading_limits.proofs.Tags.{Tag}

-- ---- what comes between tokens

abbrev pub with_comments : List (List ℕ) → State → State
with_comments comments state = record state { waiting = state.waiting ++ comments }

-- these comments come next: before the next token, or at the end
abbrev pub Comes : List (List ℕ) → List (List ℕ) → List Token → Type 0
Comes comments last [] = comments ≡ last
Comes comments last (t ∷ ts) = t.comments ≡ comments

pub front_arrives : (pre post : List Token) (comments last : List (List ℕ)) (state : State) → Comes comments last post
    → arrived reading_table (with_comments last) (pre ++ post) state ≡ arrived reading_table (with_comments comments) pre state
front_arrives [] [] comments last state h = ap (λ c. with_comments c state) (sym h)
front_arrives [] (t ∷ ts) comments last state h = ap (λ c. with_comments c state) h
front_arrives (u ∷ pre) post comments last state h = refl

pub arrived_is : (comments : List (List ℕ)) (ts : List Token) (state : State) → (arrived reading_table (with_comments comments) ts state).values ≡ state.values
arrived_is comments [] state = refl
arrived_is comments (t ∷ ts) state = refl

-- ---- tokens that are read one by one

-- From one stack and state the tokens lead to another, where these comments come next.
pub data Passed : List Placed → State → List Token → List (List ℕ) → List Placed → State → Type 0 where
  stays : {ss : List Placed} {state : State} {comments : List (List ℕ)} → Passed ss state [] comments ss state
  goes : {ss other : List Placed} {state last : State} {t : Token} {ts : List Token} {comments : List (List ℕ)} (next : List Placed × State) → feed reading_table deepest ss state t ≡ Some next
      → Passed next.0 (arrived reading_table (with_comments comments) ts next.1) ts comments other last → Passed ss state (t ∷ ts) comments other last

pub passed_none : {ss other : List Placed} {state between : State} {pre : List Token} {comments : List (List ℕ)} → Passed ss state pre comments other between → pre ≡ [] → (ss ≡ other) × (state ≡ between)
passed_none stays h = (refl, refl)
passed_none (goes next e p) h = absurd cc

pub passed_derives : {ss other : List Placed} {state between : State} {pre : List Token} {comments : List (List ℕ)} → Passed ss state pre comments other between → (post : List Token) (tail : List (List ℕ)) (last : State) → Comes comments tail post
    → Derives reading_table (with_comments tail) other between post last → Derives reading_table (with_comments tail) ss state (pre ++ post) last
passed_derives stays post tail last c d = d
passed_derives (goes {ss = ss} {state = state} {t = t} {ts = ts} {comments = comments} next e p) post tail last c d =
    feed_derives reading_table (with_comments tail) table_is_predictive.quiet deepest ss state last t (ts ++ post) next e
    (subst (λ u. Derives reading_table (with_comments tail) next.0 u (ts ++ post) last) (sym (front_arrives ts post comments tail next.1 c)) (passed_derives p post tail last c d))

pub shifted_ok : (r : Result State ℕ) (last : State) → shifted r ≡ Ok last → r ≡ Ok last
shifted_ok (Ok a) last h = h
shifted_ok (Err n) last h = absurd cc

pub passed_runs : {ss other : List Placed} {state between : State} {pre : List Token} {comments : List (List ℕ)} → Passed ss state pre comments other between → (post : List Token) (tail : List (List ℕ)) (last : State) → Comes comments tail post
    → run reading_table deepest (with_comments tail) ss state (pre ++ post) ≡ Ok last → run reading_table deepest (with_comments tail) other between post ≡ Ok last
passed_runs stays post tail last c h = h
passed_runs (goes {ss = ss} {state = state} {t = t} {ts = ts} {comments = comments} next e p) post tail last c h =
    let more : List Placed → State → Result State ℕ = λ ss state. run reading_table deepest (with_comments tail) ss (arrived reading_table (with_comments tail) (ts ++ post) state) (ts ++ post) in
    let g : shifted (more next.0 next.1) ≡ Ok last = sym (ap (λ o. run_on reading_table o more) e) ∙ h in
    passed_runs p post tail last c
    (subst (λ u. run reading_table deepest (with_comments tail) next.0 u (ts ++ post) ≡ Ok last) (front_arrives ts post comments tail next.1 c) (shifted_ok (more next.0 next.1) last g))

-- what holds of the stack and the values then
pub record Stands (pre : List Token) (a : List Tag × ℕ) (other : List Placed) (between : State) : Type 0 where
  pub now : List Tag × ℕ
  pub fine : Fine now other
  pub on : On now between
  pub counted : now.1 ≡ count_along a.1 pre

pub passed_stands : {ss other : List Placed} {state between : State} {pre : List Token} {comments : List (List ℕ)} → Passed ss state pre comments other between → (a : List Tag × ℕ) → Fine a ss → On a state → Stands pre a other between
passed_stands stays a f o = record { now = a; fine = f; on = o; counted = refl }
passed_stands (goes {ss = ss} {other = other} {state = state} {last = between} {t = t} {ts = ts} {comments = comments} next e p) a f o =
    let n = feed_fine ss a state t next f o e in
    let g = passed_stands p n.then_fine n.fine (subst (λ vs. Suits vs n.then_fine) (sym (arrived_is comments ts next.1)) n.on) in
    record { now = g.now; fine = g.fine; on = g.on; counted = g.counted ∙ ap (λ c. count_along c ts) n.goes }
  where
    Suits : List Held → List Tag × ℕ → Type 0
    Suits vs a = On a record { values = vs; waiting = [] }

pub passed_can_be : {ss other : List Placed} {state between : State} {pre : List Token} {comments : List (List ℕ)} → Passed ss state pre comments other between → can_be reading_table fitting_example ss ≡ true → can_be reading_table fitting_example other ≡ true
passed_can_be stays h = h
passed_can_be (goes {ss = ss} {state = state} {t = t} next e p) h =
    passed_can_be p (fed_can_be reading_table fitting_example table_is_predictive.quiet fitting_serve deepest_sample each_is_sampled each_row_can_be deepest ss state t next h e)

-- ---- where reading ends

-- the standing that is tested
abbrev pub standing : List Placed → State → ℕ → Standing
standing ss state count = record { stack = ss; state = state; parentheses = count }

pub record Stop (Why : List Placed → State → ℕ → List Token → Type 0) (round : ℕ) (tail : List (List ℕ)) (s : Standing) (ts : List Token) (n : ℕ) : Type 0 where
  pub pre : List Token
  pub post : List Token
  pub comments : List (List ℕ)
  pub stack : List Placed
  pub state : State
  pub whole : pre ++ post ≡ ts
  pub many : length pre ≡ n
  pub comes : Comes comments tail post
  pub passed : Passed s.stack s.state pre comments stack state
  pub low : (pre ≡ []) ⊎ (fits round (standing stack state (count_along s.parentheses pre)) ≡ true)
  pub opened : open_along s.parentheses pre ≤ max s.parentheses MOST_OPEN
  pub why : Why stack state (count_along s.parentheses pre) post

abbrev pub IsRefused : List Placed → State → ℕ → List Token → Type 0
IsRefused ss state count [] = hush reading_table ss ≡ None
IsRefused ss state count (t ∷ ts) = feed reading_table deepest ss state t ≡ None

abbrev pub IsDeep : ℕ → List Placed → State → ℕ → List Token → Type 0
IsDeep round ss state count [] = ⊥
IsDeep round ss state count (t ∷ ts) = (next : List Placed × State) × (feed reading_table deepest ss state t ≡ Some next) × (fits round (standing next.0 next.1 (open_after count t.lexeme)) ≡ false)

abbrev pub IsEnded : State → List Placed → State → ℕ → List Token → Type 0
IsEnded last ss state count [] = (line : List Placed) × (hush reading_table ss ≡ Some line) × (apply reading_table line state ≡ last)
IsEnded last ss state count (t ∷ ts) = ⊥

module _ (round : ℕ) (tail : List (List ℕ)) where
  abbrev Traced : Standing → List Token → Outcome → Type 0
  Traced s ts (read last) = Stop (IsEnded last) round tail s ts (length ts)
  Traced s ts (stopped n) = Stop IsRefused round tail s ts n
  Traced s ts (limited n) = Stop (IsDeep round) round tail s ts n

  -- at once
  here : (Why : List Placed → State → ℕ → List Token → Type 0) (s : Standing) (ts : List Token) → Why s.stack s.state s.parentheses ts → Stop Why round tail s ts 0
  here Why s [] w = record { pre = []; post = []; comments = tail; stack = s.stack; state = s.state; whole = refl; many = refl; comes = refl; passed = stays; low = inl refl; opened = omega arith; why = w }
  here Why s (t ∷ ts) w = record { pre = []; post = t ∷ ts; comments = t.comments; stack = s.stack; state = s.state; whole = refl; many = refl; comes = refl; passed = stays; low = inl refl; opened = omega arith; why = w }

  few_here : (s : Standing) → fits round s ≡ true → s.parentheses ≤ MOST_OPEN
  few_here s h =
      let p = and_parts (nat_le (round + (surely s).nodes) MOST_NESTED && nat_le (surely s).steps MOST_NESTED_STEPS) (nat_le (widest s.parentheses s.stack) MOST_OPEN) h in
      let q = leb-true (widest s.parentheses s.stack) MOST_OPEN p.1 in
      omega (arith, q, widest_from s.stack s.parentheses)

  -- a token later
  behind : (Why : List Placed → State → ℕ → List Token → Type 0) (s : Standing) (t : Token) (ts : List Token) (next : List Placed × State) (n : ℕ) → feed reading_table deepest s.stack s.state t ≡ Some next
      → fits round (standing next.0 next.1 (open_after s.parentheses t.lexeme)) ≡ true
      → Stop Why round tail (with_next (with_comments tail) ts (standing next.0 next.1 (open_after s.parentheses t.lexeme))) ts n → Stop Why round tail s (t ∷ ts) (suc n)
  behind Why s t ts next n e g w =
      let count = open_after s.parentheses t.lexeme in
      let few = few_here (standing next.0 next.1 count) g in
      let opens = w.opened in
      record {
        pre = t ∷ w.pre;
        post = w.post;
        comments = w.comments;
        stack = w.stack;
        state = w.state;
        whole = ap (λ us. t ∷ us) w.whole;
        many = ap suc w.many;
        comes = w.comes;
        passed = goes next e (subst (λ u. Passed next.0 u w.pre w.comments w.stack w.state) (ap (λ us. arrived reading_table (with_comments tail) us next.1) (sym w.whole) ∙ front_arrives w.pre w.post w.comments tail next.1 w.comes) w.passed);
        low = inr (by w.pre w.low w.passed);
        opened = omega (arith, few, opens);
        why = w.why;
      }
    where
      at : List Placed → List Held → ℕ → Bool
      at ss vs count = fits round (standing ss record { values = vs; waiting = [] } count)

      by : (pre : List Token) → (pre ≡ []) ⊎ (fits round (standing w.stack w.state (count_along (open_after s.parentheses t.lexeme) pre)) ≡ true)
          → Passed next.0 (arrived reading_table (with_comments tail) ts next.1) pre w.comments w.stack w.state → fits round (standing w.stack w.state (count_along (open_after s.parentheses t.lexeme) pre)) ≡ true
      by pre (inr h) p = h
      by pre (inl h) p =
          let z = passed_none p h in
          let count = open_after s.parentheses t.lexeme in
          subst (λ pre. at w.stack w.state.values (count_along count pre) ≡ true) (sym h)
          (subst (λ ss. at ss w.state.values count ≡ true) z.0 (subst (λ (u : State). at next.0 u.values count ≡ true) z.1 (ap (λ vs. at next.0 vs count) (arrived_is tail ts next.1) ∙ g)))

  traced : (ts : List Token) (s : Standing) → Traced s ts (run_within round (with_comments tail) s ts)
  traced [] s = by (hush reading_table s.stack) refl
    where
      by : (o : Option (List Placed)) → hush reading_table s.stack ≡ o → Traced s [] (ended o s.state)
      by (Some line) e = here (IsEnded (apply reading_table line s.state)) s [] (line, e, refl)
      by None e = here IsRefused s [] e
  traced (t ∷ ts) s = by (feed reading_table deepest s.stack s.state t) refl (traced ts)
    where
      later_on : (next : List Placed × State) → feed reading_table deepest s.stack s.state t ≡ Some next → fits round (standing next.0 next.1 (open_after s.parentheses t.lexeme)) ≡ true
          → (o : Outcome) → Traced (with_next (with_comments tail) ts (standing next.0 next.1 (open_after s.parentheses t.lexeme))) ts o → Traced s (t ∷ ts) (later o)
      later_on next e g (read last) w = behind (IsEnded last) s t ts next (length ts) e g w
      later_on next e g (stopped n) w = behind IsRefused s t ts next n e g w
      later_on next e g (limited n) w = behind (IsDeep round) s t ts next n e g w

      tested : (next : List Placed × State) → feed reading_table deepest s.stack s.state t ≡ Some next → ((s : Standing) → Traced s ts (run_within round (with_comments tail) s ts))
          → (b : Bool) → fits round (standing next.0 next.1 (open_after s.parentheses t.lexeme)) ≡ b
          → Traced s (t ∷ ts) (going_on (if b then admitted (standing next.0 next.1 (open_after s.parentheses t.lexeme)) else deep) (λ s. run_within round (with_comments tail) (with_next (with_comments tail) ts s) ts))
      tested next e go true g =
          later_on next e g (run_within round (with_comments tail) (with_next (with_comments tail) ts (standing next.0 next.1 (open_after s.parentheses t.lexeme))) ts)
          (go (with_next (with_comments tail) ts (standing next.0 next.1 (open_after s.parentheses t.lexeme))))
      tested next e go false g = here (IsDeep round) s (t ∷ ts) (next, e, g)

      by : (o : Option (List Placed × State)) → feed reading_table deepest s.stack s.state t ≡ o → ((s : Standing) → Traced s ts (run_within round (with_comments tail) s ts))
          → Traced s (t ∷ ts) (going_on (fed_to round (open_after s.parentheses t.lexeme) o) (λ s. run_within round (with_comments tail) (with_next (with_comments tail) ts s) ts))
      by None e go = here IsRefused s (t ∷ ts) e
      by (Some next) e go = tested next e go (fits round (standing next.0 next.1 (open_after s.parentheses t.lexeme))) refl

  -- Reading that ends with an outcome ends there.
  pub trace : (ts : List Token) (s : Standing) (o : Outcome) → run_within round (with_comments tail) s ts ≡ o → Traced s ts o
  trace ts s o h = subst (Traced s ts) h (traced ts s)

  -- ---- what is read within the limits is admitted all along

  pub record Low (last : State) : Type 0 where
    pub nodes : round + (highest (masses last.values)).nodes ≤ MOST_NESTED
    pub steps : (highest (masses last.values)).steps ≤ MOST_NESTED_STEPS

  -- a standing from which something within the limits is read fits
  pub fits_before : (ss : List Placed) (state last : State) (ts : List Token) (a : List Tag × ℕ) (count : ℕ) → Fine a ss → On a state → Derives reading_table (with_comments tail) ss (arrived reading_table (with_comments tail) ts state) ts last
      → Low last → open_along count ts ≤ MOST_OPEN → fits round (standing ss state count) ≡ true
  fits_before ss state last ts a count f o d l w =
      let b = lower_bound d (λ state. refl) a.0 f.out (subst (λ vs. On a record { values = vs; waiting = [] }) (sym (arrived_is tail ts state)) o) f.moves_to in
      let c : Below (least ss (masses state.values)) (masses last.values) = subst (λ vs. Below (least ss (masses vs)) (masses last.values)) (arrived_is tail ts state) b in
      let h = highest_below c in
      let n = l.nodes in
      let m = l.steps in
      let i = h.nodes in
      let j = h.steps in
      let x = open_bound d count in
      let s = standing ss state count in
      and_from (nat_le (round + (surely s).nodes) MOST_NESTED && nat_le (surely s).steps MOST_NESTED_STEPS) (nat_le (widest count ss) MOST_OPEN)
      (and_from (nat_le (round + (surely s).nodes) MOST_NESTED) (nat_le (surely s).steps MOST_NESTED_STEPS) (le-leb (round + (surely s).nodes) MOST_NESTED (omega (arith, n, i))) (le-leb (surely s).steps MOST_NESTED_STEPS (omega (arith, m, j))))
      (le-leb (widest count ss) MOST_OPEN (omega (arith, x, w)))
