-- The place of a fault: what stands before it goes on to what is read, and with the token there nothing is read.
use Rattle.std.proofs.Common.{◌≡◌, ℕ, zero, suc, List, [], ◌∷◌, ◌++◌, refl, sym, ◌∙◌, ap, subst, Option, Some, None, Bool, true, append_assoc, append-nil, Result, Ok, Err, length, take, arith}
use Rattle.std.specs.Prelude.{is_some}
use Rattle.std.specs.List.{list_all}
use Rattle.std.proofs.lemmas.Bool.{and_parts, and_from}
use Rattle.reading_table.specs.Tables.{View, token, done, part, Table, arrived, Derives, ends, takes, acts, opens, omits}
use Rattle.reading_table.specs.Machine.{first_some, both, before, hush, lead_at, lead, enter, perform_at, perform, apply, performed, feed, finished, going_on, shifted, run}
use Rattle.reading_table.proofs.Answers.{after_some, both_some, if_some, first_some_has}
use Rattle.reading_table.proofs.Sound.{IsQuiet, KeepsQuiet, quiet_done, feed_derives}
use Rattle.reading_table.proofs.Complete.{IsPredictive, Good, run_reads}
use Rattle.reading_table.proofs.Predictive.{all_has}

-- ---- a fault is decided by the tokens up to it

module _ {Symbol Part Token State : Type 0} (T : Table Symbol Part Token State) (depth : ℕ) where
  not_first : (r : Result State ℕ) → shifted r ≡ Err 0 → ⊥
  not_first (Ok a) e = absurd cc
  not_first (Err n) e = let z : suc n ≡ 0 = cc in absurd (omega (arith, z))

  down : (r : Result State ℕ) (n : ℕ) → shifted r ≡ Err (suc n) → r ≡ Err n
  down (Ok a) n e = absurd cc
  down (Err m) n e = let z : suc m ≡ suc n = cc in ap Err (omega (arith, z))

  -- where the tokens up to one agree, so do the states; `arrive` tells what comes with the next token
  local : (end other_end : State → State) (front : List Token) (ss : List Symbol) (state : State) (t : Token) (rest other : List Token)
      → run T depth end ss state (front ++ t ∷ rest) ≡ Err (length front) → run T depth other_end ss state (front ++ t ∷ other) ≡ Err (length front)
  local end other_end [] ss state t rest other h = by_feed (feed T depth ss state t) h
    where
      by_feed : (o : Option (List Symbol × State)) → going_on T o (λ ss state. run T depth end ss (arrived T end rest state) rest) ≡ Err 0
          → going_on T o (λ ss state. run T depth other_end ss (arrived T other_end other state) other) ≡ Err 0
      by_feed None e = refl
      by_feed (Some next) e = absurd (not_first (run T depth end next.0 (arrived T end rest next.1) rest) e)
  local end other_end (u ∷ front) ss state t rest other h = by_feed (λ next. local end other_end front next.0 (here front next.1) t rest other) (feed T depth ss state u) h
    where
      -- what comes with the next token, the same before both
      here : List Token → State → State
      here [] state = T.brings t state
      here (v ∷ front) state = T.brings v state

      by_feed : ((next : List Symbol × State) → run T depth end next.0 (here front next.1) (front ++ t ∷ rest) ≡ Err (length front) → run T depth other_end next.0 (here front next.1) (front ++ t ∷ other) ≡ Err (length front))
          → (o : Option (List Symbol × State)) → going_on T o (λ ss state. run T depth end ss (arrived T end (front ++ t ∷ rest) state) (front ++ t ∷ rest)) ≡ Err (suc (length front))
          → going_on T o (λ ss state. run T depth other_end ss (arrived T other_end (front ++ t ∷ other) state) (front ++ t ∷ other)) ≡ Err (suc (length front))
      by_feed go None e = absurd (let z : 0 ≡ suc (length front) = cc in omega (arith, z))
      by_feed go (Some next) e =
          ap shifted (same_other front next ∙ go next (same_end front next ∙ down (run T depth end next.0 (arrived T end (front ++ t ∷ rest) next.1) (front ++ t ∷ rest)) (length front) e))
        where
          same_end : (f : List Token) (next : List Symbol × State) → run T depth end next.0 (here f next.1) (f ++ t ∷ rest) ≡ run T depth end next.0 (arrived T end (f ++ t ∷ rest) next.1) (f ++ t ∷ rest)
          same_end [] next = refl
          same_end (v ∷ f) next = refl

          same_other : (f : List Token) (next : List Symbol × State)
              → run T depth other_end next.0 (arrived T other_end (f ++ t ∷ other) next.1) (f ++ t ∷ other) ≡ run T depth other_end next.0 (here f next.1) (f ++ t ∷ other)
          same_other [] next = refl
          same_other (v ∷ f) next = refl

  module _ (P : IsPredictive T depth) where
    -- No tokens that begin with those before the fault and the one at the fault are read.
    pub not_admitted : (end other_end : State → State) (ss : List Symbol) (state last : State) (front : List Token) (t : Token) (rest other : List Token) → Good T depth P ss
        → run T depth end ss state (front ++ t ∷ rest) ≡ Err (length front) → Derives T other_end ss state (front ++ t ∷ other) last → ⊥
    not_admitted end other_end ss state last front t rest other g h d =
        let a = local end other_end front ss state t rest other h in
        let b = run_reads T depth P other_end (front ++ t ∷ other) ss state last g d in
        absurd cc

    -- where reading stops, all tokens are not read
    pub not_read : (end : State → State) (ss : List Symbol) (state last : State) (ts : List Token) (n : ℕ) → Good T depth P ss → run T depth end ss state ts ≡ Err n → Derives T end ss state ts last → ⊥
    not_read end ss state last ts n g h d = let b = run_reads T depth P end ts ss state last g d in absurd cc

-- ---- whatever has been read goes on

module _ {Symbol Part Token State : Type 0} (T : Table Symbol Part Token State) (example : Symbol → Option Token) where
  -- an example of a symbol serves whatever has been read, and brings nothing
  pub record AreExamples : Type 0 where
    pub serve : (s : Symbol) (t : Token) (state : State) → example s ≡ Some t → T.fits s state t ≡ true
    pub plain : (s : Symbol) (t : Token) (state : State) → example s ≡ Some t → T.brings t state ≡ state

  -- ---- tokens that a part is read from: none where it may be left out

  abbrev with_example : Option Token → Option (List Token) → Option (List Token)
  with_example (Some t) (Some ts) = Some (t ∷ ts)
  with_example (Some t) None = None
  with_example None ts = None

  abbrev sample_at : (Part → Option (List Token)) → View Part → Symbol → Option (List Token) → Option (List Token)
  sample_at sample token s rest = with_example (example s) rest
  sample_at sample done s rest = rest
  sample_at sample (part p) s rest = both (sample p) rest

  abbrev sample_line : (Part → Option (List Token)) → List Symbol → Option (List Token)
  sample_line sample [] = Some []
  sample_line sample (s ∷ ss) = sample_at sample (T.view s) s (sample_line sample ss)

  abbrev omitted : Option (List Symbol) → Option (List Token) → Option (List Token)
  omitted (Some line) other = Some []
  omitted None other = other

  abbrev pub sample : ℕ → Part → Option (List Token)
  sample zero p = None
  sample (suc k) p = omitted (T.silence p) (first_some (sample_line (sample k)) (T.rows p))

  -- each token of a stack has an example
  abbrev pub can_be_at : View Part → Symbol → Bool
  can_be_at token s = is_some (example s)
  can_be_at _ s = true

  abbrev pub can_be : List Symbol → Bool
  can_be ss = list_all (λ s. can_be_at (T.view s) s) ss

  abbrev tail_can_be : List Symbol → Bool
  tail_can_be [] = true
  tail_can_be (s ∷ ss) = can_be ss

  -- each token behind the first symbol of a row
  abbrev pub rows_can_be : Part → Bool
  rows_can_be p = list_all tail_can_be (T.rows p)

  abbrev pub same : State → State
  same state = state

  -- nothing comes with the first of them
  abbrev Plain : List Token → Type 0
  Plain ts = (state : State) → arrived T same ts state ≡ state

  -- whatever has been read, these tokens finish the line
  record Finishes (line : List Symbol) (state : State) (sample : List Token) : Type 0 where
    after_it : State
    plain : (ts : List Token) → Plain ts → Plain (sample ++ ts)
    does : (x : List Symbol) (ts : List Token) (last : State) → Plain ts → Derives T same x after_it ts last → Derives T same (line ++ x) state (sample ++ ts) last

  module _ (quiet : KeepsQuiet T) (E : AreExamples) where
    finish_token : (s : Symbol) (ss : List Symbol) (state : State) (t : Token) (ts : List Token) → T.view s ≡ token → example s ≡ Some t → Finishes ss (T.taken s state t) ts → Finishes (s ∷ ss) state (t ∷ ts)
    finish_token s ss state t ts v e f = record {
      after_it = f.after_it;
      plain = λ us p state. E.plain s t state e;
      does = λ x us last p d. takes v (E.serve s t state e) (subst (λ u. Derives T same (ss ++ x) u (ts ++ us) last) (sym (f.plain us p (T.taken s state t))) (f.does x us last p d));
    }

    finish_part : (s : Symbol) (p : Part) (ss : List Symbol) (state : State) (us ts : List Token) → (f : Finishes (s ∷ []) state us) → Finishes ss f.after_it ts → Finishes (s ∷ ss) state (us ++ ts)
    finish_part s p ss state us ts f g = record {
      after_it = g.after_it;
      plain = λ vs q. subst Plain (sym (append_assoc us ts vs)) (f.plain (ts ++ vs) (g.plain vs q));
      does = λ x vs last q d. subst (λ u. Derives T same (s ∷ (ss ++ x)) state u last) (sym (append_assoc us ts vs)) (f.does (ss ++ x) (ts ++ vs) last (g.plain vs q) (g.does x vs last q d));
    }

    Samples : (Part → Option (List Token)) → Type 0
    Samples f = (s : Symbol) (p : Part) (ts : List Token) (state : State) → T.view s ≡ part p → f p ≡ Some ts → Finishes (s ∷ []) state ts

    some_pair : (o : Option Token) (p : Option (List Token)) (ts : List Token) → with_example o p ≡ Some ts → (t : Token) × (us : List Token) × (o ≡ Some t) × (p ≡ Some us) × (t ∷ us ≡ ts)
    some_pair None p ts h = absurd cc
    some_pair (Some t) None ts h = absurd cc
    some_pair (Some t) (Some us) ts h = (t, us, refl, refl, cc)

    finish_line : (f : Part → Option (List Token)) → Samples f → (line : List Symbol) (state : State) (ts : List Token) → sample_line f line ≡ Some ts → Finishes line state ts
    unfolding Samples
    finish_line f hf [] state ts h = let e : [] ≡ ts = cc in subst (Finishes [] state) e record { after_it = state; plain = λ us p. p; does = λ x us last p d. d }
    finish_line f hf (s ∷ ss) state ts h = by_view (finish_line f hf ss) (T.view s) refl h
      where
        by_view : ((state : State) (ts : List Token) → sample_line f ss ≡ Some ts → Finishes ss state ts) → (v : View Part) → T.view s ≡ v → sample_at f v s (sample_line f ss) ≡ Some ts → Finishes (s ∷ ss) state ts
        by_view go token v h =
            let p = some_pair (example s) (sample_line f ss) ts h in
            subst (Finishes (s ∷ ss) state) p.4 (finish_token s ss state p.0 p.1 v p.2 (go (T.taken s state p.0) p.1 p.3))
        by_view go done v h = let g = go (T.does s state) ts h in record { after_it = g.after_it; plain = g.plain; does = λ x us last p d. acts v (g.does x us last p d) }
        by_view go (part p) v h =
            let q = both_some (f p) (sample_line f ss) ts h in
            let a = hf s p q.0 state v q.2 in
            subst (Finishes (s ∷ ss) state) q.4 (finish_part s p ss state q.0 q.1 a (go a.after_it q.1 q.3))

    samples : (k : ℕ) → Samples (sample k)
    unfolding Samples
    samples zero s p ts state v h = absurd cc
    samples (suc k) s p ts state v h = by_silence (samples k) (T.silence p) refl h
      where
        by_silence : Samples (sample k) → (o : Option (List Symbol)) → T.silence p ≡ o → omitted o (first_some (sample_line (sample k)) (T.rows p)) ≡ Some ts → Finishes (s ∷ []) state ts
        by_silence go (Some q) e h =
            let z : [] ≡ ts = cc in
            subst (Finishes (s ∷ []) state) z record { after_it = apply T q state; plain = λ us p. p; does = λ x us last r d. omits v e (quiet_done T same q x state last us (quiet p q e) d) }
        by_silence go None e h =
            let r = first_some_has (sample_line (sample k)) (T.rows p) ts h in
            let f = finish_line (sample k) go r.0 state ts r.2 in
            record { after_it = f.after_it; plain = f.plain; does = λ x us last q d. opens v r.1 (f.does x us last q d) }

    module _ (k : ℕ) (sampled : (p : Part) → is_some (sample k p) ≡ true) where
      some_is : {A : Type 0} → (o : Option A) → is_some o ≡ true → (a : A) × (o ≡ Some a)
      some_is None h = absurd cc
      some_is (Some a) h = (a, refl)

      -- a stack whose tokens have examples can be finished
      record CanFinish (ss : List Symbol) (state : State) : Type 0 where
        tokens : List Token
        finishes : Finishes ss state tokens

      can_finish : (ss : List Symbol) (state : State) → can_be ss ≡ true → CanFinish ss state
      unfolding Samples
      can_finish [] state h = record { tokens = []; finishes = record { after_it = state; plain = λ us p. p; does = λ x us last p d. d } }
      can_finish (s ∷ ss) state h = by_view (can_finish ss) (T.view s) refl (and_parts (can_be_at (T.view s) s) (can_be ss) h)
        where
          by_view : ((state : State) → can_be ss ≡ true → CanFinish ss state) → (v : View Part) → T.view s ≡ v → (can_be_at v s ≡ true) × (can_be ss ≡ true) → CanFinish (s ∷ ss) state
          by_view go token v h =
              let t = some_is (example s) h.0 in
              let g = go (T.taken s state t.0) h.1 in
              record { tokens = t.0 ∷ g.tokens; finishes = finish_token s ss state t.0 g.tokens v t.1 g.finishes }
          by_view go done v h =
              let g = go (T.does s state) h.1 in
              record { tokens = g.tokens; finishes = record { after_it = g.finishes.after_it; plain = g.finishes.plain; does = λ x us last p d. acts v (g.finishes.does x us last p d) } }
          by_view go (part p) v h =
              let ts = some_is (sample k p) (sampled p) in
              let a = samples k s p ts.0 state v ts.1 in
              let g = go a.after_it h.1 in
              record { tokens = ts.0 ++ g.tokens; finishes = finish_part s p ss state ts.0 g.tokens a g.finishes }

      -- these tokens are the beginning of some that are read
      pub record GoesOn (ss : List Symbol) (state : State) (front : List Token) : Type 0 where
        pub more : List Token
        pub last : State
        pub plain : (state : State) → arrived T same more state ≡ state
        pub derives : Derives T same ss state (front ++ more) last

      finished_here : (ss : List Symbol) (state : State) → can_be ss ≡ true → GoesOn ss state []
      finished_here ss state h =
          let f = can_finish ss state h in
          record {
            more = f.tokens;
            last = f.finishes.after_it;
            plain = subst Plain (append-nil f.tokens) (f.finishes.plain [] (λ state. refl));
            derives = subst (λ ss. Derives T same ss state f.tokens f.finishes.after_it) (append-nil ss) (subst (λ ts. Derives T same (ss ++ []) state ts f.finishes.after_it) (append-nil f.tokens) (f.finishes.does [] [] f.finishes.after_it (λ state. refl) ends));
          }

      -- ---- what is left after a token has examples too

      can_be_append : (a b : List Symbol) → can_be a ≡ true → can_be b ≡ true → can_be (a ++ b) ≡ true
      can_be_append [] b h g = g
      can_be_append (s ∷ a) b h g =
          let parts = and_parts (can_be_at (T.view s) s) (can_be a) h in
          and_from (can_be_at (T.view s) s) (can_be (a ++ b)) parts.0 (can_be_append a b parts.1 g)

      abbrev behind_at : View Part → Bool → Bool → Bool
      behind_at token tail rest = tail
      behind_at done tail rest = rest
      behind_at (part p) tail rest = true

      -- each token behind the first one has an example
      abbrev behind : List Symbol → Bool
      behind [] = true
      behind (s ∷ ss) = behind_at (T.view s) (can_be ss) (behind ss)

      behind_all : (x : List Symbol) → can_be x ≡ true → behind x ≡ true
      behind_all [] h = refl
      behind_all (s ∷ x) h = by_view (T.view s) (and_parts (can_be_at (T.view s) s) (can_be x) h).1 (behind_all x)
        where
          by_view : (v : View Part) → can_be x ≡ true → (can_be x ≡ true → behind x ≡ true) → behind_at v (can_be x) (behind x) ≡ true
          by_view token h go = h
          by_view done h go = go h
          by_view (part p) h go = refl

      behind_append : (l x : List Symbol) → behind l ≡ true → can_be x ≡ true → behind (l ++ x) ≡ true
      behind_append [] x h g = behind_all x g
      behind_append (s ∷ l) x h g = by_view (T.view s) h (λ h. behind_append l x h g)
        where
          by_view : (v : View Part) → behind_at v (can_be l) (behind l) ≡ true → (behind l ≡ true → behind (l ++ x) ≡ true) → behind_at v (can_be (l ++ x)) (behind (l ++ x)) ≡ true
          by_view token h go = can_be_append l x h g
          by_view done h go = go h
          by_view (part p) h go = refl

      behind_quiet : (q l : List Symbol) → IsQuiet T q → behind l ≡ true → behind (q ++ l) ≡ true
      behind_quiet [] l h g = g
      behind_quiet (s ∷ q) l h g = ap (λ v. behind_at v (can_be (q ++ l)) (behind (q ++ l))) h.0 ∙ behind_quiet q l h.1 g

      performed_can_be : (l : List Symbol) (state : State) (t : Token) (next : List Symbol × State) → behind l ≡ true → perform T l state t ≡ Some next → can_be next.0 ≡ true
      performed_can_be [] state t next h e = absurd cc
      performed_can_be (s ∷ l) state t next h e = by_view (T.view s) h e (performed_can_be l (T.does s state) t next)
        where
          by_view : (v : View Part) → behind_at v (can_be l) (behind l) ≡ true → perform_at T v s l state t (perform T l (T.does s state) t) ≡ Some next
              → (behind l ≡ true → perform T l (T.does s state) t ≡ Some next → can_be next.0 ≡ true) → can_be next.0 ≡ true
          by_view token h e go = let p = if_some (T.fits s state t) (l, T.taken s state t) next e in ap (λ (n : List Symbol × State). can_be n.0) (sym p.1) ∙ h
          by_view done h e go = go h e
          by_view (part p) h e go = absurd cc

      tail_too : (line : List Symbol) → can_be line ≡ true → tail_can_be line ≡ true
      tail_too [] h = refl
      tail_too (s ∷ line) h = (and_parts (can_be_at (T.view s) s) (can_be line) h).1

      Enters : ℕ → Token → Type 0
      Enters depth t = (p : Part) (l : List Symbol) → enter T depth p t ≡ Some l → behind l ≡ true

      lead_behind : (depth : ℕ) (t : Token) → Enters depth t → (line l : List Symbol) → tail_can_be line ≡ true → lead T (enter T depth) t line ≡ Some l → behind l ≡ true
      unfolding Enters
      lead_behind depth t f [] l h e = absurd cc
      lead_behind depth t f (s ∷ ss) l h e = by_view (T.view s) refl e (λ l e. lead_behind depth t f ss l (tail_too ss h) e)
        where
          by_entry : (v : View Part) (p : Part) → (o : Option (List Symbol)) → enter T depth p t ≡ o → before o ss (both (T.silence p) (lead T (enter T depth) t ss)) ≡ Some l
              → ((l : List Symbol) → lead T (enter T depth) t ss ≡ Some l → behind l ≡ true) → behind l ≡ true
          by_entry v p (Some a) x e go = let z : a ++ ss ≡ l = cc in ap behind (sym z) ∙ behind_append a ss (f p a x) h
          by_entry v p None x e go =
              let q = both_some (T.silence p) (lead T (enter T depth) t ss) l e in
              ap behind (sym q.4) ∙ behind_quiet q.0 q.1 (quiet p q.0 q.2) (go q.1 q.3)

          by_view : (v : View Part) → T.view s ≡ v → lead_at T (enter T depth) t v s ss (lead T (enter T depth) t ss) ≡ Some l
              → ((l : List Symbol) → lead T (enter T depth) t ss ≡ Some l → behind l ≡ true) → behind l ≡ true
          by_view token v e go =
              let p = if_some (T.may s t) (s ∷ ss) l e in
              ap behind (sym p.1) ∙ ap (λ v. behind_at v (can_be ss) (behind ss)) v ∙ h
          by_view done v e go =
              let p = after_some s (lead T (enter T depth) t ss) l e in
              ap behind (sym p.2) ∙ ap (λ v. behind_at v (can_be p.0) (behind p.0)) v ∙ go p.0 p.1
          by_view (part p) v e go = by_entry (part p) p (enter T depth p t) refl e go

      module _ (rows_good : (p : Part) → rows_can_be p ≡ true) where
        enters : (depth : ℕ) (t : Token) → Enters depth t
        unfolding Enters
        enters zero t p l e = absurd cc
        enters (suc depth) t p l e =
            let r = first_some_has (lead T (enter T depth) t) (T.rows p) l e in
            lead_behind depth t (enters depth t) r.0 l (all_has tail_can_be (T.rows p) r.0 (rows_good p) r.1) r.2

        pub fed_can_be : (depth : ℕ) (ss : List Symbol) (state : State) (t : Token) (next : List Symbol × State) → can_be ss ≡ true → feed T depth ss state t ≡ Some next → can_be next.0 ≡ true
        fed_can_be depth ss state t next h e = by_lead (lead T (enter T depth) t ss) refl e
          where
            by_lead : (o : Option (List Symbol)) → lead T (enter T depth) t ss ≡ o → performed T o state t ≡ Some next → can_be next.0 ≡ true
            by_lead None x e = absurd cc
            by_lead (Some l) x e = performed_can_be l state t next (lead_behind depth t (enters depth t) ss l (tail_too ss h) x) e

        -- the same from before the next token came
        record Onward (next : List Symbol × State) (front : List Token) : Type 0 where
          more : List Token
          last : State
          plain : (state : State) → arrived T same more state ≡ state
          derives : Derives T same next.0 (arrived T same (front ++ more) next.1) (front ++ more) last

        onward : (end : State → State) (next : List Symbol × State) (m : ℕ) (ts : List Token) → can_be next.0 ≡ true → GoesOn next.0 (arrived T end ts next.1) (take m ts) → Onward next (take m ts)
        onward end next zero ts c g = here (finished_here next.0 next.1 c)
          where
            here : GoesOn next.0 next.1 [] → Onward next []
            here g = record { more = g.more; last = g.last; plain = g.plain; derives = subst (λ state. Derives T same next.0 state g.more g.last) (sym (g.plain next.1)) g.derives }
        onward end next (suc m) [] c g = here (finished_here next.0 next.1 c)
          where
            here : GoesOn next.0 next.1 [] → Onward next []
            here g = record { more = g.more; last = g.last; plain = g.plain; derives = subst (λ state. Derives T same next.0 state g.more g.last) (sym (g.plain next.1)) g.derives }
        onward end next (suc m) (v ∷ ts) c g = record { more = g.more; last = g.last; plain = g.plain; derives = g.derives }

        -- The tokens before a fault begin some that are read.
        pub admitted_before : (depth : ℕ) (end : State → State) (ts : List Token) (ss : List Symbol) (state : State) (n : ℕ) → can_be ss ≡ true → run T depth end ss state ts ≡ Err n → GoesOn ss state (take n ts)
        admitted_before depth end [] ss state n c h = by_hush (hush T ss) h
          where
            by_hush : (o : Option (List Symbol)) → finished T o state ≡ Err n → GoesOn ss state (take n [])
            by_hush (Some q) e = absurd cc
            by_hush None e = let z : 0 ≡ n = cc in subst (λ n. GoesOn ss state (take n [])) z (finished_here ss state c)
        admitted_before depth end (t ∷ ts) ss state n c h = by_feed (λ next m c. admitted_before depth end ts next.0 (arrived T end ts next.1) m c) (feed T depth ss state t) refl h
          where
            by_feed : ((next : List Symbol × State) (m : ℕ) → can_be next.0 ≡ true → run T depth end next.0 (arrived T end ts next.1) ts ≡ Err m → GoesOn next.0 (arrived T end ts next.1) (take m ts))
                → (o : Option (List Symbol × State)) → feed T depth ss state t ≡ o → going_on T o (λ ss state. run T depth end ss (arrived T end ts state) ts) ≡ Err n → GoesOn ss state (take n (t ∷ ts))
            by_feed go None x e = let z : 0 ≡ n = cc in subst (λ n. GoesOn ss state (take n (t ∷ ts))) z (finished_here ss state c)
            by_feed go (Some next) x e = by_run (run T depth end next.0 (arrived T end ts next.1) ts) refl e
              where
                by_run : (r : Result State ℕ) → run T depth end next.0 (arrived T end ts next.1) ts ≡ r → shifted r ≡ Err n → GoesOn ss state (take n (t ∷ ts))
                by_run (Ok a) y e = absurd cc
                by_run (Err m) y e =
                    let z : suc m ≡ n = cc in
                    let d = fed_can_be depth ss state t next c x in
                    let g = onward end next m ts d (go next m d y) in
                    subst (λ n. GoesOn ss state (take n (t ∷ ts))) z
                    record { more = g.more; last = g.last; plain = g.plain; derives = feed_derives T same quiet depth ss state g.last t (take m ts ++ g.more) next x g.derives }
