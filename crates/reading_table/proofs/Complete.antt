-- What is derived is read, over a table that can be read by the next token alone.
use Rattle.std.proofs.Common.{◌≡◌, ℕ, List, [], ◌∷◌, ◌++◌, refl, sym, ◌∙◌, ap, Option, Some, None, Bool, true, false, if◌then◌else◌, append_assoc, Result, Ok}
use Rattle.reading_table.specs.Tables.{View, token, done, part, Table, Has, arrived, Derives, ends, takes, acts, opens, omits}
use Rattle.reading_table.specs.Machine.{after, both, before, hush_at, hush, lead_at, lead, enter, perform_at, perform, apply, performed, finished, going_on, shifted, run}
use Rattle.reading_table.proofs.Answers.{both_some, some_if, both-assoc, both-after}
use Rattle.reading_table.proofs.Sound.{IsQuiet}

module _ {Symbol Part Token State : Type 0} (T : Table Symbol Part Token State) (depth : ℕ) where
  abbrev leads : Token → List Symbol → Option (List Symbol)
  leads t line = lead T (enter T depth) t line

  -- Behind each part of a row of p stands nothing that may begin with what bars the part; and where that may be nothing, what bars the part bars p.
  abbrev pub EndsWell : (Part → Token → Bool) → Part → List Symbol → Type 0
  EndsWell bars p [] = Unit {0}
  EndsWell bars p (s ∷ ss) =
      ((m : Part) → T.view s ≡ part m → (t : Token) → ((l : List Symbol) → leads t ss ≡ Some l → bars m t ≡ false) × ((q : List Symbol) → hush T ss ≡ Some q → bars m t ≡ true → bars p t ≡ true))
      × EndsWell bars p ss

  -- The next token alone tells which row of a part is read: where two rows differ, and whether a part is left out.
  pub record IsPredictive : Type 0 where
    pub quiet : (p : Part) (q : List Symbol) → T.silence p ≡ Some q → IsQuiet T q
    pub fitting : (s : Symbol) (state : State) (t : Token) → T.fits s state t ≡ true → T.may s t ≡ true
    pub still : (p : Part) (row q : List Symbol) → Has (T.rows p) row → hush T row ≡ Some q → T.silence p ≡ Some q
    pub entered : (p : Part) (row l : List Symbol) (t : Token) → Has (T.rows p) row → leads t row ≡ Some l → enter T depth p t ≡ Some l
    pub bars : Part → Token → Bool
    pub own : (p : Part) (q l : List Symbol) (t : Token) → T.silence p ≡ Some q → enter T depth p t ≡ Some l → bars p t ≡ true
    pub behind : (p : Part) (row : List Symbol) → Has (T.rows p) row → EndsWell bars p row

  -- ---- lines before others

  pub hush_append : (a ss : List Symbol) → hush T (a ++ ss) ≡ both (hush T a) (hush T ss)
  hush_append [] ss = by_it (hush T ss)
    where
      by_it : (o : Option (List Symbol)) → o ≡ both (Some []) o
      by_it None = refl
      by_it (Some l) = refl
  hush_append (s ∷ a) ss = by_view (T.view s) (hush_append a ss)
    where
      by_view : (v : View Part) → hush T (a ++ ss) ≡ both (hush T a) (hush T ss) → hush_at T v s (hush T (a ++ ss)) ≡ both (hush_at T v s (hush T a)) (hush T ss)
      by_view token e = refl
      by_view done e = ap (after s) e ∙ sym (both-after s (hush T a) (hush T ss))
      by_view (part p) e = ap (both (T.silence p)) e ∙ sym (both-assoc (T.silence p) (hush T a) (hush T ss))

  pub lead_append : (t : Token) (a ss : List Symbol) → leads t (a ++ ss) ≡ before (leads t a) ss (both (hush T a) (leads t ss))
  lead_append t [] ss = by_it (leads t ss)
    where
      by_it : (o : Option (List Symbol)) → o ≡ both (Some []) o
      by_it None = refl
      by_it (Some l) = refl
  lead_append t (s ∷ a) ss = by_view (T.view s) (lead_append t a ss)
    where
      by_test : (b : Bool) → (if b then Some (s ∷ (a ++ ss)) else None) ≡ before (if b then Some (s ∷ a) else None) ss None
      by_test true = refl
      by_test false = refl

      by_done : (o : Option (List Symbol)) → after s (before o ss (both (hush T a) (leads t ss))) ≡ before (after s o) ss (both (after s (hush T a)) (leads t ss))
      by_done None = sym (both-after s (hush T a) (leads t ss))
      by_done (Some l) = refl

      by_silence : (q o : Option (List Symbol)) → both q (before o ss (both (hush T a) (leads t ss))) ≡ before (both q o) ss (both (both q (hush T a)) (leads t ss))
      by_silence None None = refl
      by_silence None (Some l) = refl
      by_silence (Some q) None = sym (both-assoc (Some q) (hush T a) (leads t ss))
      by_silence (Some q) (Some l) = ap Some (sym (append_assoc q l ss))

      by_entry : (p : Part) → leads t (a ++ ss) ≡ before (leads t a) ss (both (hush T a) (leads t ss)) → (o : Option (List Symbol))
          → before o (a ++ ss) (both (T.silence p) (leads t (a ++ ss))) ≡ before (before o a (both (T.silence p) (leads t a))) ss (both (both (T.silence p) (hush T a)) (leads t ss))
      by_entry p e None = ap (both (T.silence p)) e ∙ by_silence (T.silence p) (leads t a)
      by_entry p e (Some l) = ap Some (sym (append_assoc l a ss))

      by_view : (v : View Part) → leads t (a ++ ss) ≡ before (leads t a) ss (both (hush T a) (leads t ss))
          → lead_at T (enter T depth) t v s (a ++ ss) (leads t (a ++ ss)) ≡ before (lead_at T (enter T depth) t v s a (leads t a)) ss (both (hush_at T v s (hush T a)) (leads t ss))
      by_view token e = by_test (T.may s t)
      by_view done e = ap (after s) e ∙ by_done (leads t a)
      by_view (part p) e = by_entry p e (enter T depth p t)

  pub quiet_hushes : (q : List Symbol) → IsQuiet T q → hush T q ≡ Some q
  quiet_hushes [] h = refl
  quiet_hushes (s ∷ q) h = ap (λ v. hush_at T v s (hush T q)) h.0 ∙ ap (after s) (quiet_hushes q h.1)

  pub quiet_leads : (t : Token) (q : List Symbol) → IsQuiet T q → leads t q ≡ None
  quiet_leads t [] h = refl
  quiet_leads t (s ∷ q) h = ap (λ v. lead_at T (enter T depth) t v s q (leads t q)) h.0 ∙ ap (after s) (quiet_leads t q h.1)

  module _ (P : IsPredictive) where
    -- what stands behind a part of a stack doesn't bar it
    abbrev Follows : Part → List Symbol → Type 0
    Follows p ss = (t : Token) (l : List Symbol) → leads t ss ≡ Some l → P.bars p t ≡ false

    abbrev pub Good : List Symbol → Type 0
    Good [] = Unit {0}
    Good (s ∷ ss) = ((p : Part) → T.view s ≡ part p → Follows p ss) × Good ss

    good_quiet : (q ss : List Symbol) → IsQuiet T q → Good ss → Good (q ++ ss)
    good_quiet [] ss h g = g
    good_quiet (s ∷ q) ss h g = ((λ p e. absurd (let z : part p ≡ done = sym e ∙ h.0 in cc)), good_quiet q ss h.1 g)

    follows_behind : (p m : Part) (b ss : List Symbol) → Follows p ss
        → ((t : Token) → ((l : List Symbol) → leads t b ≡ Some l → P.bars m t ≡ false) × ((q : List Symbol) → hush T b ≡ Some q → P.bars m t ≡ true → P.bars p t ≡ true)) → Follows m (b ++ ss)
    follows_behind p m b ss f h t l e = by_lead (leads t b) refl (sym (lead_append t b ss) ∙ e)
      where
        by_bar : (c : Bool) → P.bars m t ≡ c → (P.bars m t ≡ true → P.bars p t ≡ true) → P.bars p t ≡ false → P.bars m t ≡ false
        by_bar false e g n = e
        by_bar true e g n = absurd (let z : true ≡ false = sym (g e) ∙ n in cc)

        by_lead : (o : Option (List Symbol)) → leads t b ≡ o → before o ss (both (hush T b) (leads t ss)) ≡ Some l → P.bars m t ≡ false
        by_lead (Some a) e h2 = (h t).0 a e
        by_lead None e h2 =
            let q = both_some (hush T b) (leads t ss) l h2 in
            by_bar (P.bars m t) refl ((h t).1 q.0 q.2) (f t q.1 q.3)

    good_tail : (p : Part) (ss : List Symbol) → Follows p ss → Good ss → (b : List Symbol) → EndsWell P.bars p b → Good (b ++ ss)
    good_tail p ss f g [] h = g
    good_tail p ss f g (s ∷ b) h = ((λ m e. follows_behind p m b ss f (h.0 m e)), good_tail p ss f g b h.1)

    -- a part leads where one of its rows does, and to the same line
    part_leads : (s : Symbol) (p : Part) (row ss l : List Symbol) (t : Token) → T.view s ≡ part p → Has (T.rows p) row → Good (s ∷ ss) → leads t (row ++ ss) ≡ Some l → leads t (s ∷ ss) ≡ Some l
    part_leads s p row ss l t v m g h = ap (λ v. lead_at T (enter T depth) t v s ss (leads t ss)) v ∙ by_lead (leads t row) refl (sym (lead_append t row ss) ∙ h)
      where
        by_entry : (q : List Symbol) → T.silence p ≡ Some q → (k : List Symbol) → leads t ss ≡ Some k → (o : Option (List Symbol)) → enter T depth p t ≡ o → o ≡ None
        by_entry q e k f None x = refl
        by_entry q e k f (Some a) x = absurd (let z : true ≡ false = sym (P.own p q a t e x) ∙ g.0 p v t k f in cc)

        by_lead : (o : Option (List Symbol)) → leads t row ≡ o → before o ss (both (hush T row) (leads t ss)) ≡ Some l → before (enter T depth p t) ss (both (T.silence p) (leads t ss)) ≡ Some l
        by_lead (Some a) e h2 = ap (λ o. before o ss (both (T.silence p) (leads t ss))) (P.entered p row a t m e) ∙ h2
        by_lead None e h2 =
            let q = both_some (hush T row) (leads t ss) l h2 in
            let silent = P.still p row q.0 m q.2 in
            let n : enter T depth p t ≡ None = by_entry q.0 silent q.1 q.3 (enter T depth p t) refl in
            ap (λ o. before o ss (both (T.silence p) (leads t ss))) n ∙ ap (λ o. both o (leads t ss)) (silent ∙ sym q.2) ∙ h2

    -- a part that is left out
    omitted_leads : (s : Symbol) (p : Part) (q ss l : List Symbol) (t : Token) → T.view s ≡ part p → T.silence p ≡ Some q → Good (s ∷ ss) → leads t (q ++ ss) ≡ Some l → leads t (s ∷ ss) ≡ Some l
    omitted_leads s p q ss l t v e g h =
        let quiet = P.quiet p q e in
        let whole : both (Some q) (leads t ss) ≡ Some l =
        sym (ap (λ o. before o ss (both (hush T q) (leads t ss))) (quiet_leads t q quiet) ∙ ap (λ o. both o (leads t ss)) (quiet_hushes q quiet)) ∙ sym (lead_append t q ss) ∙ h in
        ap (λ v. lead_at T (enter T depth) t v s ss (leads t ss)) v ∙ by_entry whole (enter T depth p t) refl
      where
        by_entry : both (Some q) (leads t ss) ≡ Some l → (o : Option (List Symbol)) → enter T depth p t ≡ o → before o ss (both (T.silence p) (leads t ss)) ≡ Some l
        by_entry w None x = ap (λ o. both o (leads t ss)) e ∙ w
        by_entry w (Some a) x =
            let k = both_some (Some q) (leads t ss) l w in
            absurd (let z : true ≡ false = sym (P.own p q a t e x) ∙ g.0 p v t k.1 k.3 in cc)

    -- the next step, which the token decides
    record Step (end : State → State) (ss : List Symbol) (state : State) (t : Token) (ts : List Token) (last : State) : Type 0 where
      line : List Symbol
      next : List Symbol × State
      leading : leads t ss ≡ Some line
      does : perform T line state t ≡ Some next
      derives : Derives T end next.0 (arrived T end ts next.1) ts last
      good : Good next.0

    step : {end : State → State} {ss : List Symbol} {state last : State} {t : Token} {ts : List Token} → Derives T end ss state (t ∷ ts) last → Good ss → Step end ss state t ts last
    step (takes {s = s} {ss = ss} {t = t} {state = state} v e d) g = record {
      line = s ∷ ss;
      next = (ss, T.taken s state t);
      leading = ap (λ v. lead_at T (enter T depth) t v s ss (leads t ss)) v ∙ some_if (T.may s t) (s ∷ ss) (P.fitting s state t e);
      does = ap (λ v. perform_at T v s ss state t (perform T ss (T.does s state) t)) v ∙ some_if (T.fits s state t) (ss, T.taken s state t) e;
      derives = d;
      good = g.1;
    }
    step {t = t} (acts {s = s} {ss = ss} {state = state} v d) g =
        let n = step d g.1 in
        record {
          line = s ∷ n.line;
          next = n.next;
          leading = ap (λ v. lead_at T (enter T depth) t v s ss (leads t ss)) v ∙ ap (after s) n.leading;
          does = ap (λ v. perform_at T v s n.line state t (perform T n.line (T.does s state) t)) v ∙ n.does;
          derives = n.derives;
          good = n.good;
        }
    step {t = t} (opens {s = s} {p = p} {row = row} {ss = ss} v m d) g =
        let n = step d (good_tail p ss (g.0 p v) g.1 row (P.behind p row m)) in
        record { line = n.line; next = n.next; leading = part_leads s p row ss n.line t v m g n.leading; does = n.does; derives = n.derives; good = n.good }
    step {t = t} (omits {s = s} {p = p} {line = q} {ss = ss} v e d) g =
        let n = step d (good_quiet q ss (P.quiet p q e) g.1) in
        record { line = n.line; next = n.next; leading = omitted_leads s p q ss n.line t v e g n.leading; does = n.does; derives = n.derives; good = n.good }

    -- what is derived at the end of the tokens
    record Last (ss : List Symbol) (state last : State) : Type 0 where
      line : List Symbol
      quiet : hush T ss ≡ Some line
      does : apply T line state ≡ last

    last_step : {end : State → State} {ss : List Symbol} {state last : State} → Derives T end ss state [] last → Last ss state last
    last_step ends = record { line = []; quiet = refl; does = refl }
    last_step (acts {s = s} {ss = ss} v d) = let n = last_step d in record { line = s ∷ n.line; quiet = ap (λ v. hush_at T v s (hush T ss)) v ∙ ap (after s) n.quiet; does = n.does }
    last_step (opens {s = s} {p = p} {row = row} {ss = ss} v m d) =
        let n = last_step d in
        let q = both_some (hush T row) (hush T ss) n.line (sym (hush_append row ss) ∙ n.quiet) in
        record {
          line = n.line;
          quiet = ap (λ v. hush_at T v s (hush T ss)) v ∙ ap (λ o. both o (hush T ss)) (P.still p row q.0 m q.2 ∙ sym q.2) ∙ sym (hush_append row ss) ∙ n.quiet;
          does = n.does;
        }
    last_step (omits {s = s} {p = p} {line = q} {ss = ss} v e d) =
        let n = last_step d in
        record {
          line = n.line;
          quiet = ap (λ v. hush_at T v s (hush T ss)) v ∙ ap (λ o. both o (hush T ss)) (e ∙ sym (quiet_hushes q (P.quiet p q e))) ∙ sym (hush_append q ss) ∙ n.quiet;
          does = n.does;
        }

    -- what is derived is read
    pub run_reads : (end : State → State) (ts : List Token) (ss : List Symbol) (state last : State) → Good ss → Derives T end ss state ts last → run T depth end ss state ts ≡ Ok last
    run_reads end [] ss state last g d = let n = last_step d in ap (λ o. finished T o state) n.quiet ∙ ap Ok n.does
    run_reads end (t ∷ ts) ss state last g d =
        let n = step d g in
        let more : List Symbol → State → Result State ℕ = λ ss state. run T depth end ss (arrived T end ts state) ts in
        ap (λ o. going_on T o more) (ap (λ o. performed T o state t) n.leading ∙ n.does) ∙ ap shifted (run_reads end ts n.next.0 (arrived T end ts n.next.1) last n.good n.derives)

    -- a stack of one symbol is good, since nothing stands behind it
    pub good_alone : (s : Symbol) → Good (s ∷ [])
    good_alone s = ((λ p v t l e. absurd cc), tt)
