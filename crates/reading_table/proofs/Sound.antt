-- What is read is derived.
use Rattle.std.proofs.Common.{◌≡◌, ℕ, zero, suc, List, [], ◌∷◌, ◌++◌, refl, sym, ◌∙◌, subst, Option, Some, None, append_assoc, append-nil, Result, Ok, Err}
use Rattle.reading_table.specs.Tables.{View, token, done, part, Table, Has, arrived, Derives, ends, takes, acts, opens, omits}
use Rattle.reading_table.specs.Machine.{both, before, hush_at, hush, lead_at, lead, enter, perform_at, perform, apply, performed, feed, finished, going_on, shifted, run}
use Rattle.reading_table.proofs.Answers.{after_some, both_some, if_some, first_some_has}

module _ {Symbol Part Token State : Type 0} (T : Table Symbol Part Token State) where
  -- a line without tokens and parts
  abbrev pub IsQuiet : List Symbol → Type 0
  IsQuiet [] = Unit {0}
  IsQuiet (s ∷ ss) = (T.view s ≡ done) × IsQuiet ss

  -- what is said where a part is read as nothing is such a line
  abbrev pub KeepsQuiet : Type 0
  KeepsQuiet = (p : Part) (q : List Symbol) → T.silence p ≡ Some q → IsQuiet q

  pub apply_append : (a b : List Symbol) (state : State) → apply T (a ++ b) state ≡ apply T b (apply T a state)
  apply_append [] b state = refl
  apply_append (s ∷ a) b state = apply_append a b (T.does s state)

module _ {Symbol Part Token State : Type 0} (T : Table Symbol Part Token State) (end : State → State) where
  pub quiet_done : (q x : List Symbol) (state last : State) (ts : List Token) → IsQuiet T q → Derives T end x (apply T q state) ts last → Derives T end (q ++ x) state ts last
  quiet_done [] x state last ts h d = d
  quiet_done (s ∷ q) x state last ts h d = acts h.0 (quiet_done q x (T.does s state) last ts h.1 d)

  -- what stands behind such a line may be changed for what derives as much
  behind : (q x y : List Symbol) (state last : State) (ts : List Token) → IsQuiet T q
      → ((state last : State) (ts : List Token) → Derives T end x state ts last → Derives T end y state ts last) → Derives T end (q ++ x) state ts last → Derives T end (q ++ y) state ts last
  behind [] x y state last ts h f d = f state last ts d
  behind (s ∷ q) x y state last ts h f (takes e g d) = absurd (let z : token ≡ done = sym e ∙ h.0 in cc)
  behind (s ∷ q) x y state last ts h f (acts e d) = acts e (behind q x y (T.does s state) last ts h.1 f d)
  behind (s ∷ q) x y state last ts h f (opens {p = p} e m d) = absurd (let z : part p ≡ done = sym e ∙ h.0 in cc)
  behind (s ∷ q) x y state last ts h f (omits {p = p} e m d) = absurd (let z : part p ≡ done = sym e ∙ h.0 in cc)

  -- a line that may be nothing, and the line that it then is
  abbrev pub Stands : List Symbol → List Symbol → Type 0
  Stands line q = (x : List Symbol) (state last : State) (ts : List Token) → Derives T end x (apply T q state) ts last → Derives T end (line ++ x) state ts last

  pub hush_stands : KeepsQuiet T → (line q : List Symbol) → hush T line ≡ Some q → Stands line q
  hush_stands k [] q h = let e : [] ≡ q = cc in subst (Stands []) e (λ x state last ts d. d)
  hush_stands k (s ∷ ss) q h = by_view (hush_stands k ss) (T.view s) refl h
    where
      by_view : ((q : List Symbol) → hush T ss ≡ Some q → Stands ss q) → (v : View Part) → T.view s ≡ v → hush_at T v s (hush T ss) ≡ Some q → Stands (s ∷ ss) q
      by_view go token e h = absurd cc
      by_view go done e h =
          let p = after_some s (hush T ss) q h in
          subst (Stands (s ∷ ss)) p.2 (λ x state last ts d. acts e (go p.0 p.1 x (T.does s state) last ts d))
      by_view go (part r) e h =
          let p = both_some (T.silence r) (hush T ss) q h in
          subst (Stands (s ∷ ss)) p.4 (λ x state last ts d.
          omits e p.2 (quiet_done p.0 (ss ++ x) state last ts (k r p.0 p.2) (go p.1 p.3 x (apply T p.0 state) last ts (subst (λ u. Derives T end x u ts last) (apply_append T p.0 p.1 state) d))))

  -- what a line may be unfolded to
  abbrev pub Unfolds : List Symbol → List Symbol → Type 0
  Unfolds line l = (x : List Symbol) (state last : State) (ts : List Token) → Derives T end (l ++ x) state ts last → Derives T end (line ++ x) state ts last

  abbrev pub Enters : Token → (Part → Token → Option (List Symbol)) → Type 0
  Enters t e = (p : Part) (l : List Symbol) → e p t ≡ Some l → (row : List Symbol) × Has (T.rows p) row × Unfolds row l

  pub lead_unfolds : KeepsQuiet T → (t : Token) (e : Part → Token → Option (List Symbol)) → Enters t e → (line l : List Symbol) → lead T e t line ≡ Some l → Unfolds line l
  lead_unfolds k t e he [] l h = absurd cc
  lead_unfolds k t e he (s ∷ ss) l h = by_view (lead_unfolds k t e he ss) (T.view s) refl h
    where
      by_entry : ((l : List Symbol) → lead T e t ss ≡ Some l → Unfolds ss l) → (p : Part) → T.view s ≡ part p → (o : Option (List Symbol)) → e p t ≡ o
          → before o ss (both (T.silence p) (lead T e t ss)) ≡ Some l → Unfolds (s ∷ ss) l
      by_entry go p v (Some a) eq h =
          let q : a ++ ss ≡ l = cc in
          let r = he p a eq in
          subst (Unfolds (s ∷ ss)) q (λ x state last ts d. opens v r.1 (r.2 (ss ++ x) state last ts (subst (λ m. Derives T end m state ts last) (append_assoc a ss x) d)))
      by_entry go p v None eq h =
          let q = both_some (T.silence p) (lead T e t ss) l h in
          subst (Unfolds (s ∷ ss)) q.4 (λ x state last ts d. omits v q.2 (behind q.0 (q.1 ++ x) (ss ++ x) state last ts (k p q.0 q.2) (go q.1 q.3 x) (subst (λ m. Derives T end m state ts last) (append_assoc q.0 q.1 x) d)))

      by_view : ((l : List Symbol) → lead T e t ss ≡ Some l → Unfolds ss l) → (v : View Part) → T.view s ≡ v → lead_at T e t v s ss (lead T e t ss) ≡ Some l → Unfolds (s ∷ ss) l
      by_view go token v h = let p = if_some (T.may s t) (s ∷ ss) l h in subst (Unfolds (s ∷ ss)) p.1 (λ x state last ts d. d)
      by_view go done v h =
          let p = after_some s (lead T e t ss) l h in
          subst (Unfolds (s ∷ ss)) p.2 (λ x state last ts d. behind (s ∷ []) (p.0 ++ x) (ss ++ x) state last ts (v, tt) (go p.0 p.1 x) d)
      by_view go (part p) v h = by_entry go p v (e p t) refl h

  pub enter_enters : KeepsQuiet T → (depth : ℕ) (t : Token) → Enters t (enter T depth)
  enter_enters k zero t p l h = absurd cc
  enter_enters k (suc depth) t p l h =
      let r = first_some_has (lead T (enter T depth) t) (T.rows p) l h in
      (r.0, r.1, lead_unfolds k t (enter T depth) (enter_enters k depth t) r.0 l r.2)

  -- what a line does up to its first token
  pub perform_derives : (l : List Symbol) (state last : State) (t : Token) (ts : List Token) (next : List Symbol × State)
      → perform T l state t ≡ Some next → Derives T end next.0 (arrived T end ts next.1) ts last → Derives T end l state (t ∷ ts) last
  perform_derives [] state last t ts next h d = absurd cc
  perform_derives (s ∷ ss) state last t ts next h d = by_view (λ h. perform_derives ss (T.does s state) last t ts next h d) (T.view s) refl h
    where
      by_view : (perform T ss (T.does s state) t ≡ Some next → Derives T end ss (T.does s state) (t ∷ ts) last) → (v : View Part) → T.view s ≡ v
          → perform_at T v s ss state t (perform T ss (T.does s state) t) ≡ Some next → Derives T end (s ∷ ss) state (t ∷ ts) last
      by_view go token v h =
          let p = if_some (T.fits s state t) (ss, T.taken s state t) next h in
          takes v p.0 (subst (λ n. Derives T end n.0 (arrived T end ts n.1) ts last) (sym p.1) d)
      by_view go done v h = acts v (go h)
      by_view go (part p) v h = absurd cc

  pub feed_derives : KeepsQuiet T → (depth : ℕ) (ss : List Symbol) (state last : State) (t : Token) (ts : List Token) (next : List Symbol × State)
      → feed T depth ss state t ≡ Some next → Derives T end next.0 (arrived T end ts next.1) ts last → Derives T end ss state (t ∷ ts) last
  feed_derives k depth ss state last t ts next h d = by_lead (lead T (enter T depth) t ss) refl h
    where
      by_lead : (o : Option (List Symbol)) → lead T (enter T depth) t ss ≡ o → performed T o state t ≡ Some next → Derives T end ss state (t ∷ ts) last
      by_lead None e h = absurd cc
      by_lead (Some l) e h =
          let u = lead_unfolds k t (enter T depth) (enter_enters k depth t) ss l e in
          let y = perform_derives l state last t ts next h d in
          subst (λ m. Derives T end m state (t ∷ ts) last) (append-nil ss) (u [] state last (t ∷ ts) (subst (λ m. Derives T end m state (t ∷ ts) last) (sym (append-nil l)) y))

  -- what is read is derived
  pub run_derives : KeepsQuiet T → (depth : ℕ) (ts : List Token) (ss : List Symbol) (state last : State) → run T depth end ss state ts ≡ Ok last → Derives T end ss state ts last
  run_derives k depth [] ss state last h = by_hush (hush T ss) refl h
    where
      by_hush : (o : Option (List Symbol)) → hush T ss ≡ o → finished T o state ≡ Ok last → Derives T end ss state [] last
      by_hush None e h = absurd cc
      by_hush (Some q) e h =
          let g : apply T q state ≡ last = cc in
          subst (λ m. Derives T end m state [] last) (append-nil ss) (hush_stands k ss q e [] state last [] (subst (λ u. Derives T end [] u [] last) (sym g) ends))
  run_derives k depth (t ∷ ts) ss state last h = by_feed (λ next. run_derives k depth ts next.0 (arrived T end ts next.1) last) (feed T depth ss state t) refl h
    where
      shifted_ok : (r : Result State ℕ) → shifted r ≡ Ok last → r ≡ Ok last
      shifted_ok (Ok a) h = h
      shifted_ok (Err n) h = absurd cc

      by_feed : ((next : List Symbol × State) → run T depth end next.0 (arrived T end ts next.1) ts ≡ Ok last → Derives T end next.0 (arrived T end ts next.1) ts last)
          → (o : Option (List Symbol × State)) → feed T depth ss state t ≡ o
          → going_on T o (λ ss state. run T depth end ss (arrived T end ts state) ts) ≡ Ok last → Derives T end ss state (t ∷ ts) last
      by_feed go None e h = absurd cc
      by_feed go (Some next) e h = feed_derives k depth ss state last t ts next e (go next (shifted_ok (run T depth end next.0 (arrived T end ts next.1) ts) h))
