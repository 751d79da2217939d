-- What holds of a stack, and of what has been read, holds after each token; if each step keeps it, and each line in the place of a part does. Over any table.
use Rattle.std.proofs.Common.{◌≡◌, ℕ, zero, suc, List, [], ◌∷◌, ◌++◌, refl, sym, subst, Option, Some, None, append_assoc, append-nil}
use Rattle.reading_table.specs.Tables.{View, token, done, part, Table, Has}
use Rattle.reading_table.specs.Machine.{both, before, lead_at, lead, enter, perform_at, perform, performed, feed}
use Rattle.reading_table.proofs.Answers.{after_some, both_some, if_some, first_some_has}
use Rattle.reading_table.proofs.Sound.{IsQuiet, KeepsQuiet}
use Rattle.std.specs.Prelude.{true}

module _ {Symbol Part Token State A : Type 0} (T : Table Symbol Part Token State) (Fine : A → List Symbol → Type 0) (On : A → State → Type 0) (Goes : A → Token → A → Type 0) where
  -- after the first symbol something else holds of the rest, and whatever it holds of may stand there
  pub record After (a : A) (s : Symbol) (ss : List Symbol) (given : State → State) : Type 0 where
    pub then_fine : A
    pub fine : Fine then_fine ss
    pub back : (other : List Symbol) → Fine then_fine other → Fine a (s ∷ other)
    pub on : (state : State) → On a state → On then_fine (given state)
    pub goes : (t : Token) (c : A) → Goes then_fine t c → Goes a t c

  -- after a token
  pub record Fed (a : A) (t : Token) (next : List Symbol × State) : Type 0 where
    pub then_fine : A
    pub fine : Fine then_fine next.0
    pub on : On then_fine next.1
    pub goes : Goes a t then_fine

  pub record Kept : Type 0 where
    pub token_step : (a : A) (s : Symbol) (ss : List Symbol) (state : State) (t : Token) → T.view s ≡ token → T.fits s state t ≡ true → Fine a (s ∷ ss) → On a state → Fed a t (ss, T.taken s state t)
    pub quiet : KeepsQuiet T
    pub done_step : (a : A) (s : Symbol) (ss : List Symbol) → T.view s ≡ done → Fine a (s ∷ ss) → After a s ss (T.does s)
    pub row_step : (a : A) (s : Symbol) (p : Part) (row ss : List Symbol) → T.view s ≡ part p → Has (T.rows p) row → Fine a (s ∷ ss) → Fine a (row ++ ss)
    pub silent_step : (a : A) (s : Symbol) (p : Part) (line ss : List Symbol) → T.view s ≡ part p → T.silence p ≡ Some line → Fine a (s ∷ ss) → Fine a (line ++ ss)

  module _ (K : Kept) where
    Keeps : List Symbol → List Symbol → Type 0
    Keeps line l = (x : List Symbol) (a : A) → Fine a (line ++ x) → Fine a (l ++ x)

    behind : (q x y : List Symbol) (a : A) → IsQuiet T q → ((a : A) → Fine a x → Fine a y) → Fine a (q ++ x) → Fine a (q ++ y)
    behind [] x y a h f d = f a d
    behind (s ∷ q) x y a h f d = let n = K.done_step a s (q ++ x) h.0 d in n.back (q ++ y) (behind q x y n.then_fine h.1 f n.fine)

    Enters : Token → (Part → Token → Option (List Symbol)) → Type 0
    Enters t e = (p : Part) (l : List Symbol) → e p t ≡ Some l → (row : List Symbol) × Has (T.rows p) row × Keeps row l

    lead_keeps : (t : Token) (e : Part → Token → Option (List Symbol)) → Enters t e → (line l : List Symbol) → lead T e t line ≡ Some l → Keeps line l
    unfolding Keeps Enters
    lead_keeps t e he [] l h = absurd cc
    lead_keeps t e he (s ∷ ss) l h = by_view (lead_keeps t e he ss) (T.view s) refl h
      where
        by_entry : ((l : List Symbol) → lead T e t ss ≡ Some l → (x : List Symbol) (a : A) → Fine a (ss ++ x) → Fine a (l ++ x)) → (p : Part) → T.view s ≡ part p → (o : Option (List Symbol)) → e p t ≡ o
            → before o ss (both (T.silence p) (lead T e t ss)) ≡ Some l → (x : List Symbol) (a : A) → Fine a (s ∷ (ss ++ x)) → Fine a (l ++ x)
        by_entry go p v (Some b) eq h x a f =
            let q : b ++ ss ≡ l = cc in
            let r = he p b eq in
            subst (λ l. Fine a (l ++ x)) q (subst (λ m. Fine a m) (sym (append_assoc b ss x)) (r.2 (ss ++ x) a (K.row_step a s p r.0 (ss ++ x) v r.1 f)))
        by_entry go p v None eq h x a f =
            let q = both_some (T.silence p) (lead T e t ss) l h in
            let g : Fine a (q.0 ++ (q.1 ++ x)) = behind q.0 (ss ++ x) (q.1 ++ x) a (K.quiet p q.0 q.2) (λ a f. go q.1 q.3 x a f) (K.silent_step a s p q.0 (ss ++ x) v q.2 f) in
            subst (λ l. Fine a (l ++ x)) q.4 (subst (λ m. Fine a m) (sym (append_assoc q.0 q.1 x)) g)

        by_view : ((l : List Symbol) → lead T e t ss ≡ Some l → (x : List Symbol) (a : A) → Fine a (ss ++ x) → Fine a (l ++ x)) → (v : View Part) → T.view s ≡ v → lead_at T e t v s ss (lead T e t ss) ≡ Some l
            → (x : List Symbol) (a : A) → Fine a (s ∷ (ss ++ x)) → Fine a (l ++ x)
        by_view go token v h x a f = let p = if_some (T.may s t) (s ∷ ss) l h in subst (λ l. Fine a (l ++ x)) p.1 f
        by_view go done v h x a f =
            let p = after_some s (lead T e t ss) l h in
            let n = K.done_step a s (ss ++ x) v f in
            subst (λ l. Fine a (l ++ x)) p.2 (n.back (p.0 ++ x) (go p.0 p.1 x n.then_fine n.fine))
        by_view go (part p) v h x a f = by_entry go p v (e p t) refl h x a f

    enter_keeps : (depth : ℕ) (t : Token) → Enters t (enter T depth)
    unfolding Keeps Enters
    enter_keeps zero t p l h = absurd cc
    enter_keeps (suc depth) t p l h =
        let r = first_some_has (lead T (enter T depth) t) (T.rows p) l h in
        (r.0, r.1, lead_keeps t (enter T depth) (enter_keeps depth t) r.0 l r.2)

    perform_keeps : (l : List Symbol) (a : A) (state : State) (t : Token) (next : List Symbol × State) → Fine a l → On a state → perform T l state t ≡ Some next → Fed a t next
    perform_keeps [] a state t next f o h = absurd cc
    perform_keeps (s ∷ ss) a state t next f o h = by_view (λ b. perform_keeps ss b (T.does s state) t next) (T.view s) refl h
      where
        by_view : ((b : A) → Fine b ss → On b (T.does s state) → perform T ss (T.does s state) t ≡ Some next → Fed b t next) → (v : View Part) → T.view s ≡ v
            → perform_at T v s ss state t (perform T ss (T.does s state) t) ≡ Some next → Fed a t next
        by_view go token v h =
            let p = if_some (T.fits s state t) (ss, T.taken s state t) next h in
            subst (Fed a t) p.1 (K.token_step a s ss state t v p.0 f o)
        by_view go done v h =
            let n = K.done_step a s ss v f in
            let g = go n.then_fine n.fine (n.on state o) h in
            record { then_fine = g.then_fine; fine = g.fine; on = g.on; goes = n.goes t g.then_fine g.goes }
        by_view go (part p) v h = absurd cc

    pub feed_keeps : (depth : ℕ) (ss : List Symbol) (a : A) (state : State) (t : Token) (next : List Symbol × State) → Fine a ss → On a state → feed T depth ss state t ≡ Some next → Fed a t next
    unfolding Keeps Enters
    feed_keeps depth ss a state t next f o h = by_lead (lead T (enter T depth) t ss) refl h
      where
        by_lead : (q : Option (List Symbol)) → lead T (enter T depth) t ss ≡ q → performed T q state t ≡ Some next → Fed a t next
        by_lead None e h = absurd cc
        by_lead (Some l) e h =
            let k = lead_keeps t (enter T depth) (enter_keeps depth t) ss l e [] a (subst (Fine a) (sym (append-nil ss)) f) in
            perform_keeps l a state t next (subst (Fine a) (append-nil l) k) o h
