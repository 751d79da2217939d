-- What a token makes of a stack, by what is next on it.
use Rattle.std.proofs.Common.{◌≡◌, ℕ, List, [], ◌∷◌, ◌++◌, refl, Option, Some, None, Bool, true, false, if◌then◌else◌}
use Rattle.reading_table.proofs.Sound.{IsQuiet}
use Rattle.reading_table.specs.Machine.{after, both, lead, enter, perform, apply, performed, feed}
use Rattle.reading_table.specs.Tables.{token, done, part, Table}

module _ {Symbol Part Token State : Type 0} (T : Table Symbol Part Token State) where
  perform_quiet : (q l : List Symbol) (state : State) (t : Token) → IsQuiet T q → perform T (q ++ l) state t ≡ perform T l (apply T q state) t
  perform_quiet [] l state t h = refl
  perform_quiet (s ∷ q) l state t h = rw h.0 (perform_quiet q l (T.does s state) t h.1)

  -- the token stands for a symbol, or it doesn't
  pub fed_token : (depth : ℕ) (t : Token) (s : Symbol) (ss : List Symbol) (state : State) → T.view s ≡ token → (T.fits s state t ≡ true → T.may s t ≡ true)
      → feed T depth (s ∷ ss) state t ≡ perform T (s ∷ ss) state t
  fed_token depth t s ss state v h = rw v (by_test (T.may s t) (T.fits s state t) refl refl)
    where
      by_test : (b c : Bool) → T.may s t ≡ b → T.fits s state t ≡ c → performed T (if b then Some (s ∷ ss) else None) state t ≡ (if c then Some (ss, T.taken s state t) else None)
      by_test true c e f = rw (v, f) refl
      by_test false false e f = refl
      by_test false true e f = absurd (let g = h f in cc)

  pub fed_done : (depth : ℕ) (t : Token) (s : Symbol) (ss : List Symbol) (state : State) → T.view s ≡ done → feed T depth (s ∷ ss) state t ≡ feed T depth ss (T.does s state) t
  fed_done depth t s ss state v = rw v (by_lead (lead T (enter T depth) t ss))
    where
      by_lead : (o : Option (List Symbol)) → performed T (after s o) state t ≡ performed T o (T.does s state) t
      by_lead None = refl
      by_lead (Some l) = rw v refl

  pub fed_line : (depth : ℕ) (t : Token) (s : Symbol) (p : Part) (ss line : List Symbol) (state : State) → T.view s ≡ part p → enter T depth p t ≡ Some line
      → feed T depth (s ∷ ss) state t ≡ perform T (line ++ ss) state t
  fed_line depth t s p ss line state v e = rw (v, e) refl

  pub fed_silent : (depth : ℕ) (t : Token) (s : Symbol) (p : Part) (ss q : List Symbol) (state : State) → T.view s ≡ part p → enter T depth p t ≡ None → T.silence p ≡ Some q → IsQuiet T q
      → feed T depth (s ∷ ss) state t ≡ feed T depth ss (apply T q state) t
  fed_silent depth t s p ss q state v e i h = rw (v, e, i) (by_lead (lead T (enter T depth) t ss))
    where
      by_lead : (o : Option (List Symbol)) → performed T (both (Some q) o) state t ≡ performed T o (apply T q state) t
      by_lead None = refl
      by_lead (Some l) = perform_quiet q l state t h

  pub fed_refused : (depth : ℕ) (t : Token) (s : Symbol) (p : Part) (ss : List Symbol) (state : State) → T.view s ≡ part p → enter T depth p t ≡ None → T.silence p ≡ None
      → feed T depth (s ∷ ss) state t ≡ None
  fed_refused depth t s p ss state v e i = rw (v, e, i) refl
