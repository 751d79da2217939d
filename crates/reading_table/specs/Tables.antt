-- A table to read by, whatever its symbols, and what it is to be read by one.
use Rattle.std.specs.Prelude.{◌≡◌, List, [], ◌∷◌, ◌++◌, Bool, true, Option, Some}

-- what a symbol is: a token, something that is done, or a part that has lines of its own
pub data View (Part : Type 0) : Type 0 where
  token done : View Part
  part : Part → View Part

-- A table, over symbols, parts, tokens, and what has been read so far.
pub record Table (Symbol Part Token State : Type 0) : Type 0 where
  pub view : Symbol → View Part
  -- the lines of a part
  pub rows : Part → List (List Symbol)
  -- what is done where the part is read as nothing, if it may be
  pub silence : Part → Option (List Symbol)
  -- the token may stand for the symbol by what it is; it does by what has been read too
  pub may : Symbol → Token → Bool
  pub fits : Symbol → State → Token → Bool
  pub taken : Symbol → State → Token → State
  pub does : Symbol → State → State
  -- what comes with a token before it is taken
  pub brings : Token → State → State

pub data Has {A : Type 0} : List A → A → Type 0 where
  first : {x : A} {xs : List A} → Has (x ∷ xs) x
  later : {x y : A} {xs : List A} → Has xs x → Has (y ∷ xs) x

module _ {Symbol Part Token State : Type 0} (T : Table Symbol Part Token State) (end : State → State) where
  -- what comes before the next token, or before the end
  abbrev pub arrived : List Token → State → State
  arrived [] state = end state
  arrived (t ∷ ts) state = T.brings t state

  -- By these symbols, and with what has been read so far, the tokens are read to the other state.
  pub data Derives : List Symbol → State → List Token → State → Type 0 where
    ends : {state : State} → Derives [] state [] state
    takes : {s : Symbol} {ss : List Symbol} {t : Token} {ts : List Token} {state last : State}
        → T.view s ≡ token → T.fits s state t ≡ true → Derives ss (arrived ts (T.taken s state t)) ts last → Derives (s ∷ ss) state (t ∷ ts) last
    acts : {s : Symbol} {ss : List Symbol} {ts : List Token} {state last : State}
        → T.view s ≡ done → Derives ss (T.does s state) ts last → Derives (s ∷ ss) state ts last
    opens : {s : Symbol} {p : Part} {row ss : List Symbol} {ts : List Token} {state last : State}
        → T.view s ≡ part p → Has (T.rows p) row → Derives (row ++ ss) state ts last → Derives (s ∷ ss) state ts last
    omits : {s : Symbol} {p : Part} {line ss : List Symbol} {ts : List Token} {state last : State}
        → T.view s ≡ part p → T.silence p ≡ Some line → Derives (line ++ ss) state ts last → Derives (s ∷ ss) state ts last
