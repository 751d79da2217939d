-- Reading from the left, one token at a time, with a stack of what is still to be read.
use Rattle.std.specs.Prelude.{ℕ, zero, suc, List, [], ◌∷◌, ◌++◌, Option, Some, None, Result, Ok, Err, if◌then◌else◌}
use Rattle.reading_table.specs.Tables.{View, token, done, part, Table, arrived}

-- the first answer that is one
abbrev pub or_else : {B : Type 0} → Option B → Option B → Option B
or_else (Some y) other = Some y
or_else None other = other

abbrev pub first_some : {A B : Type 0} → (A → Option B) → List A → Option B
first_some f [] = None
first_some f (x ∷ xs) = or_else (f x) (first_some f xs)

abbrev pub after : {A : Type 0} → A → Option (List A) → Option (List A)
after s None = None
after s (Some line) = Some (s ∷ line)

abbrev pub both : {A : Type 0} → Option (List A) → Option (List A) → Option (List A)
both None b = None
both (Some a) None = None
both (Some a) (Some b) = Some (a ++ b)

-- before these, or else what there is without them
abbrev pub before : {A : Type 0} → Option (List A) → List A → Option (List A) → Option (List A)
before (Some line) ss other = Some (line ++ ss)
before None ss other = other

-- where a fault is: the number of tokens before it
abbrev pub shifted : {A : Type 0} → Result A ℕ → Result A ℕ
shifted (Ok a) = Ok a
shifted (Err n) = Err (suc n)

module _ {Symbol Part Token State : Type 0} (T : Table Symbol Part Token State) where
  abbrev pub hush_at : View Part → Symbol → Option (List Symbol) → Option (List Symbol)
  hush_at token s rest = None
  hush_at done s rest = after s rest
  hush_at (part p) s rest = both (T.silence p) rest

  -- the line without tokens and parts that a line may be
  abbrev pub hush : List Symbol → Option (List Symbol)
  hush [] = Some []
  hush (s ∷ ss) = hush_at (T.view s) s (hush ss)

  abbrev pub lead_at : (Part → Token → Option (List Symbol)) → Token → View Part → Symbol → List Symbol → Option (List Symbol) → Option (List Symbol)
  lead_at enter t token s ss rest = if T.may s t then Some (s ∷ ss) else None
  lead_at enter t done s ss rest = after s rest
  lead_at enter t (part p) s ss rest = before (enter p t) ss (both (T.silence p) rest)

  -- the line that a line is unfolded to, so that it begins with this token; `enter` says it of parts
  abbrev pub lead : (Part → Token → Option (List Symbol)) → Token → List Symbol → Option (List Symbol)
  lead enter t [] = None
  lead enter t (s ∷ ss) = lead_at enter t (T.view s) s ss (lead enter t ss)

  -- the same of a part, by parts within each other at most so deep
  abbrev pub enter : ℕ → Part → Token → Option (List Symbol)
  enter zero p t = None
  enter (suc depth) p t = first_some (lead (enter depth) t) (T.rows p)

  abbrev pub perform_at : View Part → Symbol → List Symbol → State → Token → Option (List Symbol × State) → Option (List Symbol × State)
  perform_at token s ss state t rest = if T.fits s state t then Some (ss, T.taken s state t) else None
  perform_at done s ss state t rest = rest
  perform_at (part p) s ss state t rest = None

  -- does what the line says up to its first token, which this is
  abbrev pub perform : List Symbol → State → Token → Option (List Symbol × State)
  perform [] state t = None
  perform (s ∷ ss) state t = perform_at (T.view s) s ss state t (perform ss (T.does s state) t)

  -- does what a line without tokens and parts says
  abbrev pub apply : List Symbol → State → State
  apply [] state = state
  apply (s ∷ ss) state = apply ss (T.does s state)

  abbrev pub performed : Option (List Symbol) → State → Token → Option (List Symbol × State)
  performed (Some line) state t = perform line state t
  performed None state t = None

  -- the stack and the state after a token, or none where it isn't admitted
  abbrev pub feed : ℕ → List Symbol → State → Token → Option (List Symbol × State)
  feed depth ss state t = performed (lead (enter depth) t ss) state t

  abbrev pub finished : Option (List Symbol) → State → Result State ℕ
  finished (Some line) state = Ok (apply line state)
  finished None state = Err 0

  abbrev pub going_on : Option (List Symbol × State) → (List Symbol → State → Result State ℕ) → Result State ℕ
  going_on (Some next) more = shifted (more next.0 next.1)
  going_on None more = Err 0

  -- all tokens
  abbrev pub run : ℕ → (State → State) → List Symbol → State → List Token → Result State ℕ
  run depth end ss state [] = finished (hush ss) state
  run depth end ss state (t ∷ ts) = going_on (feed depth ss state t) (λ ss state. run depth end ss (arrived T end ts state) ts)
