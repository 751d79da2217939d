-- How the units that calls name are gathered: one part after another, and then each once.
use Rattle.std.specs.Prelude.{◌≡◌, ℕ, List, [], ◌∷◌, ◌++◌, Bool, false, nat_eq, if◌then◌else◌, Option, Some, None}
use Rattle.core_tree.specs.Trees.{Expr, lit, truth, get, select, field, unary, binary, and_then, or_else, within, succ, pred, position, convert, call, fill, put, make, aggregate, given, Exprs, end, ◌&◌, Starts, none, start, Stmt, null, assign, call_of, branch, choose, forever, repeat, count, block, exit, give, raise, claim, Stmts, done, next, Choices, no_choice, choice, Catches, no_catch, catch}
use Rattle.core_tree.specs.Marks.{has}

abbrev mutual
  -- these, and then those of an expression
  pub with_expr : List ℕ → Expr → List ℕ
  with_expr us (lit v) = us
  with_expr us (truth b) = us
  with_expr us (get o) = us
  with_expr us (select a i) = with_expr (with_expr us a) i
  with_expr us (field r c) = with_expr us r
  with_expr us (unary o a) = with_expr us a
  with_expr us (binary o a b) = with_expr (with_expr us a) b
  with_expr us (and_then a b) = with_expr (with_expr us a) b
  with_expr us (or_else a b) = with_expr (with_expr us a) b
  with_expr us (within e l h) = with_expr (with_expr (with_expr us e) l) h
  with_expr us (succ e last) = with_expr us e
  with_expr us (pred e first last) = with_expr us e
  with_expr us (position e) = with_expr us e
  with_expr us (convert e s w) = with_expr us e
  with_expr us (call n u es) = with_exprs (us ++ u ∷ []) es
  with_expr us (fill n e) = with_expr us e
  with_expr us (put a i e) = with_expr (with_expr us a) e
  with_expr us (make n es) = with_exprs us es
  with_expr us (aggregate es e) = with_expr (with_exprs us es) e
  with_expr us (given k) = us

  pub with_exprs : List ℕ → Exprs → List ℕ
  with_exprs us end = us
  with_exprs us (e & es) = with_exprs (with_expr us e) es

abbrev pub with_starts : List ℕ → Starts → List ℕ
with_starts us none = us
with_starts us (start o e ss) = with_starts (with_expr us e) ss

abbrev pub with_value : List ℕ → Option Expr → List ℕ
with_value us (Some e) = with_expr us e
with_value us None = us

abbrev mutual
  pub with_stmt : List ℕ → Stmt → List ℕ
  with_stmt us null = us
  with_stmt us (assign t v) = with_expr (with_expr us t) v
  with_stmt us (call_of n u es) = with_exprs (us ++ u ∷ []) es
  with_stmt us (branch c a b) = with_stmts (with_stmts (with_expr us c) a) b
  with_stmt us (choose e cs) = with_choices (with_expr us e) cs
  with_stmt us (forever n t ss) = with_stmts us ss
  with_stmt us (repeat n c t ss) = with_stmts (with_expr us c) ss
  with_stmt us (count n o r l h t ss) = with_stmts (with_expr (with_expr us l) h) ss
  with_stmt us (block is ss hs) = with_catches (with_stmts (with_starts us is) ss) hs
  with_stmt us exit = us
  with_stmt us (give e) = with_value us e
  with_stmt us (raise e) = us
  with_stmt us (claim n t) = us

  pub with_stmts : List ℕ → Stmts → List ℕ
  with_stmts us done = us
  with_stmts us (next s ss) = with_stmts (with_stmt us s) ss

  pub with_choices : List ℕ → Choices → List ℕ
  with_choices us no_choice = us
  with_choices us (choice low high ss cs) = with_choices (with_stmts us ss) cs

  pub with_catches : List ℕ → Catches → List ℕ
  with_catches us no_catch = us
  with_catches us (catch es ss hs) = with_catches (with_stmts us ss) hs

-- ---- each once

abbrev pub is_last : Option ℕ → ℕ → Bool
is_last (Some l) n = nat_eq l n
is_last None n = false

-- those that differ from the one before
abbrev pub once : Option ℕ → List ℕ → List ℕ
once last [] = []
once last (n ∷ ns) = if is_last last n then once (Some n) ns else n ∷ once (Some n) ns

-- the same numbers stand in both
abbrev pub IsSame : List ℕ → List ℕ → Type 0
IsSame ns ms = (unit : ℕ) → has ns unit ≡ has ms unit
