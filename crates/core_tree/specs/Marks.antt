-- What a unit's body numbers, in text order: calls, loops, asserts, and the objects that it declares.
use Rattle.std.specs.Prelude.{◌≡◌, ℕ, List, [], ◌∷◌, ◌++◌, map, Bool, true, false, ◌&&◌, ◌||◌, ◌==◌, nat_lt, Option, Some, None}
use Rattle.ada_tree.specs.declared.doc.DeclId.{DeclId}
use Rattle.core_tree.specs.Trees.{Expr, lit, truth, get, select, field, unary, binary, and_then, or_else, within, succ, pred, position, convert, call, fill, put, make, aggregate, given, Exprs, end, ◌&◌, Starts, none, start, Stmt, null, assign, call_of, branch, choose, forever, repeat, count, block, exit, give, raise, claim, Stmts, done, next, Choices, no_choice, choice, Catches, no_catch, catch}

pub data Mark : Type 0 where
  a_call : (number unit : ℕ) → Mark
  a_loop : (number : ℕ) → Mark
  an_assert : (number : ℕ) → Mark
  an_object : (object : ℕ) → Mark

abbrev mutual
  -- A call stands before those in its actuals.
  pub in_expr : Expr → List Mark
  in_expr (lit v) = []
  in_expr (truth b) = []
  in_expr (get o) = []
  in_expr (select a i) = in_expr a ++ in_expr i
  in_expr (field r c) = in_expr r
  in_expr (unary o a) = in_expr a
  in_expr (binary o a b) = in_expr a ++ in_expr b
  in_expr (and_then a b) = in_expr a ++ in_expr b
  in_expr (or_else a b) = in_expr a ++ in_expr b
  in_expr (within e l h) = in_expr e ++ (in_expr l ++ in_expr h)
  in_expr (succ e last) = in_expr e
  in_expr (pred e first last) = in_expr e
  in_expr (position e) = in_expr e
  in_expr (convert e s w) = in_expr e
  in_expr (call n u es) = a_call n u ∷ in_exprs es
  in_expr (fill n e) = in_expr e
  in_expr (put a i e) = in_expr a ++ in_expr e
  in_expr (make n es) = in_exprs es
  in_expr (aggregate es e) = in_exprs es ++ in_expr e
  in_expr (given k) = []

  pub in_exprs : Exprs → List Mark
  in_exprs end = []
  in_exprs (e & es) = in_expr e ++ in_exprs es

-- An object is declared behind its initial value.
abbrev pub in_starts : Starts → List Mark
in_starts none = []
in_starts (start o e ss) = in_expr e ++ (an_object o ∷ in_starts ss)

abbrev pub in_value : Option Expr → List Mark
in_value (Some e) = in_expr e
in_value None = []

abbrev mutual
  -- A loop's parameter is declared behind its bounds.
  pub in_stmt : Stmt → List Mark
  in_stmt null = []
  in_stmt (assign t v) = in_expr t ++ in_expr v
  in_stmt (call_of n u es) = a_call n u ∷ in_exprs es
  in_stmt (branch c a b) = in_expr c ++ (in_stmts a ++ in_stmts b)
  in_stmt (choose e cs) = in_expr e ++ in_choices cs
  in_stmt (forever n t ss) = a_loop n ∷ in_stmts ss
  in_stmt (repeat n c t ss) = a_loop n ∷ (in_expr c ++ in_stmts ss)
  in_stmt (count n o r l h t ss) = a_loop n ∷ (in_expr l ++ (in_expr h ++ (an_object o ∷ in_stmts ss)))
  in_stmt (block is ss hs) = in_starts is ++ (in_stmts ss ++ in_catches hs)
  in_stmt exit = []
  in_stmt (give e) = in_value e
  in_stmt (raise e) = []
  in_stmt (claim n t) = an_assert n ∷ []

  pub in_stmts : Stmts → List Mark
  in_stmts done = []
  in_stmts (next s ss) = in_stmt s ++ in_stmts ss

  pub in_choices : Choices → List Mark
  in_choices no_choice = []
  in_choices (choice low high ss cs) = in_stmts ss ++ in_choices cs

  pub in_catches : Catches → List Mark
  in_catches no_catch = []
  in_catches (catch es ss hs) = in_stmts ss ++ in_catches hs

-- ---- of one sort

-- the units that are called, and the calls' numbers
abbrev pub units_called : List Mark → List ℕ
units_called [] = []
units_called (a_call n u ∷ ms) = u ∷ units_called ms
units_called (a_loop n ∷ ms) = units_called ms
units_called (an_assert n ∷ ms) = units_called ms
units_called (an_object o ∷ ms) = units_called ms

abbrev pub calls : List Mark → List ℕ
calls [] = []
calls (a_call n u ∷ ms) = n ∷ calls ms
calls (a_loop n ∷ ms) = calls ms
calls (an_assert n ∷ ms) = calls ms
calls (an_object o ∷ ms) = calls ms

abbrev pub loops : List Mark → List ℕ
loops [] = []
loops (a_call n u ∷ ms) = loops ms
loops (a_loop n ∷ ms) = n ∷ loops ms
loops (an_assert n ∷ ms) = loops ms
loops (an_object o ∷ ms) = loops ms

abbrev pub asserts : List Mark → List ℕ
asserts [] = []
asserts (a_call n u ∷ ms) = asserts ms
asserts (a_loop n ∷ ms) = asserts ms
asserts (an_assert n ∷ ms) = n ∷ asserts ms
asserts (an_object o ∷ ms) = asserts ms

abbrev pub objects : List Mark → List ℕ
objects [] = []
objects (a_call n u ∷ ms) = objects ms
objects (a_loop n ∷ ms) = objects ms
objects (an_assert n ∷ ms) = objects ms
objects (an_object o ∷ ms) = o ∷ objects ms

-- ---- which units are called

abbrev pub has : List ℕ → ℕ → Bool
has [] n = false
has (m ∷ ms) n = m == n || has ms n

-- each number is above the one before
abbrev pub rises : List ℕ → Bool
rises [] = true
rises (m ∷ []) = true
rises (m ∷ n ∷ ns) = nat_lt m n && rises (n ∷ ns)

-- The numbers of the units that calls name, ascending, each once.
pub record AreMentioned (marks : List Mark) (ids : List DeclId) : Type 0 where
  pub ascending : rises (map (λ id. id.0) ids) ≡ true
  pub called : (unit : ℕ) → has (map (λ id. id.0) ids) unit ≡ has (units_called marks) unit
