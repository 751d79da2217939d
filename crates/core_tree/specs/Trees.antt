-- The core as plain data: what definitions by recursion are written over. It has the variants of `CoreExpr` and `CoreStmt`, one for one.
use Rattle.std.specs.Prelude.{ℕ, ℤ, List, [], ◌∷◌, map, Bool, Option}
use Rattle.term_core.specs.declared.sort.Sort.{Sort}
use Rattle.term_core.specs.declared.term.Oper.{Oper}
use Rattle.term_core.specs.declared.term.Term.{Term}
use Rattle.core_tree.specs.declared.expr.CoreExpr.{CoreExpr}
use Rattle.core_tree.specs.declared.expr.CoreExpr.TheOpen.{CoreExpr-F}
use Rattle.core_tree.specs.declared.expr.CoreExpr.TheFolds.{fold-CoreExpr}
use Rattle.core_tree.specs.declared.stmt.Init.{Init}
use Rattle.core_tree.specs.declared.stmt.CoreStmt.{CoreStmt}
use Rattle.core_tree.specs.declared.stmt.CoreStmt.TheOpen.{CoreStmt-F, Alt-F, Handler-F}
use Rattle.core_tree.specs.declared.stmt.Alt.{Alt}
use Rattle.core_tree.specs.declared.stmt.Handler.{Handler}
use Rattle.core_tree.specs.declared.stmt.CoreStmt.TheFolds.{fold-CoreStmt, fold-Alt, fold-Handler}

infixr 5 ◌&◌
mutual
  pub data Expr : Type 0 where
    lit : ℤ → Expr
    truth : Bool → Expr
    get : (object : ℕ) → Expr
    select : (array index : Expr) → Expr
    field : Expr → (component : ℕ) → Expr
    unary : Oper → Expr → Expr
    binary : Oper → Expr → Expr → Expr
    and_then : Expr → Expr → Expr
    or_else : Expr → Expr → Expr
    within : Expr → (low high : Expr) → Expr
    succ : Expr → (last : ℤ) → Expr
    pred : Expr → (first last : ℤ) → Expr
    position : Expr → Expr
    convert : Expr → (subtype whole : Sort) → Expr
    call : (number unit : ℕ) → (actuals : Exprs) → Expr
    fill : (entry : ℕ) → Expr → Expr
    put : (array : Expr) → (index : ℤ) → Expr → Expr
    make : (entry : ℕ) → Exprs → Expr
    aggregate : (values : Exprs) → Expr → Expr
    given : (value : ℕ) → Expr

  pub data Exprs : Type 0 where
    end : Exprs
    ◌&◌ : Expr → Exprs → Exprs

-- the initial values of objects, by the objects' numbers
pub data Starts : Type 0 where
  none : Starts
  start : (object : ℕ) → Expr → Starts → Starts

mutual
  pub data Stmt : Type 0 where
    null : Stmt
    assign : (target value : Expr) → Stmt
    call_of : (number unit : ℕ) → (actuals : Exprs) → Stmt
    branch : (condition : Expr) → (yes no : Stmts) → Stmt
    choose : Expr → Choices → Stmt
    forever : (number : ℕ) → (invariant : Term) → Stmts → Stmt
    repeat : (number : ℕ) → (condition : Expr) → (invariant : Term) → Stmts → Stmt
    count : (number object : ℕ) → (reverse : Bool) → (low high : Expr) → (invariant : Term) → Stmts → Stmt
    block : Starts → Stmts → Catches → Stmt
    exit : Stmt
    give : Option Expr → Stmt
    raise : (exception : Option ℕ) → Stmt
    claim : (number : ℕ) → Term → Stmt

  pub data Stmts : Type 0 where
    done : Stmts
    next : Stmt → Stmts → Stmts

  -- the alternatives of a case: the low and the high bounds of each, none for `others`
  pub data Choices : Type 0 where
    no_choice : Choices
    choice : (low high : List ℤ) → Stmts → Choices → Choices

  -- handlers: the exceptions that each names, none for `others`
  pub data Catches : Type 0 where
    no_catch : Catches
    catch : (exceptions : List ℕ) → Stmts → Catches → Catches

-- ---- those of core

abbrev pub exprs_from : List Expr → Exprs
exprs_from [] = end
exprs_from (e ∷ es) = e & exprs_from es

abbrev pub expr_step : CoreExpr-F Expr → Expr
expr_step (CoreExpr-F.Lit v) = lit v
expr_step (CoreExpr-F.Truth b) = truth b
expr_step (CoreExpr-F.Get o) = get o
expr_step (CoreExpr-F.Select a i) = select a i
expr_step (CoreExpr-F.Field r c) = field r c
expr_step (CoreExpr-F.Unary o a) = unary o a
expr_step (CoreExpr-F.Binary o a b) = binary o a b
expr_step (CoreExpr-F.AndThen a b) = and_then a b
expr_step (CoreExpr-F.OrElse a b) = or_else a b
expr_step (CoreExpr-F.Within e l h) = within e l h
expr_step (CoreExpr-F.Succ e last) = succ e last
expr_step (CoreExpr-F.Pred e first last) = pred e first last
expr_step (CoreExpr-F.Pos e) = position e
expr_step (CoreExpr-F.Convert e s w) = convert e s w
expr_step (CoreExpr-F.Call n u es) = call n u.0 (exprs_from es)
expr_step (CoreExpr-F.Fill n e) = fill n e
expr_step (CoreExpr-F.Put a i e) = put a i e
expr_step (CoreExpr-F.Make n es) = make n (exprs_from es)
expr_step (CoreExpr-F.Aggregate es e) = aggregate (exprs_from es) e
expr_step (CoreExpr-F.Given n) = given n

abbrev pub expr_of : CoreExpr → Expr
expr_of = fold-CoreExpr Expr expr_step

abbrev pub exprs_of : List CoreExpr → Exprs
exprs_of es = exprs_from (map expr_of es)

abbrev pub starts_of : List Init → Starts
starts_of [] = none
starts_of (i ∷ is) = start i.object (expr_of i.value) (starts_of is)

abbrev pub value_of : Option CoreExpr → Option Expr
value_of (Option.Some e) = Option.Some (expr_of e)
value_of Option.None = Option.None

abbrev pub stmts_from : List Stmt → Stmts
stmts_from [] = done
stmts_from (s ∷ ss) = next s (stmts_from ss)

-- an alternative, or a handler, before others
abbrev pub Choice : Type 0
Choice = Choices → Choices

abbrev pub Catch : Type 0
Catch = Catches → Catches

abbrev pub choices_from : List Choice → Choices
choices_from [] = no_choice
choices_from (c ∷ cs) = c (choices_from cs)

abbrev pub catches_from : List Catch → Catches
catches_from [] = no_catch
catches_from (c ∷ cs) = c (catches_from cs)

abbrev pub stmt_step : CoreStmt-F Stmt Choice Catch → Stmt
stmt_step CoreStmt-F.Null = null
stmt_step (CoreStmt-F.Assign t v) = assign (expr_of t) (expr_of v)
stmt_step (CoreStmt-F.Call n u es) = call_of n u.0 (exprs_of es)
stmt_step (CoreStmt-F.If c a b) = branch (expr_of c) (stmts_from a) (stmts_from b)
stmt_step (CoreStmt-F.Case e cs) = choose (expr_of e) (choices_from cs)
stmt_step (CoreStmt-F.Loop n t ss) = forever n t (stmts_from ss)
stmt_step (CoreStmt-F.While n c t ss) = repeat n (expr_of c) t (stmts_from ss)
stmt_step (CoreStmt-F.For n o r l h t ss) = count n o r (expr_of l) (expr_of h) t (stmts_from ss)
stmt_step (CoreStmt-F.Block is ss hs) = block (starts_of is) (stmts_from ss) (catches_from hs)
stmt_step CoreStmt-F.Exit = exit
stmt_step (CoreStmt-F.Return e) = give (value_of e)
stmt_step (CoreStmt-F.Raise e) = raise e
stmt_step (CoreStmt-F.Assert n t) = claim n t

abbrev pub choice_step : Alt-F Stmt Choice Catch → Choice
choice_step a = choice a.low a.high (stmts_from a.body)

abbrev pub catch_step : Handler-F Stmt Choice Catch → Catch
catch_step h = catch h.exceptions (stmts_from h.body)

abbrev pub stmt_of : CoreStmt → Stmt
stmt_of = fold-CoreStmt Stmt Choice Catch stmt_step choice_step catch_step

abbrev pub alt_of : Alt → Choice
alt_of = fold-Alt Stmt Choice Catch stmt_step choice_step catch_step

abbrev pub handler_of : Handler → Catch
handler_of = fold-Handler Stmt Choice Catch stmt_step choice_step catch_step
