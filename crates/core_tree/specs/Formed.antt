-- Well-formed core: what holds of every unit that was checked.
use Rattle.std.specs.Prelude.{◌≡◌, ℕ, ◌+◌, List, [], ◌∷◌, ◌++◌, map, length, take, slice_get, nat_lt, Bool, true, false, not, ◌&&◌, ◌||◌, ◌==◌, if◌then◌else◌, Option, Some, None}
use Rattle.std.specs.Option.{option_map_or}
use Rattle.std.specs.List.{list_all}
use Rattle.term_core.specs.declared.sequent.Var.{Var}
use Rattle.term_core.specs.Names as names
use Rattle.term_sorts.specs.Sorting as sorting
use Rattle.term_sorts.specs.declared.sorting.OpSort.{OpSort}
use Rattle.ada_tree.specs.Nodes.{is_empty}
use Rattle.core_tree.specs.declared.spec.Mode.{Mode}
use Rattle.core_tree.specs.declared.spec.Mode.TheVariants as mode
use Rattle.core_tree.specs.declared.spec.Formal.{Formal}
use Rattle.core_tree.specs.declared.spec.Spec.{Spec}
use Rattle.core_tree.specs.declared.units.UnitSpec.{UnitSpec}
use Rattle.core_tree.specs.declared.unit.CoreUnit.{CoreUnit}
use Rattle.core_tree.specs.Trees.{Expr, lit, truth, get, select, field, unary, binary, and_then, or_else, within, succ, pred, position, convert, call, fill, put, make, aggregate, given, Exprs, end, ◌&◌, Starts, none, start, Stmt, null, assign, call_of, branch, choose, forever, repeat, count, block, exit, give, raise, claim, Stmts, done, next, Choices, no_choice, choice, Catches, no_catch, catch, stmt_of}
use Rattle.core_tree.specs.Marks.{in_stmt, in_stmts, calls, loops, asserts, objects, has}
use Rattle.core_tree.specs.Sorts.{spec_of, result_of, is_typed}

-- What a document tells of a unit's surroundings, beside the unit.
pub record Around : Type 0 where
  pub specs : List UnitSpec
  pub ops : List OpSort
  -- how many exceptions there are
  pub exceptions : ℕ
  -- the unit's own objects that are declared as constants
  pub constants : List ℕ

-- What stands round a statement: the objects in scope, those of them that nothing may change, and whether `exit` and `raise;` may stand there.
pub record Here : Type 0 where
  pub scope : List ℕ
  pub fixed : List ℕ
  pub in_loop : Bool
  pub handles : Bool

-- ---- expressions

-- an object or a part of one, which may be changed
abbrev pub is_place : List ℕ → Expr → Bool
is_place fixed (get o) = not (has fixed o)
is_place fixed (select a i) = is_place fixed a
is_place fixed (field r c) = is_place fixed r
is_place fixed _ = false

abbrev pub is_in : Mode → Bool
is_in mode.In = true
is_in _ = false

-- the actuals of formals that aren't `in` are places
abbrev pub are_places : List ℕ → List Formal → Exprs → Bool
are_places fixed (f ∷ fs) (e & es) = (is_in f.mode || is_place fixed e) && are_places fixed fs es
are_places fixed _ _ = true

abbrev pub formals_of : Option Spec → List Formal
formals_of (Some s) = s.formals
formals_of None = []

-- the values of an aggregate in place
abbrev pub are_given : Exprs → Bool
are_given end = true
are_given (given k & es) = are_given es
are_given (_ & es) = false

-- the second part of an aggregate: a record, or one value everywhere and then others at some indexes
abbrev pub is_shape : Expr → Bool
is_shape (fill n (given k)) = true
is_shape (put a i (given k)) = is_shape a
is_shape (make n es) = are_given es
is_shape _ = false

module _ (a : Around) (h : Here) where
  abbrev pub places_fit : ℕ → Exprs → Bool
  places_fit u es = are_places h.fixed (formals_of (spec_of a.specs u)) es

  -- Objects are in scope, actuals that are written are places, and aggregates have their shape.
  abbrev mutual
    pub expr_formed : Expr → Bool
    expr_formed (lit v) = true
    expr_formed (truth b) = true
    expr_formed (get o) = has h.scope o
    expr_formed (select x i) = expr_formed x && expr_formed i
    expr_formed (field r c) = expr_formed r
    expr_formed (unary o x) = expr_formed x
    expr_formed (binary o x y) = expr_formed x && expr_formed y
    expr_formed (and_then x y) = expr_formed x && expr_formed y
    expr_formed (or_else x y) = expr_formed x && expr_formed y
    expr_formed (within e low high) = expr_formed e && (expr_formed low && expr_formed high)
    expr_formed (succ e last) = expr_formed e
    expr_formed (pred e first last) = expr_formed e
    expr_formed (position e) = expr_formed e
    expr_formed (convert e s w) = expr_formed e
    expr_formed (call n u es) = places_fit u es && exprs_formed es
    expr_formed (aggregate es e) = exprs_formed es && is_shape e
    -- these stand in the second part of an aggregate alone
    expr_formed (fill n e) = false
    expr_formed (put x i e) = false
    expr_formed (make n es) = false
    expr_formed (given k) = false

    pub exprs_formed : Exprs → Bool
    exprs_formed end = true
    exprs_formed (e & es) = expr_formed e && exprs_formed es

  abbrev pub value_formed : Option Expr → Bool
  value_formed (Some e) = expr_formed e
  value_formed None = true

-- ---- numbers

-- from n on, each is one more than the one before
abbrev pub counts_from : ℕ → List ℕ → Bool
counts_from n [] = true
counts_from n (m ∷ ms) = m == n && counts_from (n + 1) ms

abbrev pub all_below : ℕ → List ℕ → Bool
all_below n ms = list_all (λ m. nat_lt m n) ms

abbrev pub are_distinct : List ℕ → Bool
are_distinct [] = true
are_distinct (m ∷ ms) = not (has ms m) && are_distinct ms

-- ---- statements

abbrev pub no_more : Choices → Bool
no_more no_choice = true
no_more _ = false

abbrev pub catches_no_more : Catches → Bool
catches_no_more no_catch = true
catches_no_more _ = false

-- `raise;` may stand in the statements of a handler that hold no loop and no assert
abbrev pub may_raise_again : Stmts → Bool
may_raise_again ss = is_empty (loops (in_stmts ss)) && is_empty (asserts (in_stmts ss))

-- all exceptions that handlers name
abbrev pub caught : Catches → List ℕ
caught no_catch = []
caught (catch es ss hs) = es ++ caught hs

module _ (a : Around) (vars : List Var) where
  abbrev pub name_of : ℕ → List ℕ
  name_of o = option_map_or (λ v. v.name) (slice_get vars o) []

  -- its name is that of no object in scope
  abbrev pub is_new : Here → ℕ → Bool
  is_new h o = not (names.has (map name_of h.scope) (name_of o))

  abbrev pub declared : Here → ℕ → Here
  declared h o = record h { scope = o ∷ h.scope }

  abbrev pub with_parameter : Here → ℕ → Here
  with_parameter h o = record h { scope = o ∷ h.scope; fixed = o ∷ h.fixed; in_loop = true }

  abbrev pub within_loop : Here → Here
  within_loop h = record h { in_loop = true }

  abbrev pub within_handler : Here → Stmts → Here
  within_handler h ss = record h { handles = may_raise_again ss }

  -- An object is in scope behind its initial value.
  abbrev pub after_starts : Here → Starts → Here
  after_starts h none = h
  after_starts h (start o e ss) = after_starts (declared h o) ss

  abbrev pub starts_formed : Here → Starts → Bool
  starts_formed h none = true
  starts_formed h (start o e ss) = expr_formed a h e && (is_new h o && starts_formed (declared h o) ss)

  abbrev pub raise_formed : Here → Option ℕ → Bool
  raise_formed h (Some e) = nat_lt e a.exceptions
  raise_formed h None = h.handles

  abbrev mutual
    pub stmt_formed : Here → Stmt → Bool
    stmt_formed h null = true
    stmt_formed h (assign t v) = is_place h.fixed t && (expr_formed a h t && expr_formed a h v)
    stmt_formed h (call_of n u es) = places_fit a h u es && exprs_formed a h es
    stmt_formed h (branch c x y) = expr_formed a h c && (stmts_formed h x && stmts_formed h y)
    stmt_formed h (choose e cs) = expr_formed a h e && choices_formed h cs
    stmt_formed h (forever n t ss) = stmts_formed (within_loop h) ss
    stmt_formed h (repeat n c t ss) = expr_formed a h c && stmts_formed (within_loop h) ss
    stmt_formed h (count n o r low high t ss) =
        expr_formed a h low && (expr_formed a h high && (is_new h o && stmts_formed (with_parameter h o) ss))
    stmt_formed h (block is ss hs) =
        starts_formed h is && (stmts_formed (after_starts h is) ss && (are_distinct (caught hs) && catches_formed (after_starts h is) hs))
    stmt_formed h exit = h.in_loop
    stmt_formed h (give e) = value_formed a h e
    stmt_formed h (raise e) = raise_formed h e
    stmt_formed h (claim n t) = true

    pub stmts_formed : Here → Stmts → Bool
    stmts_formed h done = true
    stmts_formed h (next s ss) = stmt_formed h s && stmts_formed h ss

    -- as many low bounds as high ones; `others` is the last
    pub choices_formed : Here → Choices → Bool
    choices_formed h no_choice = true
    choices_formed h (choice low high ss cs) =
        length low == length high && ((not (is_empty low) || no_more cs) && (stmts_formed h ss && choices_formed h cs))

    -- `others` is the last
    pub catches_formed : Here → Catches → Bool
    catches_formed h no_catch = true
    catches_formed h (catch es ss hs) =
        all_below a.exceptions es && ((not (is_empty es) || catches_no_more hs) && (stmts_formed (within_handler h ss) ss && catches_formed h hs))

-- ---- whole units

abbrev pub var_of : Formal → Var
var_of f = record { name = f.name; label = f.label; sort = f.sort }

-- the objects at entry: formals, then globals
abbrev pub entered : Spec → List Formal
entered s = s.formals ++ s.globals

abbrev pub numbers_from : {A : Type 0} → ℕ → List A → List ℕ
numbers_from n [] = []
numbers_from n (x ∷ xs) = n ∷ numbers_from (n + 1) xs

-- those that are `in`, from this number on
abbrev pub unchanged : ℕ → List Formal → List ℕ
unchanged n [] = []
unchanged n (f ∷ fs) = if is_in f.mode then n ∷ unchanged (n + 1) fs else unchanged (n + 1) fs

abbrev pub at_entry : Around → Spec → Here
at_entry a s = record { scope = numbers_from 0 (entered s); fixed = unchanged 0 (entered s) ++ a.constants; in_loop = false; handles = false }

abbrev pub is_block : Stmt → Bool
is_block (block is ss hs) = true
is_block _ = false

pub record WellFormed (a : Around) (u : CoreUnit) : Type 0 where
  -- formals and globals come first, and their names are distinct
  pub entered_first : take (length (entered u.spec)) u.objects ≡ map var_of (entered u.spec)
  pub names_distinct : sorting.are_distinct (map (λ f. f.name) (entered u.spec)) ≡ true
  -- calls, loops and asserts are numbered from 1 in text order, and local objects behind formals and globals
  pub calls_numbered : counts_from 1 (calls (in_stmt (stmt_of u.body))) ≡ true
  pub loops_numbered : counts_from 1 (loops (in_stmt (stmt_of u.body))) ≡ true
  pub asserts_numbered : counts_from 1 (asserts (in_stmt (stmt_of u.body))) ≡ true
  pub objects_numbered : counts_from (length (entered u.spec)) (objects (in_stmt (stmt_of u.body))) ≡ true
  pub objects_counted : length u.objects ≡ length (entered u.spec) + length (objects (in_stmt (stmt_of u.body)))
  pub body_is_block : is_block (stmt_of u.body) ≡ true
  pub formed : stmt_formed a u.objects (at_entry a u.spec) (stmt_of u.body) ≡ true
  pub typed : is_typed a.specs a.ops u.objects (result_of u.spec.result) (stmt_of u.body) ≡ true
