-- A tree, and the declarations and statements that are read off it.
use Rattle.std.proofs.Common.{◌≡◌, ℕ, List, [], ◌∷◌, true, false, Some, None, refl}
use Rattle.std.specs.Prelude.{codes}
use Rattle.ada_tree.specs.declared.kind.Kind.{Kind}
use Rattle.ada_tree.specs.declared.kind.Kind.TheVariants as kind
use Rattle.ada_tree.specs.declared.operator.Operator.TheVariants as op
use Rattle.ada_tree.proofs.Trees.{Tree, tree, Forest, no_trees, ◌&◌, grown, folded, fold_grown}
use Rattle.unit_forms.specs.Syntax.{Expr, int, name, select, apply, applied, aggregate, unary, binary, member, span, marked, range_of, end, plain, assoc, others, some_of, no_option, option, one, between}
use Rattle.unit_forms.specs.Syntax.{◌&◌ as ◌⊳◌}
use Rattle.unit_forms.specs.Bodies.{unlimited, limited, enumeration, integers, array, record_of, Decl, object, constant, number, type, subtype, uses, exceptions, forever, while, for, Stmt, null, assign, call, branch, choose, loop, block, exit, give, raise, claim, Stmts, done, next, no_elsif, elsif, no_alt, alt, no_handler, handler, Shown, show, shown}

-- ---- trees

abbrev node : Kind → List ℕ → Forest → Tree
node k text kids = tree k text [] kids

abbrev list : Forest → Tree
list ts = node kind.List [] ts

abbrev absent : Tree
absent = node kind.None [] no_trees

abbrev n_name : List ℕ → Tree
n_name x = node kind.Name x no_trees

abbrev n_int : List ℕ → Tree
n_int x = node kind.Int x no_trees

abbrev A : Tree
A = n_name (codes "A")

abbrev B : Tree
B = n_name (codes "B")

abbrev T : Tree
T = n_name (codes "T")

abbrev n_1 : Tree
n_1 = n_int (codes "1")

abbrev n_2 : Tree
n_2 = n_int (codes "2")

abbrev n_ids : Tree
n_ids = list (node kind.Id (codes "X") no_trees & node kind.Id (codes "Y") no_trees & no_trees)

abbrev n_range : Tree
n_range = node kind.Range [] (n_1 & n_2 & no_trees)

abbrev n_span : Tree
n_span = node kind.Span [] (n_1 & n_2 & no_trees)

abbrev n_null : Tree
n_null = node kind.Null [] no_trees

abbrev nulls : Tree
nulls = list (n_null & no_trees)

abbrev choices : Forest → Tree
choices cs = node kind.Choices [] (list cs & no_trees)

abbrev n_others : Tree
n_others = node kind.Others [] no_trees

-- ---- what they are

abbrev a : Expr
a = name (codes "A")

abbrev b : Expr
b = name (codes "B")

abbrev t : Expr
t = name (codes "T")

abbrev i_1 : Expr
i_1 = int (codes "1")

abbrev i_2 : Expr
i_2 = int (codes "2")

abbrev x_y : List (List ℕ)
x_y = codes "X" ∷ codes "Y" ∷ []

abbrev nothing : Stmts
nothing = next null done

-- ---- expressions

abbrev expr_in : Tree → Expr
expr_in x = (folded Shown show x).seen.expr

-- A.C(1) + T'POS (B)
parts_and_attributes : expr_in (node kind.Binary (codes "+")
    (node kind.Apply [] (node kind.Select (codes "C") (A & no_trees) & list (n_1 & no_trees) & no_trees)
    & node kind.Apply [] (node kind.Attr (codes "POS") (T & no_trees) & list (B & no_trees) & no_trees) & no_trees))
    ≡ binary op.Add (apply (select a (codes "C")) (plain i_1 ⊳ end)) (applied t (codes "POS") (plain b ⊳ end))
parts_and_attributes = refl

-- not (A in T), - A not in 1 .. 2, and A in B'RANGE
memberships : expr_in (node kind.Unary (codes "not") (node kind.Member (codes "in") (A & T & no_trees) & no_trees)) ≡ unary op.Not (member op.In a (marked t))
memberships = refl

membership_in_a_span : expr_in (node kind.Member (codes "not in") (A & n_span & no_trees)) ≡ member op.NotIn a (span i_1 i_2)
membership_in_a_span = refl

membership_in_a_range : expr_in (node kind.Member (codes "in") (A & node kind.RangeOf [] (B & no_trees) & no_trees)) ≡ member op.In a (range_of b)
membership_in_a_range = refl

-- (1, A | 1 .. 2 => B, others => 2)
an_aggregate : expr_in (node kind.Aggr [] (list (n_1 & node kind.Assoc [] (choices (A & n_span & no_trees) & B & no_trees) & node kind.Assoc [] (n_others & n_2 & no_trees) & no_trees) & no_trees))
    ≡ aggregate (plain i_1 ⊳ (assoc (some_of (option (one a) (option (between i_1 i_2) no_option))) b ⊳ (assoc others i_2 ⊳ end)))
an_aggregate = refl

-- ---- declarations

abbrev decl_in : Tree → Decl
decl_in x = (folded Shown show x).decl

an_object : decl_in (node kind.Obj [] (n_ids & T & n_range & n_1 & no_trees)) ≡ object x_y t (limited i_1 i_2) (Some i_1)
an_object = refl

an_object_without_value : decl_in (node kind.Obj [] (n_ids & T & absent & absent & no_trees)) ≡ object x_y t unlimited None
an_object_without_value = refl

a_constant : decl_in (node kind.Const [] (n_ids & T & absent & A & no_trees)) ≡ constant x_y t unlimited a
a_constant = refl

a_number : decl_in (node kind.Num [] (n_ids & n_1 & no_trees)) ≡ number x_y i_1
a_number = refl

an_enumeration : decl_in (node kind.TypeDecl (codes "T") (node kind.Enum [] (n_ids & no_trees) & no_trees)) ≡ type (enumeration x_y)
an_enumeration = refl

an_integer_type : decl_in (node kind.TypeDecl (codes "T") (n_range & no_trees)) ≡ type (integers i_1 i_2)
an_integer_type = refl

an_array : decl_in (node kind.TypeDecl (codes "T") (node kind.Arr [] (n_span & B & no_trees) & no_trees)) ≡ type (array (span i_1 i_2) b)
an_array = refl

a_record : decl_in (node kind.TypeDecl (codes "T") (node kind.Rec [] (list (node kind.Comp [] (n_ids & B & no_trees) & no_trees) & no_trees) & no_trees))
    ≡ type (record_of (record { ids = x_y; mark = b } ∷ []))
a_record = refl

a_subtype : decl_in (node kind.Subtype (codes "S") (T & n_range & no_trees)) ≡ subtype t (limited i_1 i_2)
a_subtype = refl

a_use : decl_in (node kind.Use [] (list (A & B & no_trees) & no_trees)) ≡ uses (a ∷ b ∷ [])
a_use = refl

exceptions_of_two_names : decl_in (node kind.Exc [] (n_ids & no_trees)) ≡ exceptions x_y
exceptions_of_two_names = refl

-- ---- statements

abbrev stmt_in : Tree → Stmt
stmt_in x = (folded Shown show x).stmt

an_assignment : stmt_in (node kind.Assign [] (A & B & no_trees)) ≡ assign a b
an_assignment = refl

a_call : stmt_in (node kind.Call [] (A & no_trees)) ≡ call a
a_call = refl

-- if A then null; elsif B then exit; else return; end if;
conditions : stmt_in (node kind.If []
    (A & nulls & list (node kind.Elsif [] (B & list (node kind.Exit [] (absent & no_trees) & no_trees) & no_trees) & no_trees)
    & list (node kind.Return [] (absent & no_trees) & no_trees) & no_trees))
    ≡ branch a nothing (elsif b (next (exit None) done) no_elsif) (next (give None) done)
conditions = refl

without_else : stmt_in (node kind.If [] (A & nulls & list no_trees & absent & no_trees)) ≡ branch a nothing no_elsif done
without_else = refl

-- case A is when 1 | 1 .. 2 => null; when others => null; end case;
alternatives : stmt_in (node kind.Case []
    (A & list (node kind.Alt [] (choices (n_1 & n_span & no_trees) & nulls & no_trees) & node kind.Alt [] (n_others & nulls & no_trees) & no_trees) & no_trees))
    ≡ choose a (alt (some_of (option (one i_1) (option (between i_1 i_2) no_option))) nothing (alt others nothing no_alt))
alternatives = refl

abbrev n_invariant : Tree
n_invariant = node kind.Invariant [] (A & no_trees)

plain_loop : stmt_in (node kind.Loop [] (absent & absent & nulls & no_trees)) ≡ loop forever false nothing
plain_loop = refl

while_loop : stmt_in (node kind.Loop [] (node kind.While [] (A & no_trees) & n_invariant & nulls & no_trees)) ≡ loop (while a) true nothing
while_loop = refl

for_loop : stmt_in (node kind.Loop [] (node kind.For (codes "I") (T & no_trees) & n_invariant & nulls & no_trees)) ≡ loop (for false (codes "I") (marked t)) true nothing
for_loop = refl

reverse_loop : stmt_in (node kind.Loop [] (node kind.Reverse (codes "I") (node kind.RangeOf [] (A & no_trees) & no_trees) & absent & nulls & no_trees))
    ≡ loop (for true (codes "I") (range_of a)) false nothing
reverse_loop = refl

-- declare use A; begin null; exception when A | B => raise; when others => raise A; end;
handlers : stmt_in (node kind.Block []
    (list (node kind.Use [] (list (A & no_trees) & no_trees) & no_trees)
    & node kind.Seq [] (nulls
    & list (node kind.Handler [] (choices (A & B & no_trees) & list (node kind.Raise [] (absent & no_trees) & no_trees) & no_trees)
    & node kind.Handler [] (n_others & list (node kind.Raise [] (A & no_trees) & no_trees) & no_trees) & no_trees) & no_trees) & no_trees))
    ≡ block (uses (a ∷ []) ∷ []) nothing
    (handler (some_of (option (one a) (option (one b) no_option))) (next (raise None) done) (handler others (next (raise (Some a)) done) no_handler))
handlers = refl

plain_block : stmt_in (node kind.Block [] (absent & node kind.Seq [] (nulls & absent & no_trees) & no_trees)) ≡ block [] nothing no_handler
plain_block = refl

exit_when : stmt_in (node kind.Exit [] (A & no_trees)) ≡ exit (Some a)
exit_when = refl

return_of_a_value : stmt_in (node kind.Return [] (A & no_trees)) ≡ give (Some a)
return_of_a_value = refl

an_assert : stmt_in (node kind.Assert [] (A & no_trees)) ≡ claim
an_assert = refl

-- What is read off a written tree is read off the node that it is the tree of.
shown_grown : (x : Tree) → shown (grown x) ≡ folded Shown show x
shown_grown x = fold_grown Shown show x
