-- Worked examples: what is taken from an item, written out as a tree. Each refused item differs from the one of the form in one place.
use Rattle.std.proofs.Common.{◌≡◌, ℕ, List, [], ◌∷◌, Some, None, ap}
use Rattle.std.specs.Prelude.{codes}
use Rattle.ada_tree.specs.declared.kind.Kind.{Kind}
use Rattle.ada_tree.specs.declared.kind.Kind.TheVariants as kind
use Rattle.ada_tree.specs.declared.node.Node.{Node, Node-F, out-roll-Node}
use Rattle.ada_tree.specs.Nodes.{node_of, kind_of, text_of, kids_of}
use Rattle.ada_tree.proofs.Trees.{Tree, Forest, no_trees, ◌&◌, grown, texted, plain, none, list, id, name, int, binary, old, assign, null, commented}
use Rattle.one_path.specs.declared.procedure.Procedure.{Procedure}
use Rattle.one_path.specs.declared.procedure.Statement.{Statement}
use Rattle.one_path.specs.declared.procedure.Statement.TheVariants as statement
use Rattle.one_path.specs.declared.procedure.Clause.{Clause}
use Rattle.one_path.specs.declared.procedure.Clause.TheVariants as clause
use Rattle.one_path.specs.declared.procedure.Operand.TheVariants as operand
use Rattle.one_path.specs.declared.procedure.Atom.TheVariants as atom
use Rattle.one_path.specs.Form.{procedure_of, form_of}

-- ---- what is asked of a node that is written out

kind_made : (k : Kind) (text : List ℕ) (notes : List (List ℕ)) (kids : List Node) → kind_of (node_of k text notes kids) ≡ k
kind_made k text notes kids = ap (λ (layer : Node-F Node). layer.kind) (out-roll-Node _)

text_made : (k : Kind) (text : List ℕ) (notes : List (List ℕ)) (kids : List Node) → text_of (node_of k text notes kids) ≡ text
text_made k text notes kids = ap (λ (layer : Node-F Node). layer.text) (out-roll-Node _)

kids_made : (k : Kind) (text : List ℕ) (notes : List (List ℕ)) (kids : List Node) → kids_of (node_of k text notes kids) ≡ kids
kids_made k text notes kids = ap (λ (layer : Node-F Node). layer.kids) (out-roll-Node _)

ruleset made = (kind_made, text_made, kids_made)

-- ---- the parts of the item

abbrev a : List ℕ
a = codes "A"

abbrev b : List ℕ
b = codes "B"

abbrev c : List ℕ
c = codes "C"

abbrev p : List ℕ
p = codes "P"

abbrev integer : Tree
integer = name (codes "INTEGER")

-- M.INTEGER, or another name selected from M
abbrev selected : List ℕ → Tree
selected x = texted kind.Select x (name (codes "M") & no_trees)

abbrev formal : List ℕ → Forest → Tree → Tree
formal mode ids mark = texted kind.Formal mode (list ids & mark & no_trees)

-- (A, B : in out INTEGER; ..)
abbrev formals : Tree → Tree
formals last = plain kind.Formals (list (formal (codes "in out") (id a & id b & no_trees) integer & last & no_trees) & no_trees)

abbrev header : Tree → Tree
header last = texted kind.Proc p (formals last & no_trees)

-- C : in out INTEGER
abbrev last_formal : Tree
last_formal = formal (codes "in out") (id c & no_trees) integer

abbrev equation : Tree → Tree → Tree
equation left right = binary (codes "=") left right

abbrev at_entry : Tree → Tree
at_entry term = plain kind.In (term & no_trees)

abbrev at_end : Tree → Tree
at_end term = plain kind.Out (term & no_trees)

-- in A = 1; ..
abbrev block : Tree → Tree
block last = plain kind.Where (list (at_entry (equation (name a) (int (codes "1"))) & last & no_trees) & no_trees)

-- out in B = A;
abbrev last_clause : Tree
last_clause = at_end (equation (old b) (name a))

-- A := B; ..
abbrev sequence : Tree → Tree → Tree
sequence last handlers = plain kind.Seq (list (assign (name a) (name b) & last & no_trees) & handlers & no_trees)

-- C := 2147483647;
abbrev last_statement : Tree
last_statement = assign (name c) (int (codes "2147483647"))

abbrev body : Tree → Tree → Forest → Tree → Tree
body specification annotation declarations statements = texted kind.SubBody p (specification & annotation & list declarations & statements & no_trees)

abbrev item : Forest → Tree → Tree
item context unit = plain kind.Unit (list context & unit & no_trees)

-- the item with another last formal, last clause or last statement
abbrev with_formal : Tree → Tree
with_formal last = item no_trees (body (header last) (block last_clause) no_trees (sequence last_statement none))

abbrev with_clause : Tree → Tree
with_clause last = item no_trees (body (header last_formal) (block last) no_trees (sequence last_statement none))

abbrev with_statement : Tree → Tree
with_statement last = item no_trees (body (header last_formal) (block last_clause) no_trees (sequence last none))

-- ---- what is taken

abbrev in_a : Clause
in_a = clause.In (atom.Name a) (atom.Number 1)

abbrev a_becomes_b : Statement
a_becomes_b = statement.Assign a (atom.Name b)

abbrev taken : List Clause → Statement → Procedure
taken clauses last = record { name = p; formals = a ∷ b ∷ c ∷ []; clauses = clauses; statements = a_becomes_b ∷ last ∷ [] }

abbrev clauses_taken : List Clause
clauses_taken = in_a ∷ clause.Out (operand.Entry b) (operand.Plain (atom.Name a)) ∷ []

abbrev statement_taken : Statement
statement_taken = statement.Assign c (atom.Number 2147483647)

-- procedure P (A, B : in out INTEGER; C : in out INTEGER) where in A = 1; out in B = A; end where; is begin A := B; C := 2147483647; end;
the_item : form_of (grown (with_statement last_statement)) ≡ Some (taken clauses_taken statement_taken)
the_item = simp made

null_statement : form_of (grown (with_statement null)) ≡ Some (taken clauses_taken statement.Null)
null_statement = simp made

-- out 7 = C;
final_values : form_of (grown (with_clause (at_end (equation (int (codes "7")) (name c))))) ≡ Some (taken (in_a ∷ clause.Out (operand.Plain (atom.Number 7)) (operand.Plain (atom.Name c)) ∷ []) statement_taken)
final_values = simp made

no_block : form_of (grown (item no_trees (body (header last_formal) none no_trees (sequence last_statement none)))) ≡ Some (taken [] statement_taken)
no_block = simp made

comments : form_of (grown (commented (codes "-- first" ∷ []) (with_statement (commented (codes "-- nothing" ∷ []) null)))) ≡ Some (taken clauses_taken statement.Null)
comments = simp made

-- ---- what is not of the form

declaration : procedure_of (grown (item no_trees (texted kind.SubDecl p (header last_formal & block last_clause & no_trees)))) ≡ None
declaration = simp made

function : procedure_of (grown (item no_trees (body (texted kind.Func p (formals last_formal & integer & no_trees)) (block last_clause) no_trees (sequence last_statement none)))) ≡ None
function = simp made

no_formals : procedure_of (grown (item no_trees (body (texted kind.Proc p (none & no_trees)) (block last_clause) no_trees (sequence last_statement none)))) ≡ None
no_formals = simp made

mode_in : procedure_of (grown (with_formal (formal (codes "in") (id c & no_trees) integer))) ≡ None
mode_in = simp made

mode_out : procedure_of (grown (with_formal (formal (codes "out") (id c & no_trees) integer))) ≡ None
mode_out = simp made

another_type : procedure_of (grown (with_formal (formal (codes "in out") (id c & no_trees) (name (codes "BOOLEAN"))))) ≡ None
another_type = simp made

selected_type : procedure_of (grown (with_formal (formal (codes "in out") (id c & no_trees) (selected (codes "INTEGER"))))) ≡ None
selected_type = simp made

context : procedure_of (grown (item (plain kind.Use (list (name (codes "M") & no_trees) & no_trees) & no_trees) (body (header last_formal) (block last_clause) no_trees (sequence last_statement none)))) ≡ None
context = simp made

declared : procedure_of (grown (item no_trees (body (header last_formal) (block last_clause) (plain kind.Exc (list (id (codes "E") & no_trees) & no_trees) & no_trees) (sequence last_statement none)))) ≡ None
declared = simp made

handler : procedure_of (grown (item no_trees (body (header last_formal) (block last_clause) no_trees (sequence last_statement (list (plain kind.Handler (plain kind.Others no_trees & list (null & no_trees) & no_trees) & no_trees)))))) ≡ None
handler = simp made

call : procedure_of (grown (with_statement (plain kind.Call (name (codes "Q") & no_trees)))) ≡ None
call = simp made

-- M.C := A;
selected_target : procedure_of (grown (with_statement (assign (selected c) (name a)))) ≡ None
selected_target = simp made

-- C := A + 1;
sum : procedure_of (grown (with_statement (assign (name c) (binary (codes "+") (name a) (int (codes "1")))))) ≡ None
sum = simp made

-- C := 2147483648;
greater_number : procedure_of (grown (with_statement (assign (name c) (int (codes "2147483648"))))) ≡ None
greater_number = simp made

raise_clause : procedure_of (grown (with_clause (plain kind.RaiseC (name (codes "E") & equation (name a) (int (codes "1")) & no_trees)))) ≡ None
raise_clause = simp made

-- out A < B;
comparison : procedure_of (grown (with_clause (at_end (binary (codes "<") (name a) (name b))))) ≡ None
comparison = simp made

-- out A + 1 = B;
sum_in_clause : procedure_of (grown (with_clause (at_end (equation (binary (codes "+") (name a) (int (codes "1"))) (name b))))) ≡ None
sum_in_clause = simp made

-- in in A = B;
old_at_entry : procedure_of (grown (with_clause (at_entry (equation (old a) (name b))))) ≡ None
old_at_entry = simp made

-- out in M.A = B;
selected_old : procedure_of (grown (with_clause (at_end (equation (plain kind.Old (selected a & no_trees)) (name b))))) ≡ None
selected_old = simp made

-- ---- what doesn't meet the conditions

unknown_name : form_of (grown (with_statement (assign (name c) (name (codes "D"))))) ≡ None
unknown_name = simp made

formal_again : form_of (grown (with_formal (formal (codes "in out") (id a & no_trees) integer))) ≡ None
formal_again = simp made

formal_integer : form_of (grown (with_formal (formal (codes "in out") (id (codes "INTEGER") & no_trees) integer))) ≡ None
formal_integer = simp made
