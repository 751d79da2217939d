-- Which items of a file are procedures of the one form, and of what. The form, as the grammar writes it:
--     item    = "procedure" id "(" formals ")" [where] "is" "begin" {stmt}+ "end" [id] ";"
--     formals = ids ":" "in" "out" "INTEGER" { ";" ids ":" "in" "out" "INTEGER" }
--     ids     = id { "," id }
--     where   = "where" { clause } "end" "where" ";"
--     clause  = "in" atom "=" atom ";" | "out" old "=" old ";"
--     stmt    = "null" ";" | id ":=" atom ";"
--     old     = atom | "in" id
--     atom    = id | number
-- It is asked of the tree: of the kinds of nodes, of their texts, and of their kids, each by its place in the line of its node. Comments, parentheses and the closing name don't matter, and that there is a formal and a statement says the grammar of trees.
use Rattle.std.specs.Prelude.{ℕ, List, [], ◌∷◌, Bool, not, ◌&&◌, nat_le, Option, Some, None, option_map, bytes_eq, codes, if◌then◌else◌}
use Rattle.std.specs.List.{flat_map, list_all}
use Rattle.std.specs.Option.{option_and_then}
use Rattle.std.specs.Char.{is_ascii_digit}
use Rattle.std.specs.Str.Parse.{digits_value}
use Rattle.ada_tree.specs.declared.kind.Kind.{Kind}
use Rattle.ada_tree.specs.declared.kind.Kind.TheVariants as kind
use Rattle.ada_tree.specs.declared.node.Node.{Node}
use Rattle.ada_tree.specs.Kinds.{is_kind}
use Rattle.ada_tree.specs.Nodes.{kind_of, text_of, kids_of, is_empty}
use Rattle.one_path.specs.declared.procedure.Procedure.{Procedure}
use Rattle.one_path.specs.declared.procedure.Statement.{Statement}
use Rattle.one_path.specs.declared.procedure.Statement.TheVariants.{Null, Assign}
use Rattle.one_path.specs.declared.procedure.Clause.{Clause}
use Rattle.one_path.specs.declared.procedure.Clause.TheVariants.{In, Out}
use Rattle.one_path.specs.declared.procedure.Operand.{Operand}
use Rattle.one_path.specs.declared.procedure.Operand.TheVariants.{Plain, Entry}
use Rattle.one_path.specs.declared.procedure.Atom.{Atom}
use Rattle.one_path.specs.declared.procedure.Atom.TheVariants.{Name, Number}
use Rattle.one_path.specs.declared.form.TheConstants.{GREATEST}
use Rattle.one_path.specs.Conditions.{integer, meets}

-- ---- nodes

abbrev pub is_of : Kind → Node → Bool
is_of k node = is_kind (kind_of node) k

-- the text of a node of this kind
abbrev pub text_if : Kind → Node → Option (List ℕ)
text_if k node = if is_of k node then Some (text_of node) else None

-- the kids of a node of this kind, and none of another
abbrev pub kids_if : Kind → Node → List Node
kids_if k node = if is_of k node then kids_of node else []

abbrev pub two : {A B C : Type 0} → (A → B → C) → Option A → Option B → Option C
two make (Some a) (Some b) = Some (make a b)
two make _ _ = None

-- what all nodes of a list mean, where each of them has a meaning
abbrev pub all_of : {A : Type 0} → (Node → Option A) → List Node → Option (List A)
all_of meaning [] = Some []
all_of meaning (node ∷ nodes) = two (λ x xs. x ∷ xs) (meaning node) (all_of meaning nodes)

-- ---- atom = id | number

-- a number of at most 2147483647, by its digits
abbrev pub number_of : List ℕ → Option ℕ
number_of text = if not (is_empty text) && list_all is_ascii_digit text && nat_le (digits_value 10 text) GREATEST then Some (digits_value 10 text) else None

abbrev pub atom_by : Kind → List ℕ → Option Atom
atom_by kind.Name text = Some (Name text)
atom_by kind.Int text = option_map Number (number_of text)
atom_by _ text = None

abbrev pub atom_of : Node → Option Atom
atom_of node = atom_by (kind_of node) (text_of node)

abbrev pub name_of : Node → Option (List ℕ)
name_of = text_if kind.Name

-- ---- old = atom | "in" id

abbrev pub entry_of : List Node → Option Operand
entry_of (mark ∷ []) = option_map Entry (name_of mark)
entry_of _ = None

abbrev pub operand_of : Node → Option Operand
operand_of node = if is_of kind.Old node then entry_of (kids_of node) else option_map Plain (atom_of node)

-- ---- clause = "in" atom "=" atom ";" | "out" old "=" old ";"

-- both sides of an equation, and none of any other term
abbrev pub sides_of : Node → List Node
sides_of term = if bytes_eq (text_of term) (codes "=") then kids_if kind.Binary term else []

abbrev pub in_clause : List Node → Option Clause
in_clause (left ∷ right ∷ []) = two In (atom_of left) (atom_of right)
in_clause _ = None

abbrev pub out_clause : List Node → Option Clause
out_clause (left ∷ right ∷ []) = two Out (operand_of left) (operand_of right)
out_clause _ = None

abbrev pub clause_by : Kind → List Node → Option Clause
clause_by kind.In (term ∷ []) = in_clause (sides_of term)
clause_by kind.Out (term ∷ []) = out_clause (sides_of term)
clause_by _ kids = None

abbrev pub clause_of : Node → Option Clause
clause_of node = clause_by (kind_of node) (kids_of node)

-- ---- [where], "where" { clause } "end" "where" ";"

abbrev pub clauses_by : Kind → List Node → Option (List Clause)
clauses_by kind.None kids = Some []
clauses_by kind.Where (clauses ∷ []) = all_of clause_of (kids_of clauses)
clauses_by _ kids = None

abbrev pub clauses_of : Node → Option (List Clause)
clauses_of node = clauses_by (kind_of node) (kids_of node)

-- ---- {stmt}+, without handlers: stmt = "null" ";" | id ":=" atom ";"

abbrev pub statement_by : Kind → List Node → Option Statement
statement_by kind.Null kids = Some Null
statement_by kind.Assign (target ∷ value ∷ []) = two Assign (name_of target) (atom_of value)
statement_by _ kids = None

abbrev pub statement_of : Node → Option Statement
statement_of node = statement_by (kind_of node) (kids_of node)

abbrev pub statements_in : List Node → Option (List Statement)
statements_in (statements ∷ handlers ∷ []) = if is_of kind.None handlers then all_of statement_of (kids_of statements) else None
statements_in _ = None

abbrev pub statements_of : Node → Option (List Statement)
statements_of sequence = statements_in (kids_if kind.Seq sequence)

-- ---- "(" formals ")": groups of ids ":" "in" "out" "INTEGER"

abbrev pub is_integer : Node → Bool
is_integer mark = is_of kind.Name mark && bytes_eq (text_of mark) integer

-- the name that a formal declares
abbrev pub id_of : Node → Option (List ℕ)
id_of = text_if kind.Id

abbrev pub group_by : List ℕ → List Node → Option (List (List ℕ))
group_by mode (ids ∷ mark ∷ []) = if bytes_eq mode (codes "in out") && is_integer mark then all_of id_of (kids_of ids) else None
group_by mode _ = None

abbrev pub group_of : Node → Option (List (List ℕ))
group_of formal = group_by (text_of formal) (kids_if kind.Formal formal)

abbrev pub groups_in : List Node → Option (List (List (List ℕ)))
groups_in (formals ∷ []) = all_of group_of (kids_of formals)
groups_in _ = None

abbrev pub joined : {A : Type 0} → List (List A) → List A
joined groups = flat_map (λ group. group) groups

-- the names of all formals
abbrev pub formals_of : Node → Option (List (List ℕ))
formals_of formals = option_map joined (groups_in (kids_if kind.Formals formals))

-- ---- "procedure" id "(" formals ")"

abbrev pub header_in : List Node → Option (List (List ℕ))
header_in (formals ∷ []) = formals_of formals
header_in _ = None

abbrev pub header_of : Node → Option (List (List ℕ))
header_of specification = header_in (kids_if kind.Proc specification)

-- ---- item = "procedure" id "(" formals ")" [where] "is" "begin" {stmt}+ "end" [id] ";", without context clauses and declarations

abbrev pub procedure_with : List ℕ → Option (List (List ℕ)) → Option (List Clause) → Option (List Statement) → Option Procedure
procedure_with name (Some formals) (Some clauses) (Some statements) = Some record { name = name; formals = formals; clauses = clauses; statements = statements }
procedure_with name _ _ _ = None

abbrev pub body_in : List Node → Option Procedure
body_in (specification ∷ block ∷ declarations ∷ sequence ∷ []) = if is_empty (kids_of declarations) then procedure_with (text_of specification) (header_of specification) (clauses_of block) (statements_of sequence) else None
body_in _ = None

abbrev pub unit_in : List Node → Option Procedure
unit_in (context ∷ library_unit ∷ []) = if is_empty (kids_of context) then body_in (kids_if kind.SubBody library_unit) else None
unit_in _ = None

-- the procedure that an item is
abbrev pub procedure_of : Node → Option Procedure
procedure_of item = unit_in (kids_if kind.Unit item)

-- a procedure that meets the conditions
abbrev pub kept : Option Procedure → Option Procedure
kept read = option_and_then (λ unit. if meets unit then Some unit else None) read

abbrev pub form_of : Node → Option Procedure
form_of item = kept (procedure_of item)
