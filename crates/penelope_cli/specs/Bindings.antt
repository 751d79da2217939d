-- A symbolic store as a list, with a place for each object: how the program keeps it.
use Rattle.std.specs.Prelude.{ℕ, pos, List, [], ◌∷◌, map, Option, Some, None, bytes_eq, if◌then◌else◌}
use Rattle.one_path.specs.declared.procedure.Statement.{Statement}
use Rattle.one_path.specs.declared.procedure.Statement.TheVariants.{Null, Assign}
use Rattle.one_path.specs.declared.procedure.Clause.{Clause}
use Rattle.one_path.specs.declared.procedure.Clause.TheVariants.{In, Out}
use Rattle.one_path.specs.declared.procedure.Operand.{Operand}
use Rattle.one_path.specs.declared.procedure.Operand.TheVariants.{Plain, Entry}
use Rattle.one_path.specs.declared.procedure.Atom.{Atom}
use Rattle.one_path.specs.declared.procedure.Atom.TheVariants.{Name, Number}
use Rattle.term_core.specs.declared.term.Term.{Term}
use Rattle.penelope_cli.specs.declared.obligations.Binding.{Binding}
use Rattle.term_core.specs.Terms.{int, var, equal}
use Rattle.penelope_cli.specs.Paths.{joined_to, conjunction}

-- the value at the first place of the name
abbrev pub bound_value : List Binding → List ℕ → Term
bound_value [] name = var name
bound_value (binding ∷ bindings) name = if bytes_eq binding.object name then binding.value else bound_value bindings name

-- another value at the first place of the name
abbrev pub rebound : List ℕ → Term → List Binding → List Binding
rebound name value [] = []
rebound name value (binding ∷ bindings) = if bytes_eq binding.object name then record binding { value = value } ∷ bindings else binding ∷ rebound name value bindings

abbrev pub bound_atom : List Binding → Atom → Term
bound_atom bindings (Name name) = bound_value bindings name
bound_atom bindings (Number value) = int (pos value)

abbrev pub after_statement : Statement → List Binding → List Binding
after_statement Null bindings = bindings
after_statement (Assign target value) bindings = rebound target (bound_atom bindings value) bindings

abbrev pub after_statements : List Statement → List Binding → List Binding
after_statements [] bindings = bindings
after_statements (statement ∷ statements) bindings = after_statements statements (after_statement statement bindings)

abbrev pub entry_bindings : List (List ℕ) → List Binding
entry_bindings names = map (λ name. record { object = name; value = var name }) names

abbrev pub bound_operand : List Binding → Operand → Term
bound_operand bindings (Plain value) = bound_atom bindings value
bound_operand bindings (Entry name) = var name

-- the out clauses as terms
abbrev pub bound_conclusions : List Binding → List Clause → List Term
bound_conclusions bindings [] = []
bound_conclusions bindings (In left right ∷ clauses) = bound_conclusions bindings clauses
bound_conclusions bindings (Out left right ∷ clauses) = equal (bound_operand bindings left) (bound_operand bindings right) ∷ bound_conclusions bindings clauses

-- the conjunction of what was joined so far, where there is any, and further terms
abbrev pub joined : Option Term → List Term → Term
joined None terms = conjunction terms
joined (Some first) terms = joined_to first terms
