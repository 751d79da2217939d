-- The proof obligations of a procedure: its path goes forward from the entry to the end, with a symbolic store.
use Rattle.std.specs.Prelude.{ℕ, suc, pos, negsuc, List, [], ◌∷◌, map, true, bytes_eq, if◌then◌else◌, codes}
use Rattle.one_path.specs.declared.procedure.Procedure.{Procedure}
use Rattle.one_path.specs.declared.procedure.Statement.{Statement}
use Rattle.one_path.specs.declared.procedure.Statement.TheVariants.{Null, Assign}
use Rattle.one_path.specs.declared.procedure.Clause.{Clause}
use Rattle.one_path.specs.declared.procedure.Clause.TheVariants.{In, Out}
use Rattle.one_path.specs.declared.procedure.Operand.{Operand}
use Rattle.one_path.specs.declared.procedure.Operand.TheVariants.{Plain, Entry}
use Rattle.one_path.specs.declared.procedure.Atom.{Atom}
use Rattle.one_path.specs.declared.procedure.Atom.TheVariants.{Name, Number}
use Rattle.one_path.specs.Conditions.{integer}
use Rattle.term_core.specs.declared.term.Term.{Term}
use Rattle.term_core.specs.declared.sequent.Var.{Var}
use Rattle.term_core.specs.declared.sequent.Sequent.{Sequent}
use Rattle.term_core.specs.declared.obligation.Obligation.{Obligation}
use Rattle.term_core.specs.Terms.{range, int, truth, var, equal, both}
use Rattle.term_core.specs.Substitution.{Sub}

-- a term for each object
abbrev pub Store : Type 0
Store = Sub

-- at entry each object is the variable of its name
abbrev pub entry_store : Store
entry_store = λ name. var name

-- the store in which the object has the value, and all others have theirs
abbrev pub with_value : List ℕ → Term → Store → Store
with_value name value store = λ other. if bytes_eq name other then value else store other

-- the value of an atom
abbrev pub value_of : Store → Atom → Term
value_of store (Name name) = store name
value_of store (Number value) = int (pos value)

-- after a statement, and after statements in order
abbrev pub after : Statement → Store → Store
after Null store = store
after (Assign target value) store = with_value target (value_of store value) store

abbrev pub after_all : List Statement → Store → Store
after_all [] store = store
after_all (statement ∷ statements) store = after_all statements (after statement store)

-- what an operand of an out clause stands for: its value at the end, or the value at entry
abbrev pub operand_of : Store → Operand → Term
operand_of end (Plain value) = value_of end value
operand_of end (Entry name) = entry_store name

-- the in clauses, which hold at entry, as terms
abbrev pub hypotheses_of : List Clause → List Term
hypotheses_of [] = []
hypotheses_of (In left right ∷ clauses) = equal (value_of entry_store left) (value_of entry_store right) ∷ hypotheses_of clauses
hypotheses_of (Out left right ∷ clauses) = hypotheses_of clauses

-- the out clauses, which hold at the end, as terms
abbrev pub conclusions_of : Store → List Clause → List Term
conclusions_of end [] = []
conclusions_of end (In left right ∷ clauses) = conclusions_of end clauses
conclusions_of end (Out left right ∷ clauses) = equal (operand_of end left) (operand_of end right) ∷ conclusions_of end clauses

-- the conjunction, associated to the left; of none it is true
abbrev pub joined_to : Term → List Term → Term
joined_to first [] = first
joined_to first (term ∷ terms) = joined_to (both first term) terms

abbrev pub conjunction : List Term → Term
conjunction [] = truth true
conjunction (term ∷ terms) = joined_to term terms

-- each formal is a variable of the type INTEGER, which is -2147483648 .. 2147483647
abbrev pub variable_of : List ℕ → Var
variable_of name = record { name = name; label = integer; sort = range (negsuc 2147483647) (pos 2147483647) }

-- The ends of the paths from the entry. There is one path, through all statements to the end of the procedure.
abbrev pub ends_of : Procedure → List Sequent
ends_of unit =
    let end : Store = after_all unit.statements entry_store in
    record {
      vars = map variable_of unit.formals;
      hyps = hypotheses_of unit.clauses;
      goal = conjunction (conclusions_of end unit.clauses);
    } ∷ []

-- the sequents of a cut point's path ends as its obligations, numbered from this ordinal
abbrev pub numbered : List ℕ → ℕ → List Sequent → List Obligation
numbered cut ordinal [] = []
numbered cut ordinal (sequent ∷ sequents) = record { cut = cut; ordinal = ordinal; sequent = sequent } ∷ numbered cut (suc ordinal) sequents

-- the obligations of a procedure: the entry is its one cut point
abbrev pub obligations_of : Procedure → List Obligation
obligations_of unit = numbered (codes "entry") 1 (ends_of unit)
