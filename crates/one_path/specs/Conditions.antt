-- The conditions on a procedure.
use Rattle.std.specs.Prelude.{◌≡◌, ℕ, ◌≤◌, List, [], ◌∷◌, length, Bool, true, false, not, ◌&&◌, nat_le, bytes_eq, codes}
use Rattle.std.specs.List.{list_any, list_all}
use Rattle.one_path.specs.declared.procedure.Procedure.{Procedure}
use Rattle.one_path.specs.declared.procedure.Statement.{Statement}
use Rattle.one_path.specs.declared.procedure.Statement.TheVariants.{Null, Assign}
use Rattle.one_path.specs.declared.procedure.Clause.{Clause}
use Rattle.one_path.specs.declared.procedure.Clause.TheVariants.{In, Out}
use Rattle.one_path.specs.declared.procedure.Operand.{Operand}
use Rattle.one_path.specs.declared.procedure.Operand.TheVariants.{Plain, Entry}
use Rattle.one_path.specs.declared.procedure.Atom.{Atom}
use Rattle.one_path.specs.declared.procedure.Atom.TheVariants.{Name, Number}

-- the one type of formals
abbrev pub integer : List ℕ
integer = codes "INTEGER"

abbrev pub has : List (List ℕ) → List ℕ → Bool
has names name = list_any (λ other. bytes_eq other name) names

abbrev pub are_distinct : List (List ℕ) → Bool
are_distinct [] = true
are_distinct (name ∷ names) = not (has names name) && are_distinct names

-- a name that stands as an atom is one of these
abbrev pub knows_atom : List (List ℕ) → Atom → Bool
knows_atom names (Name text) = has names text
knows_atom names (Number value) = true

-- and so is one that follows `in`
abbrev pub knows_operand : List (List ℕ) → Operand → Bool
knows_operand names (Plain value) = knows_atom names value
knows_operand names (Entry text) = has names text

abbrev pub knows_clause : List (List ℕ) → Clause → Bool
knows_clause names (In left right) = knows_atom names left && knows_atom names right
knows_clause names (Out left right) = knows_operand names left && knows_operand names right

-- and one that is assigned
abbrev pub knows_statement : List (List ℕ) → Statement → Bool
knows_statement names Null = true
knows_statement names (Assign target value) = has names target && knows_atom names value

pub record Meets (unit : Procedure) : Type 0 where
  pub few_formals : length unit.formals ≤ 64
  pub few_clauses : length unit.clauses ≤ 64
  pub few_statements : length unit.statements ≤ 1000
  pub distinct : are_distinct unit.formals ≡ true
  pub not_integer : has unit.formals integer ≡ false
  pub clauses_known : list_all (knows_clause unit.formals) unit.clauses ≡ true
  pub statements_known : list_all (knows_statement unit.formals) unit.statements ≡ true

-- the same, as a test
abbrev pub meets : Procedure → Bool
meets unit = nat_le (length unit.formals) 64 && nat_le (length unit.clauses) 64 && nat_le (length unit.statements) 1000 && are_distinct unit.formals && not (has unit.formals integer) && list_all (knows_clause unit.formals) unit.clauses && list_all (knows_statement unit.formals) unit.statements
