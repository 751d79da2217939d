-- The report of a unit.
use Rattle.std.specs.Prelude.{ℕ, List, [], ◌∷◌, ◌++◌, codes}
use Rattle.std.specs.List.{flat_map}
use Rattle.std.specs.Fmt.{decimal}
use Rattle.term_core.specs.declared.names.OpNames.{OpNames}
use Rattle.term_core.specs.declared.obligation.Obligation.{Obligation}
use Rattle.tree_write.specs.SequentLines.{sequent_lines}
use Rattle.penelope_cli.specs.declared.report.TheConstants.{INDENT}

abbrev pub line_end : List ℕ
line_end = 10 ∷ []

-- no unit has proofs yet
abbrev pub unit_line : List ℕ → List ℕ
unit_line name = codes "unit " ++ name ++ codes " incomplete" ++ line_end

abbrev pub key_line : Obligation → List ℕ
key_line obligation = codes "  " ++ obligation.cut ++ codes "." ++ decimal obligation.ordinal ++ codes " open" ++ line_end

-- no term has an operator, a type or a component with a name yet
abbrev pub no_names : OpNames
no_names = record { ops = []; types = []; parts = [] }

abbrev pub obligation_lines : Obligation → List ℕ
obligation_lines obligation = key_line obligation ++ sequent_lines INDENT no_names obligation.sequent

abbrev pub report_of : List ℕ → List Obligation → List ℕ
report_of name obligations = unit_line name ++ flat_map obligation_lines obligations
