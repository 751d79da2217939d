-- The operators of expressions and terms, by their table.
use Rattle.std.specs.Prelude.{ℕ, List, [], ◌&&◌, Option, bytes_eq, slice_get}
use Rattle.std.specs.Option.{option_map_or}
use denote.Enum.Declared.{tag_of}
use Rattle.ada_tree.specs.declared.kind.Kind.{Kind}
use Rattle.ada_tree.specs.declared.grammar.Piece.{Piece}
use Rattle.ada_tree.specs.declared.operator.Operator.{Operator}
use Rattle.ada_tree.specs.contracts.operator.Operator.{the_type}
use Rattle.ada_tree.specs.declared.operator.OperatorEntry.{OperatorEntry}
use Rattle.ada_tree.specs.declared.operator.TheConstants.{OPERATORS}
use Rattle.ada_tree.specs.Kinds.{is_kind}
use Rattle.ada_tree.specs.Tables.{first_value}

-- a row of the operators: what one is, how it is written, and the line of its nodes
abbrev pub OperatorRow : Type 0
OperatorRow = OperatorEntry × record { now : List ℕ } × record { now : List Piece }

-- words in lower case
abbrev pub operator_text : Operator → List ℕ
operator_text o = option_map_or (λ row. row.1.now) (slice_get OPERATORS (tag_of the_type o)) []

-- the line of its nodes
abbrev pub operator_line : Operator → List Piece
operator_line o = option_map_or (λ row. row.2.now) (slice_get OPERATORS (tag_of the_type o)) []

-- the entry of the operator of a node of this kind with this text
abbrev pub entry_of : Kind → List ℕ → Option OperatorEntry
entry_of k text = first_value (λ (row : OperatorRow). row.0) (λ (row : OperatorRow). is_kind row.0.kind k && bytes_eq row.1.now text) OPERATORS
