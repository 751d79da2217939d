-- The written table: which line of the grammar a node has.
use Rattle.std.specs.Prelude.{ℕ, List, [], slice_get}
use Rattle.std.specs.Option.{option_map_or}
use denote.Enum.Declared.{tag_of}
use Rattle.ada_tree.specs.declared.kind.Kind.{Kind}
use Rattle.ada_tree.specs.contracts.kind.Kind.{the_type}
use Rattle.ada_tree.specs.declared.kind.Kind.TheVariants as kind
use Rattle.ada_tree.specs.declared.grammar.Choice.{Choice}
use Rattle.ada_tree.specs.declared.grammar.Choice.TheVariants as choice
use Rattle.ada_tree.specs.declared.grammar.Piece.{Piece}
use Rattle.ada_tree.specs.declared.lines.TheConstants.{LINES}
use Rattle.ada_tree.specs.declared.lines.expressions.TheConstants.{SELECT, SELECT_OF_MARK, SELECT_OF_LEMMA, COEFFICIENT}
use Rattle.ada_tree.specs.Operators.{operator_line, entry_of}

-- the line that the table has for a kind
abbrev pub line_of_kind : Kind → List Piece
line_of_kind k = option_map_or (λ entry. entry.1.now) (slice_get LINES (tag_of the_type k)) []

-- what stands before the dot of a Select depends on the place: in a mark names alone, in a lemma's name a trait's name, and elsewhere a primary
abbrev pub select_line : Choice → List Piece
select_line choice.Mark = SELECT_OF_MARK.now
select_line choice.Dis = SELECT_OF_MARK.now
select_line choice.LemmaName = SELECT_OF_LEMMA.now
select_line _ = SELECT.now

-- the line of a node with an operator
abbrev pub line_by_operator : Kind → List ℕ → List Piece
line_by_operator k text = option_map_or (λ entry. operator_line entry.operator) (entry_of k text) []

-- a coefficient of `linear` may have a minus
abbrev pub unary_line : Choice → List ℕ → List Piece
unary_line choice.Coefficient text = COEFFICIENT.now
unary_line place text = line_by_operator kind.Unary text

-- the line of a kind, at this place and with this text
abbrev pub line : Choice → Kind → List ℕ → List Piece
line place kind.Select text = select_line place
line place kind.Binary text = line_by_operator kind.Binary text
line place kind.Unary text = unary_line place text
line place kind.Member text = line_by_operator kind.Member text
line place kind.Make text = line_by_operator kind.Make text
line place k text = line_of_kind k
