-- With which symbols a node of each place is read.
use Rattle.std.specs.Prelude.{List, [], ◌∷◌, Bool, slice_get}
use Rattle.std.specs.Option.{option_map_or}
use denote.Enum.Declared.{tag_of}
use Rattle.ada_tree.specs.contracts.kind.Kind.{the_type}
use Rattle.ada_tree.specs.declared.grammar.Choice.{Choice}
use Rattle.ada_tree.specs.declared.grammar.Choice.TheVariants as choice
use Rattle.ada_tree.specs.declared.operator.Level.TheVariants as level
use Rattle.reading_table.specs.declared.rule.Rule.{Rule}
use Rattle.reading_table.specs.declared.rule.Rule.TheVariants as rule
use Rattle.reading_table.specs.declared.starts.TheConstants.{STARTS}
use Rattle.reading_table.specs.declared.symbol.Symbol.TheVariants as symbol
use Rattle.reading_table.specs.Rows.{Line, Placed, placed}

abbrev by_rule : Rule → Line
by_rule r = symbol.Part r ∷ []

-- of a node at a place where a part of the grammar stands by itself
abbrev pub start_line : Choice → Line
start_line (choice.Only k) = option_map_or (λ entry. entry.1.now) (slice_get STARTS (tag_of the_type k)) []
start_line choice.Item = by_rule rule.Item
start_line choice.Clause = by_rule rule.Clause
start_line choice.Lib = by_rule rule.Lib
start_line choice.Spec = by_rule rule.Spec
start_line choice.Mark = by_rule rule.Mark
start_line choice.Decl = by_rule rule.Decl
start_line choice.Tdef = by_rule rule.Tdef
start_line choice.Dis = by_rule rule.Dis
start_line choice.Choices = by_rule rule.Choices
start_line choice.Choice = by_rule rule.Choice
start_line choice.Stmt = by_rule rule.Stmt
start_line choice.Head = by_rule rule.Head
start_line choice.Expr = by_rule rule.Expr
start_line (choice.Operand level.Prefix) = by_rule rule.Prefix
start_line choice.Arg = by_rule rule.Arg
start_line choice.Wclause = by_rule rule.Wclause
start_line _ = []

-- the same, on a side
abbrev pub start : Bool → Choice → List Placed
start note place = placed note (start_line place)
