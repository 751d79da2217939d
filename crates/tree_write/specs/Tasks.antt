-- What is still to be written.
use Rattle.std.specs.Prelude.{ℕ, ◌+◌, List, [], ◌∷◌, ◌++◌, length, map, sum_by, fold, drop, Bool, true, false, if◌then◌else◌}
use Rattle.ada_tree.specs.declared.word.Mark.TheVariants as mark
use Rattle.ada_tree.specs.declared.grammar.Choice.{Choice}
use Rattle.ada_tree.specs.declared.grammar.Shape.TheVariants.{One}
use Rattle.ada_tree.specs.declared.grammar.Argument.{Argument}
use Rattle.ada_tree.specs.declared.grammar.Piece.{Piece}
use Rattle.ada_tree.specs.declared.grammar.Piece.TheVariants.{Word, Mark as its_mark, Own, Indent, Outdent, Glue, NoteOn, NoteOff}
use Rattle.ada_tree.specs.declared.node.Node.{Node, fold-Node}
use Rattle.ada_tree.specs.Nodes.{kind_of, text_of, notes_of, kids_of}
use Rattle.ada_tree.specs.Tokens.{a_word, a_mark}
use Rattle.ada_tree.specs.Items.{Item, put, glue, line_break, indent, outdent, note_on, note_off}
use Rattle.ada_tree.specs.Texts.{own_items}
use Rattle.ada_tree.specs.Lines.{line}
use Rattle.ada_tree.specs.Canonical.{Written, written, written_line, members, marked, arguments, comment_lines}
use Rattle.tree_write.specs.declared.page.Page.{Page}
use Rattle.tree_write.specs.declared.work.Task.{Task}
use Rattle.tree_write.specs.declared.work.Task.TheVariants.{Line, Members, Marked, Arguments, Close, Break, Comments}
use Rattle.tree_write.specs.Ink.{Ink, ink_of, after}

-- what a node is written as
abbrev pub as_written : Node → Written
as_written = fold-Node Written written

abbrev pub all_written : List Node → List Written
all_written nodes = map as_written nodes

-- an argument at this place, and then the others
abbrev pub one_argument : Choice → List Argument → List Written → List Item
one_argument place line [] = []
one_argument place line (k ∷ ks) = k.at (One place) ++ arguments line ks

-- the line of a node at a place
abbrev pub line_items : Choice → Node → List Item
line_items place node = written_line false (line place (kind_of node) (text_of node)) (text_of node) (notes_of node) (all_written (kids_of node))

-- what a piece of a line is written as by itself
abbrev pub piece_items : Piece → List ℕ → List Item
piece_items (Word w) text = put (a_word w) ∷ []
piece_items (its_mark m) text = put (a_mark m) ∷ []
piece_items (Own own) text = own_items own text
piece_items Indent text = indent ∷ []
piece_items Outdent text = outdent ∷ []
piece_items NoteOn text = note_on ∷ []
piece_items NoteOff text = note_off ∷ []
piece_items Glue text = glue ∷ []
piece_items _ text = []

-- a part of a line, which has so many kids and may be left out
abbrev pub part_items : Bool → ℕ → List Piece → Node → List Written → List Item
part_items is_out count pieces node ks = if is_out then written_line true pieces (text_of node) (notes_of node) (drop count ks) else written_line false pieces (text_of node) (notes_of node) ks

abbrev pub task_items : Task → List Item
task_items (Line skip pieces node kids) = written_line skip pieces.now (text_of node.now) (notes_of node.now) (all_written kids.now)
task_items (Members place nodes) = members place (all_written nodes.now)
task_items (Marked place m nodes) = marked place m (all_written nodes.now)
task_items (Arguments line nodes) = arguments line.now (all_written nodes.now)
task_items Close = put (a_mark mark.Close) ∷ []
task_items Break = line_break ∷ []
task_items (Comments notes) = comment_lines notes.now

-- the last task comes first
abbrev pub work_items : List Task → List Item
work_items tasks = fold (λ rest task. task_items task ++ rest) [] tasks

-- what is written when all tasks are done
abbrev pub finished : Page → List Task → Ink
finished page tasks = after (work_items tasks) (ink_of page)

-- ---- a bound on the steps that are left

-- more than the pieces of any line
abbrev pub node_steps : ℕ
node_steps = 64

abbrev pub total : List ℕ → ℕ
total [] = 0
total (n ∷ ns) = n + total ns

abbrev pub node_cost : Node → ℕ
node_cost = fold-Node ℕ (λ layer. node_steps + total layer.kids)

abbrev pub cost_of_all : List Node → ℕ
cost_of_all nodes = total (map node_cost nodes)

abbrev pub line_cost : Choice → Node → ℕ
line_cost place node = 3 + length (line place (kind_of node) (text_of node)) + cost_of_all (kids_of node)

abbrev pub task_cost : Task → ℕ
task_cost (Line skip pieces node kids) = 3 + length pieces.now + cost_of_all kids.now
task_cost (Members place nodes) = 1 + cost_of_all nodes.now
task_cost (Marked place m nodes) = 1 + cost_of_all nodes.now
task_cost (Arguments line nodes) = 1 + cost_of_all nodes.now
task_cost _ = 1

abbrev pub work_cost : List Task → ℕ
work_cost tasks = sum_by task_cost tasks
