-- The canonical text of a tree, as items: a fold over the tree by the written table.
use Rattle.std.specs.Prelude.{ℕ, zero, suc, List, [], ◌∷◌, ◌++◌, map, drop, Bool, true, false, not, ◌&&◌, ◌||◌, if◌then◌else◌, Option, Some, None}
use Rattle.ada_tree.specs.declared.kind.Kind.{Kind}
use Rattle.ada_tree.specs.declared.kind.Kind.TheVariants as kind
use Rattle.ada_tree.specs.declared.word.Word.TheVariants as word
use Rattle.ada_tree.specs.declared.word.Mark.{Mark}
use Rattle.ada_tree.specs.declared.word.Mark.TheVariants as mark
use Rattle.ada_tree.specs.declared.grammar.Choice.{Choice}
use Rattle.ada_tree.specs.declared.grammar.Choice.TheVariants as choice
use Rattle.ada_tree.specs.declared.grammar.Shape.{Shape}
use Rattle.ada_tree.specs.declared.grammar.Shape.TheVariants.{One, Any, Many, Listed, MaybeListed, ForAll}
use Rattle.ada_tree.specs.declared.grammar.Piece.{Piece}
use Rattle.ada_tree.specs.declared.grammar.Piece.TheVariants.{Word, Mark as its_mark, Own, Kid, Members, Arguments, Option as Optional, Shown, End, Indent, Outdent, Glue, NoteOn, NoteOff}
use Rattle.ada_tree.specs.declared.grammar.Argument.{Argument}
use Rattle.ada_tree.specs.declared.grammar.Argument.TheVariants as argument
use Rattle.ada_tree.specs.declared.operator.Level.{Level}
use Rattle.ada_tree.specs.declared.operator.Level.TheVariants as level
use Rattle.ada_tree.specs.declared.node.Node.{Node, Node-F, fold-Node}
use Rattle.ada_tree.specs.Kinds.{is_kind, is_among}
use Rattle.ada_tree.specs.Nodes.{is_empty}
use Rattle.ada_tree.specs.Choices.{is_tight, level_of}
use Rattle.ada_tree.specs.Lines.{line}
use Rattle.ada_tree.specs.Rules.{arguments_of}
use Rattle.ada_tree.specs.Tokens.{a_word, a_mark}
use Rattle.ada_tree.specs.Items.{Item, put, glue, line_break, indent, outdent, note_on, note_off, comment_line}
use Rattle.ada_tree.specs.Texts.{own_items}

-- ---- parentheses

abbrev pub is_compound : Kind → Bool
is_compound k = is_among k (kind.Binary ∷ kind.Unary ∷ kind.Member ∷ kind.All ∷ kind.Exists ∷ kind.Cond ∷ [])

abbrev pub is_looser : Level → Option Level → Bool
is_looser least None = false
is_looser least (Some l) = not (is_tight least (Some l))

-- a node of this kind with this text is written in parentheses at this place
abbrev pub is_wrapped : Choice → Kind → List ℕ → Bool
is_wrapped (choice.Operand level.Prefix) k text = is_compound k || is_kind k kind.Old
is_wrapped (choice.Operand l) k text = is_compound k
is_wrapped (choice.Chain operator) k text = is_compound k
is_wrapped choice.Bound k text = is_looser level.Sum (level_of k text)
is_wrapped place k text = false

-- ---- a node, with what its kids are written as

-- what a node is written as, at each place; its arguments, where it is a list of them; and what the line above asks of it
pub record Written : Type 0 where
  pub kind : Kind
  pub notes : List (List ℕ)
  pub is_bare : Bool
  pub at : Shape → List Item
  pub as_arguments : List Argument → List Item

abbrev pub comment_lines : List (List ℕ) → List Item
comment_lines notes = map comment_line notes

-- members, each on a line with its comments before it
abbrev pub members : Choice → List Written → List Item
members place [] = []
members place (k ∷ ks) = comment_lines k.notes ++ k.at (One place) ++ line_break ∷ members place ks

abbrev pub marked : Choice → Mark → List Written → List Item
marked place m [] = []
marked place m (k ∷ ks) = put (a_mark m) ∷ k.at (One place) ++ marked place m ks

-- members with a mark between them
abbrev pub separated : Choice → Mark → List Written → List Item
separated place m [] = []
separated place m (k ∷ ks) = k.at (One place) ++ marked place m ks

abbrev pub in_parentheses : List Item → List Item
in_parentheses items = put (a_mark mark.Open) ∷ items ++ put (a_mark mark.Close) ∷ []

-- a list of arguments in parentheses, and nothing where there are none
abbrev pub argument_list : Choice → List Written → List Item
argument_list place [] = []
argument_list place (k ∷ ks) = in_parentheses (separated place mark.Comma (k ∷ ks))

abbrev pub arguments : List Argument → List Written → List Item
arguments [] ks = []
arguments (argument.Names ∷ others) ks = argument_list (choice.Only kind.Name) ks
arguments (argument.Terms ∷ others) ks = argument_list choice.Expr ks
arguments (argument.Coefficients ∷ others) ks = argument_list choice.Coefficient ks
arguments (a ∷ others) [] = []
arguments (argument.InNumber ∷ others) (k ∷ ks) = put (a_word word.In) ∷ k.at (One (choice.Only kind.Int)) ++ arguments others ks
arguments (argument.Number ∷ others) (k ∷ ks) = k.at (One (choice.Only kind.Int)) ++ arguments others ks
arguments (argument.Name ∷ others) (k ∷ ks) = k.at (One (choice.Only kind.Name)) ++ arguments others ks
arguments (argument.LemmaName ∷ others) (k ∷ ks) = k.at (One choice.LemmaName) ++ arguments others ks
arguments (argument.Term ∷ others) (k ∷ ks) = k.at (One choice.Expr) ++ arguments others ks

abbrev pub are_bare : ℕ → List Written → Bool
are_bare zero ks = true
are_bare (suc count) [] = false
are_bare (suc count) (k ∷ ks) = k.is_bare && are_bare count ks

abbrev pub is_left_out : List Written → Bool
is_left_out [] = true
is_left_out (k ∷ ks) = is_kind k.kind kind.None

-- A line, with the node's text and comments and what its kids are written as. The first argument tells that a part is left out, up to its end.
abbrev pub written_line : Bool → List Piece → List ℕ → List (List ℕ) → List Written → List Item
written_line skip [] text notes ks = []
written_line skip (End ∷ pieces) text notes ks = written_line false pieces text notes ks
written_line true (piece ∷ pieces) text notes ks = written_line true pieces text notes ks
written_line false (Word w ∷ pieces) text notes ks = put (a_word w) ∷ written_line false pieces text notes ks
written_line false (its_mark m ∷ pieces) text notes ks = put (a_mark m) ∷ written_line false pieces text notes ks
written_line false (Own own ∷ pieces) text notes ks = own_items own text ++ written_line false pieces text notes ks
written_line false (Kid shape ∷ pieces) text notes [] = []
written_line false (Kid shape ∷ pieces) text notes (k ∷ ks) = k.at shape ++ written_line false pieces text notes ks
written_line false (Members place ∷ pieces) text notes ks = members place ks ++ comment_lines notes
written_line false (Arguments ∷ pieces) text notes [] = []
written_line false (Arguments ∷ pieces) text notes (k ∷ ks) = k.as_arguments (arguments_of text) ++ written_line false pieces text notes ks
written_line false (Optional ∷ pieces) text notes ks = if is_left_out ks then written_line true pieces text notes (drop 1 ks) else written_line false pieces text notes ks
written_line false (Shown count ∷ pieces) text notes ks = if are_bare count ks then written_line true pieces text notes (drop count ks) else written_line false pieces text notes ks
written_line false (Indent ∷ pieces) text notes ks = indent ∷ written_line false pieces text notes ks
written_line false (Outdent ∷ pieces) text notes ks = outdent ∷ written_line false pieces text notes ks
written_line false (Glue ∷ pieces) text notes ks = glue ∷ written_line false pieces text notes ks
written_line false (NoteOn ∷ pieces) text notes ks = note_on ∷ written_line false pieces text notes ks
written_line false (NoteOff ∷ pieces) text notes ks = note_off ∷ written_line false pieces text notes ks

abbrev pub for_all : List Written → List Item
for_all [] = []
for_all (k ∷ ks) = put (a_word word.For) ∷ put (a_word word.All) ∷ separated (choice.Only kind.Vars) mark.Semicolon (k ∷ ks)

abbrev pub written_node : Choice → Node-F Written → List Item
written_node place layer = if is_wrapped place layer.kind layer.text then in_parentheses (written_line false (line place layer.kind layer.text) layer.text layer.notes layer.kids) else written_line false (line place layer.kind layer.text) layer.text layer.notes layer.kids

abbrev pub written_at : Node-F Written → Shape → List Item
written_at layer (One place) = written_node place layer
written_at layer (Any place) = members place layer.kids ++ comment_lines layer.notes
written_at layer (Many place) = members place layer.kids ++ comment_lines layer.notes
written_at layer (Listed place m) = separated place m layer.kids
written_at layer (MaybeListed place m) = separated place m layer.kids
written_at layer ForAll = for_all layer.kids

abbrev pub written : Node-F Written → Written
written layer = record { kind = layer.kind; notes = layer.notes; is_bare = is_empty layer.kids; at = written_at layer; as_arguments = λ line. arguments line layer.kids }

-- the canonical text of a node that stands at a place of this shape
unfoldable pub items_of : Shape → Node → List Item
items_of shape node = (fold-Node Written written node).at shape
