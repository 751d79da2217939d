-- What is shown of each part of a spelling: it has a canonical spelling, which any events may follow, and its tokens and comments are those of the canonical items.
use Rattle.std.proofs.Common.{◌≡◌, ℕ, List, [], ◌++◌, Bool, true, false, not, ◌&&◌, ◌||◌, map}
use Rattle.ada_tree.specs.declared.kind.Kind.{Kind}
use Rattle.ada_tree.specs.declared.kind.Kind.TheVariants as kind
use Rattle.ada_tree.specs.declared.word.Mark.{Mark}
use Rattle.ada_tree.specs.declared.grammar.Choice.{Choice}
use Rattle.ada_tree.specs.declared.grammar.Choice.TheVariants as choice
use Rattle.ada_tree.specs.declared.grammar.Shape.{Shape}
use Rattle.ada_tree.specs.declared.grammar.Shape.TheVariants.{One}
use Rattle.ada_tree.specs.declared.grammar.Piece.{Piece}
use Rattle.ada_tree.specs.declared.grammar.Argument.{Argument}
use Rattle.ada_tree.specs.declared.node.Node.{Node, Node-F, fold-Node, fold_out-Node}
use Rattle.ada_tree.specs.Kinds.{is_kind}
use Rattle.ada_tree.specs.Nodes.{kind_of, text_of, notes_of, kids_of, is_empty, is_empty_list, are_empty}
use Rattle.ada_tree.specs.Tokens.{Event}
use Rattle.ada_tree.specs.Items.{Item, signs}
use Rattle.ada_tree.specs.Choices.{comments_of, stands, opens}
use Rattle.ada_tree.specs.Reading.{Attached}
use Rattle.ada_tree.specs.Spelling.{SpellsNode, SpellsKid, SpellsMembers, SpellsListed, SpellsLine, SpellsArguments, line_of, has_place, is_consistent, starts_with_comments, ends_with_comments, keeps_comments}
use Rattle.ada_tree.specs.Canonical.{Written, written, written_line, members, separated, arguments, comment_lines, are_bare, is_left_out}
use Rattle.text_laws.proofs.round_trip.Places.{is_open, is_plain, is_sure, is_proper}
use Rattle.text_laws.proofs.round_trip.Lines.{is_sound_list, is_open_list, is_sound_shape, is_open_shape, is_plain_shape, is_sure_shape, has_kid, is_sound_list_shape, has_lists, is_plain_line, is_sound_line}
use Rattle.text_laws.proofs.round_trip.Items.{begin_plainly}

-- ---- what a node is written as

abbrev pub as_written : Node → Written
as_written = fold-Node Written written

abbrev pub all_written : List Node → List Written
all_written nodes = map as_written nodes

abbrev pub layer_of : Node → Node-F Written
layer_of node = record { kind = kind_of node; text = text_of node; notes = notes_of node; kids = all_written (kids_of node) }

pub opened : (node : Node) → as_written node ≡ written (layer_of node)
opened node = fold_out-Node Written written node

abbrev pub node_items : Choice → Node → List Item
node_items place node = (as_written node).at (One place)

abbrev pub line_items : List Piece → Node → List Node → List Item
line_items pieces node kids = written_line false pieces (text_of node) (notes_of node) (all_written kids)

abbrev pub member_items : Choice → List Node → List (List ℕ) → List Item
member_items place nodes notes = members place (all_written nodes) ++ comment_lines notes

-- ---- where a node stands: as it is, or in parentheses

pub data Admitted (note : Bool) (place : Choice) (k : Kind) (text : List ℕ) : Type 0 where
  as_it_is : stands note place k text ≡ true → Admitted note place k text
  in_them : opens place ≡ true → stands note choice.Expr k text ≡ true → Admitted note place k text

-- ---- the parts of a spelling

pub record IsLineWritten (note : Bool) (pieces : List Piece) (node : Node) (kids : List Node) : Type 0 where
  pub events : List Event → List Event
  pub spelling : (rest : List Event) → SpellsLine note pieces node kids (events rest) rest
  pub attached : (outer fine : Bool) (rest : List Event) (items : List Item) → is_sound_line outer fine false note pieces ≡ true → (fine ≡ true → begin_plainly items ≡ true) → Attached [] rest (signs outer items)
      → Attached [] (events rest) (signs note (line_items pieces node kids ++ items))
  pub plain : (fine : Bool) (items : List Item) → is_plain_line fine false pieces ≡ true → (fine ≡ true → begin_plainly items ≡ true) → begin_plainly (line_items pieces node kids ++ items) ≡ true
  -- a part that is there isn't None, and one without members has no comments
  pub there : has_kid pieces ≡ true → is_left_out (all_written kids) ≡ false
  pub bare : (count : ℕ) → has_lists pieces count ≡ true → are_bare count (all_written kids) ≡ true → are_empty count kids ≡ true

-- a node without the parentheses that stand round it
pub record IsStripped (note : Bool) (place : Choice) (node : Node) : Type 0 where
  pub admitted : Admitted note place (kind_of node) (text_of node)
  pub placed : has_place (line_of place node) (text_of node) ≡ true
  pub consistent : is_consistent (kind_of node) (text_of node) (kids_of node) ≡ true
  pub line : IsLineWritten note (line_of place node) node (kids_of node)

pub record IsNodeWritten (note : Bool) (place : Choice) (node : Node) : Type 0 where
  pub events : List Event → List Event
  pub spelling : (rest : List Event) → SpellsNode note place node (events rest) rest
  pub attached : (rest : List Event) (items : List Item) → is_proper place ≡ true → (is_open place ≡ true → begin_plainly items ≡ true) → Attached [] rest (signs note items)
      → Attached [] (events rest) (signs note (node_items place node ++ items))
  pub plain : (items : List Item) → is_plain place ≡ true → is_sure place || begin_plainly items ≡ true → begin_plainly (node_items place node ++ items) ≡ true
  pub there : is_proper place ≡ true → is_kind (kind_of node) kind.None ≡ false

pub record IsKidWritten (note : Bool) (shape : Shape) (kid : Node) : Type 0 where
  pub events : List Event → List Event
  pub spelling : (rest : List Event) → SpellsKid note shape kid (events rest) rest
  pub attached : (rest : List Event) (items : List Item) → is_sound_shape shape ≡ true → (is_open_shape shape ≡ true → begin_plainly items ≡ true) → Attached [] rest (signs note items)
      → Attached [] (events rest) (signs note ((as_written kid).at shape ++ items))
  pub plain : (items : List Item) → is_plain_shape shape ≡ true → is_sure_shape shape || begin_plainly items ≡ true → begin_plainly ((as_written kid).at shape ++ items) ≡ true
  pub there : is_sound_shape shape ≡ true → is_kind (kind_of kid) kind.None ≡ false
  pub bare : is_sound_list_shape shape ≡ true → is_empty (kids_of kid) ≡ true → is_empty_list kid ≡ true

pub record AreMembersWritten (note : Bool) (place : Choice) (first : Bool) (nodes : List Node) (notes : List (List ℕ)) : Type 0 where
  pub events : List Event → List Event
  pub spelling : (rest : List Event) → SpellsMembers note place first nodes notes (events rest) rest
  pub attached : (rest : List Event) (items : List Item) → is_sound_list place ≡ true → (is_open_list place ≡ true → begin_plainly items ≡ true) → Attached [] rest (signs note items)
      → Attached [] (events rest) (signs note (member_items place nodes notes ++ items))
  pub plain : (items : List Item) → is_plain place ≡ true → starts_with_comments (comments_of place) first ≡ false → ends_with_comments (comments_of place) ≡ false → keeps_comments (comments_of place) ≡ false → begin_plainly items ≡ true
      → begin_plainly (member_items place nodes notes ++ items) ≡ true
  pub silent : ends_with_comments (comments_of place) ≡ false → is_empty notes ≡ true

pub record AreListedWritten (note : Bool) (place : Choice) (m : Mark) (nodes : List Node) : Type 0 where
  pub events : List Event → List Event
  pub spelling : (rest : List Event) → SpellsListed note place m nodes (events rest) rest
  pub attached : (rest : List Event) (items : List Item) → is_proper place && not (is_open place) ≡ true → Attached [] rest (signs note items)
      → Attached [] (events rest) (signs note (separated place m (all_written nodes) ++ items))
  pub plain : (items : List Item) → is_plain place ≡ true → begin_plainly items ≡ true → begin_plainly (separated place m (all_written nodes) ++ items) ≡ true
  pub some : is_empty nodes ≡ false

pub record AreArgumentsWritten (note : Bool) (line : List Argument) (nodes : List Node) : Type 0 where
  pub events : List Event → List Event
  pub spelling : (rest : List Event) → SpellsArguments note line nodes (events rest) rest
  pub attached : (rest : List Event) (items : List Item) → Attached [] rest (signs note items) → Attached [] (events rest) (signs note (arguments line (all_written nodes) ++ items))
