-- Each part of a spelling, as it is written canonically: its tokens can be told apart. And nodes, from their lines.
use Rattle.std.proofs.Common.{◌≡◌, ℕ, List, [], ◌∷◌, refl, sym, ◌∙◌, ap, subst, Bool, true, false}
use Rattle.ada_tree.specs.declared.kind.Kind.{Kind}
use Rattle.ada_tree.specs.declared.word.Mark.{Mark}
use Rattle.ada_tree.specs.declared.word.Mark.TheVariants as mark
use Rattle.ada_tree.specs.declared.kind.Kind.TheVariants as kind
use Rattle.ada_tree.specs.declared.grammar.Choice.{Choice}
use Rattle.ada_tree.specs.declared.grammar.Choice.TheVariants as choice
use Rattle.ada_tree.specs.declared.grammar.Shape.{Shape}
use Rattle.ada_tree.specs.declared.grammar.Shape.TheVariants.{One}
use Rattle.ada_tree.specs.declared.grammar.Piece.{Piece}
use Rattle.ada_tree.specs.declared.grammar.Argument.{Argument}
use Rattle.ada_tree.specs.declared.node.Node.{Node}
use Rattle.ada_tree.specs.Nodes.{kind_of, text_of, kids_of, is_empty}
use Rattle.ada_tree.specs.Choices.{stands, opens}
use Rattle.ada_tree.specs.Tokens.{a_mark}
use Rattle.ada_tree.specs.Items.{Item, put}
use Rattle.ada_tree.specs.Spelling.{line_of}
use Rattle.ada_tree.specs.Canonical.{Written, is_wrapped, written_node, members, comment_lines, separated, arguments, in_parentheses}
use Rattle.text_laws.proofs.round_trip.Nodes.{bare_admitted, wrapped_admitted}
use Rattle.text_laws.proofs.round_trip.Parentheses.{wrapped_opens, same_line}
use Rattle.text_laws.proofs.round_trip.Written.{as_written, all_written, opened, layer_of, node_items, line_items, Admitted, in_them}
use Rattle.text_laws.proofs.apart.Fronts.{Front, usual, after_mark, linking, gives, takes}
use Rattle.text_laws.proofs.apart.Items.{IsApart, append_apart, widen, token_apart}
use Rattle.text_laws.proofs.apart.Lines.{Use, is_noted_place, needs, is_apart_list, is_apart_mark, is_apart_shape, needs_of, is_apart_line, use_at, noted_standing, apart_line}
use Rattle.text_laws.proofs.apart.Operators.{Operates, same_use, operates, bare_line}

-- ---- the parts

pub record IsLineApart (note : Bool) (pieces : List Piece) (node : Node) (kids : List Node) : Type 0 where
  pub apart : (outer : Bool) (how : Use) (front : Front) → Operates how outer (text_of node) → is_apart_line outer how front false note pieces ≡ true → IsApart note outer front usual (line_items pieces node kids)

-- a node without the parentheses that stand round it
pub record IsBareApart (note : Bool) (place : Choice) (node : Node) : Type 0 where
  pub admitted : Admitted note place (kind_of node) (text_of node)
  pub line : IsLineApart note (line_of place node) node (kids_of node)

pub record IsNodeApart (note : Bool) (place : Choice) (node : Node) : Type 0 where
  pub apart : is_noted_place note place ≡ true → IsApart note note (needs place) usual (node_items place node)

pub record IsKidApart (note : Bool) (shape : Shape) (kid : Node) : Type 0 where
  pub apart : is_apart_shape note shape ≡ true → IsApart note note (needs_of shape) usual ((as_written kid).at shape)

-- and the comments at the end of a list
pub record AreMembersApart (note : Bool) (place : Choice) (nodes : List Node) (notes : List (List ℕ)) : Type 0 where
  pub apart : is_apart_list note place ≡ true → IsApart note note usual usual (members place (all_written nodes))
  pub ends : is_apart_list note place ≡ true → IsApart note note usual usual (comment_lines notes)

pub record AreListedApart (note : Bool) (place : Choice) (m : Mark) (nodes : List Node) : Type 0 where
  pub apart : is_noted_place note place ≡ true → is_apart_mark m ≡ true → IsApart note note usual usual (separated place m (all_written nodes))
  pub some : is_empty nodes ≡ false

pub record AreArgumentsApart (note : Bool) (line : List Argument) (nodes : List Node) : Type 0 where
  pub apart : IsApart note note usual usual (arguments line (all_written nodes))

-- ---- parentheses

pub from_needs : (place : Choice) → gives usual (needs place) ≡ true
from_needs (choice.Only kind.Int) = refl
from_needs (choice.Only _) = refl
from_needs _ = refl

-- they may stand wherever an opening one may
pub enclosed : {note : Bool} {from : Front} {items : List Item} → takes from (a_mark mark.Open) ≡ true → IsApart note note usual usual items → IsApart note note from usual (in_parentheses items)
enclosed {note = note} t i =
    append_apart {middle = after_mark} {need = usual} {front = put (a_mark mark.Open) ∷ []} refl (token_apart (a_mark mark.Open) refl t)
    (append_apart {middle = usual} {need = linking} refl i (widen {from = linking} {need = linking} {have = after_mark} {to = usual} refl refl (token_apart (a_mark mark.Close) refl refl)))

needs_open : (place : Choice) → takes (needs place) (a_mark mark.Open) ≡ true
needs_open (choice.Only kind.Int) = refl
needs_open (choice.Only _) = refl
needs_open _ = refl

-- ---- a node, from its line

pub node_apart : {note : Bool} {place : Choice} {node : Node} → IsBareApart note place node → IsNodeApart note place node
node_apart {note = note} {place = place} {node = node} c = by_test (is_wrapped place k text) refl
  where
    k : Kind
    k = kind_of node

    text : List ℕ
    text = text_of node

    own_line : List Item
    own_line = line_items (line_of place node) node (kids_of node)

    node_at : node_items place node ≡ written_node place (layer_of node)
    node_at = ap (λ (w : Written). w.at (One place)) (opened node)

    bare : is_noted_place note place ≡ true → stands note place k text ≡ true → is_wrapped place k text ≡ false → IsApart note note (needs place) usual own_line
    bare n h w = c.line.apart note (use_at place k text) (needs place) (operates note place k text n h) (bare_line note place k text n w h)

    wrapped : opens place ≡ true → stands note choice.Expr k text ≡ true → IsApart note note usual usual own_line
    wrapped o h = c.line.apart note (use_at place k text) usual (subst (λ how. Operates how note text) (sym (same_use place k text o)) (operates note choice.Expr k text refl h)) (apart_line note place k text (noted_standing note choice.Expr k text refl h))

    by_test : (b : Bool) → is_wrapped place k text ≡ b → IsNodeApart note place node
    by_test false w = let same : node_items place node ≡ own_line = node_at ∙ rw w refl in record { apart = λ n. rw same (bare n (bare_admitted c.admitted w) w) }
    by_test true w = let same : node_items place node ≡ in_parentheses own_line = node_at ∙ rw w refl in
        record { apart = λ n. rw same (enclosed (needs_open place) (wrapped (wrapped_opens place k text w) (wrapped_admitted c.admitted w))) }

-- a node in superfluous parentheses
pub bare_in_them : {note : Bool} {place : Choice} {node : Node} → opens place ≡ true → IsBareApart note choice.Expr node → IsBareApart note place node
bare_in_them {note = note} {place = place} {node = node} o c = record {
  admitted = in_them o (bare_admitted c.admitted refl);
  line = subst (λ pieces. IsLineApart note pieces node (kids_of node)) (sym (same_line place (kind_of node) (text_of node) o)) c.line;
}
