-- The ways to read a node, from the ways to read its kids: what specs/Spelling.antt says, as a computation.
use Rattle.std.proofs.Common.{ℕ, zero, suc, List, [], ◌∷◌, drop, Bool, true, false, not, ◌&&◌, ◌||◌, flat_map, bytes_eq, Option, Some, None}
use Rattle.std.specs.List.{list_all}
use Rattle.ada_tree.specs.declared.kind.Kind.{Kind}
use Rattle.ada_tree.specs.declared.kind.Kind.TheVariants as kind
use Rattle.ada_tree.specs.declared.word.Word.TheVariants as word
use Rattle.ada_tree.specs.declared.word.Mark.{Mark}
use Rattle.ada_tree.specs.declared.word.Mark.TheVariants as mark
use Rattle.ada_tree.specs.declared.grammar.Choice.{Choice}
use Rattle.ada_tree.specs.declared.grammar.Choice.TheVariants as choice
use Rattle.ada_tree.specs.declared.grammar.Shape.{Shape}
use Rattle.ada_tree.specs.declared.grammar.Shape.TheVariants.{One, Any, Many, Listed, MaybeListed, ForAll}
use Rattle.ada_tree.specs.declared.grammar.Piece.{Piece}
use Rattle.ada_tree.specs.declared.grammar.Piece.TheVariants.{Word as a_word_piece, Mark as a_mark_piece, Own, Kid, Members, Arguments, Option as Optional, Shown, End, Indent, Outdent, Glue, NoteOn, NoteOff}
use Rattle.ada_tree.specs.declared.grammar.Argument.{Argument}
use Rattle.ada_tree.specs.declared.grammar.Argument.TheVariants as argument
use Rattle.ada_tree.specs.declared.node.Node.{Node-F}
use Rattle.ada_tree.specs.Kinds.{is_kind}
use Rattle.ada_tree.specs.Nodes.{is_empty}
use Rattle.ada_tree.specs.Tokens.{a_word, a_mark}
use Rattle.ada_tree.specs.Items.{lexemes}
use Rattle.ada_tree.specs.Choices.{stands, opens, comments_of}
use Rattle.ada_tree.specs.Lines.{line}
use Rattle.ada_tree.specs.Rules.{arguments_of}
use Rattle.ada_tree.specs.Texts.{fits_own, own_items, may_be_omitted, is_comment}
use Rattle.ada_tree.specs.Spelling.{has_place, starts_with_comments, ends_with_comments, keeps_comments, argument_place, listed_place}
use Rattle.ada_tree.proofs.evaluator.Ways.{Way, fails, takes_nothing, sequence, either, choose, guarded, is_token, takes_token, takes_tokens, takes_comments}

-- what is asked of a kid, and the ways to read it: itself at a place, by the shape of a kid, and as the arguments of a step
pub record Ways : Type 0 where
  pub kind : Kind
  pub text : List ℕ
  pub notes : List (List ℕ)
  pub without_kids : Bool
  pub components : Bool
  pub node : Bool → Choice → Way
  pub kid : Bool → Shape → Way
  pub arguments : Bool → List Argument → Way

-- ---- the tests of specs/Nodes.antt and specs/Spelling.antt

abbrev pub silent : Ways → Bool
silent w = is_empty w.notes

abbrev pub lists : Ways → Bool
lists w = is_kind w.kind kind.List && is_empty w.text

abbrev pub empty_list : Ways → Bool
empty_list w = lists w && silent w && w.without_kids

abbrev pub left_out_part : Ways → Bool
left_out_part w = is_kind w.kind kind.None && is_empty w.text && silent w && w.without_kids

abbrev pub empty_lists : ℕ → List Ways → Bool
empty_lists zero ws = true
empty_lists (suc count) [] = false
empty_lists (suc count) (w ∷ ws) = empty_list w && empty_lists count ws

abbrev pub are_component_ways : List Ways → Bool
are_component_ways [] = false
are_component_ways (w ∷ []) = is_kind w.kind kind.Assoc
are_component_ways (w ∷ other ∷ ws) = true

abbrev pub consistent : Kind → List ℕ → List Ways → Bool
consistent kind.SubBody text [] = false
consistent kind.SubBody text (spec ∷ ws) = bytes_eq spec.text text
consistent kind.Aggr text [] = false
consistent kind.Aggr text (list ∷ ws) = list.components
consistent _ text ws = true

-- ---- lists

abbrev pub member_ways : List Ways → Bool → Choice → Bool → List (List ℕ) → Way
member_ways [] note place first notes events =
    choose (ends_with_comments (comments_of place)) (guarded (list_all is_comment notes) (takes_comments notes)) (guarded (is_empty notes) takes_nothing) events
member_ways (w ∷ ws) note place first notes events =
    choose (starts_with_comments (comments_of place) first)
    (guarded (list_all is_comment w.notes) (sequence (takes_comments w.notes) (sequence (w.node note place) (member_ways ws note place false notes))))
    (guarded (keeps_comments (comments_of place) || silent w) (sequence (w.node note place) (member_ways ws note place false notes)))
    events

abbrev pub listed_ways : List Ways → Bool → Choice → Mark → Way
listed_ways [] note place m events = []
listed_ways (w ∷ ws) note place m events =
    guarded (silent w) (either (guarded (is_empty ws) (w.node note place)) (sequence (sequence (w.node note place) (takes_token note (a_mark m))) (listed_ways ws note place m))) events

-- ---- arguments of proof steps

-- at the place that there may be
abbrev pub placed : Option Choice → (Choice → Way) → Way
placed None way events = []
placed (Some place) way events = way place events

-- the first one, and what is left
abbrev pub with_first : List Ways → (Ways → List Ways → Way) → Way
with_first [] way events = []
with_first (w ∷ ws) way events = way w ws events

abbrev pub in_number_ways : List Ways → Bool → Way
in_number_ways [] note events = events ∷ []
in_number_ways (w ∷ []) note events = guarded (silent w) (sequence (takes_token note (a_word word.In)) (w.node note (choice.Only kind.Int))) events
in_number_ways (w ∷ other ∷ ws) note events = []

abbrev pub list_argument_ways : List Ways → Bool → Choice → Way
list_argument_ways [] note place events = events ∷ []
list_argument_ways (w ∷ ws) note place events =
    sequence (takes_token note (a_mark mark.Open)) (sequence (listed_ways (w ∷ ws) note place mark.Comma) (takes_token note (a_mark mark.Close))) events

-- what only the last argument may be
abbrev pub last_argument_ways : Argument → List Argument → List Ways → Bool → Way
last_argument_ways a (other ∷ others) ws note events = []
last_argument_ways argument.InNumber [] ws note events = in_number_ways ws note events
last_argument_ways a [] ws note events = placed (listed_place a) (list_argument_ways ws note) events

abbrev pub argument_ways : List Argument → List Ways → Bool → Way
argument_ways [] ws note events = guarded (is_empty ws) takes_nothing events
argument_ways (a ∷ others) ws note events =
    either (with_first ws (λ w more. placed (argument_place a) (λ place. guarded (silent w) (sequence (w.node note place) (argument_ways others more note)))))
    (last_argument_ways a others ws note) events

-- ---- lines

-- what is left of the line; `skips` tells that a part of it is left out up to its end
abbrev pub line_ways : List Piece → Bool → Bool → List ℕ → List (List ℕ) → List Ways → Way
line_ways [] skips note text notes ws events = guarded (is_empty ws) takes_nothing events
line_ways (End ∷ pieces) skips note text notes ws events = line_ways pieces false note text notes ws events
line_ways (_ ∷ pieces) true note text notes ws events = line_ways pieces true note text notes ws events
line_ways (a_word_piece w ∷ pieces) false note text notes ws events = sequence (takes_token note (a_word w)) (line_ways pieces false note text notes ws) events
line_ways (a_mark_piece m ∷ pieces) false note text notes ws events = sequence (takes_token note (a_mark m)) (line_ways pieces false note text notes ws) events
line_ways (Own own ∷ pieces) false note text notes ws events =
    guarded (fits_own note own text)
    (either (sequence (takes_tokens note (lexemes (own_items own text))) (line_ways pieces false note text notes ws))
    (guarded (may_be_omitted own text) (line_ways pieces false note text notes ws)))
    events
line_ways (Kid shape ∷ pieces) false note text notes ws events = with_first ws (λ w more. sequence (w.kid note shape) (line_ways pieces false note text notes more)) events
line_ways (Members place ∷ pieces) false note text notes ws events = guarded (is_empty pieces) (member_ways ws note place true notes) events
line_ways (Arguments ∷ pieces) false note text notes ws events =
    with_first ws (λ w more. sequence (w.arguments note (arguments_of text)) (line_ways pieces false note text notes more)) events
line_ways (Optional ∷ pieces) false note text notes ws events =
    either (line_ways pieces false note text notes ws) (with_first ws (λ w more. guarded (left_out_part w) (line_ways pieces true note text notes more))) events
line_ways (Shown count ∷ pieces) false note text notes ws events =
    choose (empty_lists count ws) (line_ways pieces true note text notes (drop count ws)) (line_ways pieces false note text notes ws) events
line_ways (Indent ∷ pieces) false note text notes ws events = line_ways pieces false note text notes ws events
line_ways (Outdent ∷ pieces) false note text notes ws events = line_ways pieces false note text notes ws events
line_ways (Glue ∷ pieces) false note text notes ws events = line_ways pieces false note text notes ws events
line_ways (NoteOn ∷ pieces) false note text notes ws events = choose note fails (line_ways pieces false true text notes ws) events
line_ways (NoteOff ∷ pieces) false note text notes ws events = guarded note (line_ways pieces false false text notes ws) events

-- ---- nodes

abbrev pub plain_ways : Kind → List ℕ → List (List ℕ) → List Ways → Bool → Choice → Way
plain_ways k text notes ws note place events =
    guarded (stands note place k text)
    (λ events. guarded (has_place (line place k text) text && consistent k text ws) (λ events. line_ways (line place k text) false note text notes ws events) events)
    events

-- so read, or in parentheses
abbrev pub bracketed : Bool → (Choice → Way) → Choice → Way
bracketed note plain place [] = plain place []
bracketed note plain place (event ∷ events) =
    either (plain place) (guarded (opens place && is_token note (a_mark mark.Open) event) (λ all. flat_map (takes_token note (a_mark mark.Close)) (bracketed note plain choice.Expr events))) (event ∷ events)

-- by the shape, from the ways to read the node itself
abbrev pub kid_ways : Bool → Bool → Bool → (Choice → Way) → List Ways → List (List ℕ) → Bool → Shape → Way
kid_ways is_list is_silent is_empty_list node ws notes note (One place) events = guarded is_silent (node place) events
kid_ways is_list is_silent is_empty_list node ws notes note (Any place) events = guarded is_list (member_ways ws note place true notes) events
kid_ways is_list is_silent is_empty_list node ws notes note (Many place) events = guarded (is_list && not (is_empty ws)) (member_ways ws note place true notes) events
kid_ways is_list is_silent is_empty_list node ws notes note (Listed place m) events = guarded (is_list && is_silent) (listed_ways ws note place m) events
kid_ways is_list is_silent is_empty_list node ws notes note (MaybeListed place m) events =
    either (guarded (is_list && is_silent) (listed_ways ws note place m)) (guarded is_empty_list takes_nothing) events
kid_ways is_list is_silent is_empty_list node ws notes note ForAll events =
    either (guarded (is_list && is_silent) (sequence (takes_token note (a_word word.For)) (sequence (takes_token note (a_word word.All)) (listed_ways ws note (choice.Only kind.Vars) mark.Semicolon))))
    (guarded is_empty_list takes_nothing) events

abbrev pub node_ways : Kind → List ℕ → List (List ℕ) → List Ways → Bool → Choice → Way
node_ways k text notes ws note place events = bracketed note (plain_ways k text notes ws note) place events

abbrev pub all_ways : Kind → List ℕ → List (List ℕ) → List Ways → Ways
all_ways k text notes ws = record {
  kind = k;
  text = text;
  notes = notes;
  without_kids = is_empty ws;
  components = are_component_ways ws;
  node = λ note place. node_ways k text notes ws note place;
  kid = λ note shape. kid_ways (is_kind k kind.List && is_empty text) (is_empty notes) ((is_kind k kind.List && is_empty text) && is_empty notes && is_empty ws) (node_ways k text notes ws note) ws notes note shape;
  arguments = λ note those. guarded ((is_kind k kind.List && is_empty text) && is_empty notes) (argument_ways those ws note);
}

abbrev pub layer_ways : Node-F Ways → Ways
layer_ways layer = all_ways layer.kind layer.text layer.notes layer.kids
