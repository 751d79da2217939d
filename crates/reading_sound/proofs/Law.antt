-- What the table reads as a part of the grammar is spelled as the part.
use Rattle.std.proofs.Common.{◌≡◌, ℕ, List, [], ◌∷◌, refl, sym, subst, Bool, true, false, not, ◌&&◌, ◌||◌}
use Rattle.std.specs.List.{list_all}
use Rattle.std.proofs.lemmas.Bool.{not-true, or_right}
use denote.Enum.Bare.{same_true}
use Rattle.ada_tree.specs.contracts.kind.Kind as kind_row
use Rattle.ada_tree.specs.declared.grammar.Choice.{Choice}
use Rattle.ada_tree.specs.declared.grammar.Choice.TheVariants as choice
use Rattle.ada_tree.specs.declared.kind.Kind.TheVariants as kind
use Rattle.ada_tree.specs.declared.node.Node.{Node}
use Rattle.ada_tree.specs.declared.part.Part.{Part as GrammarPart}
use Rattle.ada_tree.specs.declared.part.Rule.{Rule as GrammarRule}
use Rattle.ada_tree.specs.declared.part.Rule.TheVariants as rule
use Rattle.ada_tree.specs.Choices.{comments_of}
use Rattle.ada_tree.specs.Kinds.{is_kind}
use Rattle.ada_tree.specs.Nodes.{notes_of, is_silent}
use Rattle.ada_tree.specs.Parts.{place_of, is_noted}
use Rattle.ada_tree.specs.Spelling.{SpellsNode, SpellsMembers, its_members, keeps_comments}
use Rattle.ada_tree.specs.Texts.{is_comment}
use Rattle.ada_tree.specs.Tokens.{Event, comments}
use Rattle.reading_table.specs.declared.held.Held.{Held}
use Rattle.reading_table.specs.declared.held.Held.TheVariants as held
use Rattle.reading_table.specs.Events.{Reads}
use Rattle.reading_table.specs.Reading.{is_side}
use Rattle.reading_table.specs.Rows.{Placed}
use Rattle.reading_table.specs.Spelled.{has_texts, are_events, start_of}
use Rattle.reading_table.proofs.Predictive.{all_has}
use Rattle.text_laws.proofs.round_trip.Places.{both}
use Rattle.reading_sound.specs.Spelled.{IsSpelled}
use Rattle.reading_sound.proofs.Conditions.{walk}
use Rattle.reading_sound.proofs.Equal.{one_side, one_place}
use Rattle.reading_sound.proofs.Follows.{follows}
use Rattle.reading_sound.proofs.Lists.{standing, first_or_not, ended_holding, holding}
use Rattle.reading_sound.proofs.Meaning.{IsMember, alone, commented, Leaves, stands, begins, goes_on, Runs, nothing, last}
use Rattle.reading_sound.proofs.Nodes.{spelled_node}
use Rattle.reading_sound.proofs.Sound.{sound}
use Rattle.reading_sound.proofs.Traces.{stood, begun, rest, Stack, stands_in, same_place}

-- The events are a text of the node by itself: they spell it at the place, after the comments that belong to it, or without any but a file's own.
pub data StandsAlone : Bool → Choice → Bool → Node → List Event → List Event → Type 0 where
  without_comments : {note : Bool} {p : Choice} {node : Node} {e f : List Event} → keeps_comments (comments_of p) || is_silent node ≡ true → SpellsNode note p node e f → StandsAlone note p false node e f
  with_comments : {note : Bool} {p : Choice} {node : Node} {e f : List Event} → list_all is_comment (notes_of node) ≡ true → SpellsNode note p node e f
      → StandsAlone note p true node (comments (notes_of node) ∷ e) f

-- one node that stands at the place, with the comments before it or without any; or a file, which is a list until all is read
abbrev pub is_whole : Bool → Choice → Bool → Stack → Bool
is_whole note p c (stood n d ps ∷ []) = is_side note n && (is_side d c && stands_in ps p)
is_whole note p c (rest n q ∷ begun k ∷ []) = (not c && (not note && not n)) && (same_place q choice.Item && (same_place p (choice.Only kind.File) && is_kind k kind.File))
is_whole note p c _ = false

-- whatever the line reads is such a node
abbrev pub leaves_one : Bool → Choice → Bool → List Placed → Bool
leaves_one note p c line = list_all (is_whole note p c) (walk line [])

abbrev pub IsOne : Bool → Choice → Bool → List Held → List Event → List Event → Type 0
IsOne note p c w e f = (node : Node) × (w ≡ held.Tree node ∷ []) × StandsAlone note p c node e f

file : {nodes : List Node} {notes : List (List ℕ)} {e f : List Event} → SpellsMembers false choice.Item false nodes notes e f → SpellsNode false (choice.Only kind.File) (holding kind.File nodes notes) e f
file {nodes = nodes} {notes = notes} {e = e} {f = f} ds =
    spelled_node false (choice.Only kind.File) kind.File [] notes nodes refl refl refl
    (λ node t s. its_members (subst (λ ns. SpellsMembers false choice.Item true nodes ns e f) (sym s) (first_or_not refl ds)))

whole_file : {w : List Held} {e f : List Event} → Leaves (rest false choice.Item) (held.Tree (holding kind.File [] []) ∷ []) e w f → IsOne false (choice.Only kind.File) false w e f
whole_file (goes_on {nodes = nodes} {notes = notes} ds) = (holding kind.File nodes notes, ended_holding kind.File [] [] ds, without_comments refl (file ds))

member : {n d : Bool} {ps : List Choice} {node : Node} {e f : List Event} (p : Choice) → stands_in ps p ≡ true → IsMember n d ps node e f → StandsAlone n p d node e f
member {node = node} p h (alone s at) = without_comments (or_right (keeps_comments (comments_of p)) (is_silent node) s) (standing p h at)
member p h (commented s at) = with_comments s (standing p h at)

whole_node : {note n c d : Bool} {p : Choice} {ps : List Choice} {node : Node} {e f : List Event} → note ≡ n → (is_side d c && stands_in ps p) ≡ true → IsMember n d ps node e f → StandsAlone note p c node e f
whole_node {n = n} {c = c} {d = d} {p = p} {node = node} {e = e} {f = f} q h m =
    subst (λ n. StandsAlone n p c node e f) (sym q) (subst (λ d. StandsAlone n p d node e f) (one_side d c (both h).0) (member p (both h).1 m))

whole : {w : List Held} {e f : List Event} (note : Bool) (p : Choice) (c : Bool) (stack : Stack) → is_whole note p c stack ≡ true → Runs stack [] e w f → IsOne note p c w e f
whole note p c (stood n d ps ∷ []) h (last nothing (stands {node = node} i)) = (node, refl, whole_node (one_side note n (both h).0) (both h).1 i)
whole {w = w} {e = e} {f = f} note p c (rest n q ∷ begun k ∷ []) h (last (last nothing begins) d) =
    let bare = both (both h).0 in
    let sides = both bare.1 in
    let places = both (both h).1 in
    let file_place = both places.1 in
    subst (λ c. IsOne note p c w e f) (sym (not-true c bare.0)) (subst (λ note. IsOne note p false w e f) (sym (not-true note sides.0))
    (subst (λ p. IsOne false p false w e f) (sym (one_place p (choice.Only kind.File) file_place.0))
    (whole_file (subst (λ n. Leaves (rest n choice.Item) (held.Tree (holding kind.File [] []) ∷ []) e w f) (not-true n sides.1)
    (subst (λ q. Leaves (rest n q) (held.Tree (holding kind.File [] []) ∷ []) e w f) (one_place q choice.Item places.0)
    (subst (λ k. Leaves (rest n q) (held.Tree (holding k [] []) ∷ []) e w f) (same_true kind_row.the_type tt k kind.File file_place.1) d))))))
whole note p c _ h r = absurd cc

-- What a line reads that leaves one node is a text of the node.
pub line_is_spelled : (note : Bool) (p : Choice) (c : Bool) (line : List Placed) (events : List Event) (values : List Held) → leaves_one note p c line ≡ true → are_events events ≡ true → Reads line [] events values
    → IsOne note p c values events []
line_is_spelled note p c line events values h x d =
    let run = sound line [] (follows d) x nothing in
    whole note p c run.0 (all_has (is_whole note p c) (walk line []) run.0 h run.1) run.2

starts : (r : GrammarRule) (note : Bool) → has_texts record { rule = r; note = note } ≡ true
    → leaves_one (is_noted record { rule = r; note = note }) (place_of r) false (start_of record { rule = r; note = note }) ≡ true
starts (rule.Of kind.Doc) note h = absurd cc
starts (rule.Of kind.List) note h = absurd cc
starts (rule.Of kind.None) note h = absurd cc
starts (rule.Of _) true h = refl
starts (rule.Of _) false h = refl
starts _ true h = refl
starts _ false h = refl

spelling_of : {note : Bool} {p : Choice} {node : Node} {e f : List Event} → StandsAlone note p false node e f → SpellsNode note p node e f
spelling_of (without_comments s d) = d

pub read_is_spelled : (p : GrammarPart) (events : List Event) (values : List Held) → has_texts p ≡ true → are_events events ≡ true → Reads (start_of p) [] events values → IsSpelled p events values
read_is_spelled p events values h x d =
    let one = line_is_spelled (is_noted p) (place_of p.rule) false (start_of p) events values (starts p.rule p.note h) x d in
    record { node = one.0; only = one.1; spells = spelling_of one.2 }
