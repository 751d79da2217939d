-- Annotations, traits and proofs begin with their words.
use Rattle.std.proofs.Common.{◌≡◌, ℕ, List, [], ◌∷◌, refl, sym, ◌∙◌, ap, subst, Bool, true, false, ◌&&◌, Option, Some, None, if◌then◌else◌}
use Rattle.std.proofs.lemmas.Bool.{and_parts}
use Rattle.ada_tree.specs.declared.grammar.Choice.TheVariants as choice
use Rattle.ada_tree.specs.declared.grammar.Piece.{Piece}
use Rattle.ada_tree.specs.declared.grammar.Piece.TheVariants.{Word as word_piece, NoteOn}
use Rattle.ada_tree.specs.declared.kind.Kind.{Kind}
use Rattle.ada_tree.specs.declared.node.Node.{Node}
use Rattle.ada_tree.specs.declared.grammar.Choice.{Choice}
use Rattle.ada_tree.specs.declared.part.Rule.TheVariants as rule
use Rattle.ada_tree.specs.declared.word.Word.{Word}
use Rattle.ada_tree.specs.Choices.{on_side}
use Rattle.ada_tree.specs.Kinds.{is_kind}
use Rattle.ada_tree.specs.Lines.{line}
use Rattle.ada_tree.specs.Nodes.{kind_of, text_of, notes_of, kids_of}
use Rattle.ada_tree.specs.Parts.{is_noted}
use Rattle.ada_tree.specs.Reading.{Attached, dropped, waits, taken, passed, standing, takes_comments}
use Rattle.ada_tree.specs.Spelling.{SpellsNode, by_line, in_parentheses, SpellsLine, note_begins, laid_out, its_word}
use Rattle.ada_tree.specs.Tokens.{Event, spelled, comments, Sign}
use Rattle.reading_exact.specs.Whole.{GrammarReads}
use Rattle.text_laws.proofs.round_trip.Places.{same_kind, left_of_three}
use Rattle.text_read.specs.FirstWords.{word_in, first_word}

-- ---- of events

abbrev first_spelled : List Event → Option Word
first_spelled [] = None
first_spelled (comments texts ∷ events) = first_spelled events
first_spelled (spelled note lexeme ∷ events) = word_in lexeme

attached_first : {waiting : List (List ℕ)} {events : List Event} {signs : List Sign} → Attached waiting events signs → first_spelled events ≡ first_word signs
attached_first dropped = refl
attached_first (waits h) = attached_first h
attached_first (taken e h) = attached_first h
attached_first (passed h) = refl

-- comments before a node don't count
standing_first : (place : Choice) (node : Node) (events : List Event) → first_spelled (standing place node events) ≡ first_spelled events
standing_first place node events = by (takes_comments place)
  where
    by : (b : Bool) → first_spelled (if b then comments (notes_of node) ∷ events else events) ≡ first_spelled events
    by true = refl
    by false = refl

-- ---- of lines

line_first : {note : Bool} {w : Word} {pieces : List Piece} {node : Node} {kids : List Node} {events rest : List Event} → SpellsLine note (NoteOn ∷ word_piece w ∷ pieces) node kids events rest → first_spelled events ≡ Some w
line_first (note_begins h) = word_first h
  where
    word_first : {note : Bool} {w : Word} {pieces : List Piece} {node : Node} {kids : List Node} {events rest : List Event} → SpellsLine note (word_piece w ∷ pieces) node kids events rest → first_spelled events ≡ Some w
    word_first (its_word h) = refl
    word_first (laid_out e h) = absurd cc
line_first (laid_out e h) = absurd cc

-- ---- of nodes

node_first : (note : Bool) (k : Kind) (w : Word) (pieces : List Piece) (node : Node) (events rest : List Event) → ((text : List ℕ) → line (choice.Only k) k text ≡ NoteOn ∷ word_piece w ∷ pieces) → SpellsNode note (choice.Only k) node events rest → first_spelled events ≡ Some w
node_first note k w pieces node events rest e (by_line stands place consistent h) =
    let same : k ≡ kind_of node = same_kind k (kind_of node) (and_parts (is_kind k (kind_of node)) (on_side note (kind_of node) (text_of node)) (left_of_three (is_kind k (kind_of node) && on_side note (kind_of node) (text_of node)) stands)).0 in
    line_first (subst (λ l. SpellsLine note l node (kids_of node) events rest) (ap (λ own. line (choice.Only k) own (text_of node)) (sym same) ∙ e (text_of node)) h)
node_first note k w pieces node events rest e (in_parentheses opens h) = absurd cc

-- a text of the part begins with the word
pub begins_with : (k : Kind) (note : Bool) (w : Word) (pieces : List Piece) (signs : List Sign) (node : Node) → ((text : List ℕ) → line (choice.Only k) k text ≡ NoteOn ∷ word_piece w ∷ pieces)
    → GrammarReads record { rule = rule.Of k; note = note } signs node → first_word signs ≡ Some w
begins_with k note w pieces signs node e reads =
    sym (attached_first reads.attached) ∙ standing_first (choice.Only k) node reads.events ∙ node_first (is_noted record { rule = rule.Of k; note = note }) k w pieces node reads.events [] e reads.spelling
