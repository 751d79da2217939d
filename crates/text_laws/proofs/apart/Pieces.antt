-- Lines, piece by piece: their tokens can be told apart.
use Rattle.std.proofs.Common.{◌≡◌, ℕ, List, [], ◌∷◌, refl, sym, ◌∙◌, ap, subst, Bool, true, false, ◌&&◌, drop}
use Rattle.ada_tree.specs.declared.word.Word.{Word}
use Rattle.ada_tree.specs.declared.word.Mark.{Mark}
use Rattle.ada_tree.specs.declared.grammar.Choice.{Choice}
use Rattle.ada_tree.specs.declared.grammar.Own.{Own as OwnText}
use Rattle.ada_tree.specs.declared.grammar.Own.TheVariants as own
use Rattle.ada_tree.specs.declared.grammar.Shape.{Shape}
use Rattle.ada_tree.specs.declared.grammar.Piece.{Piece}
use Rattle.ada_tree.specs.declared.grammar.Piece.TheVariants.{Word as a_word_piece, Mark as a_mark_piece, Own, Kid, Members, Arguments, Option as Optional, Shown, End, Indent, Outdent, Glue, NoteOn, NoteOff}
use Rattle.ada_tree.specs.declared.node.Node.{Node}
use Rattle.ada_tree.specs.Nodes.{text_of, notes_of, kids_of, is_none, are_empty}
use Rattle.ada_tree.specs.Texts.{fits_own, own_items}
use Rattle.ada_tree.specs.Rules.{arguments_of}
use Rattle.ada_tree.specs.Tokens.{a_word, a_mark}
use Rattle.ada_tree.specs.Items.{put, glue, indent, outdent, note_on, note_off}
use Rattle.ada_tree.specs.Spelling.{after_end, is_layout}
use Rattle.ada_tree.specs.Canonical.{Written}
use Rattle.text_laws.proofs.round_trip.Places.{both}
use Rattle.text_laws.proofs.round_trip.Lines.{has_lists}
use Rattle.text_laws.proofs.round_trip.Written.{as_written, opened, line_items, IsLineWritten}
use Rattle.text_laws.proofs.round_trip.Layouts.{given_items, left_out_items, shown_items, hidden_items}
use Rattle.lex_ada.specs.Rendered.{is_fitting}
use Rattle.text_laws.proofs.apart.Fronts.{Front, usual, after_mark, starting, gives, glued, front_after, takes}
use Rattle.text_laws.proofs.apart.Items.{IsApart, nothing_apart, append_apart, widen, token_apart, glue_apart, indent_apart, outdent_apart, note_on_apart, note_off_apart, same_front}
use Rattle.text_laws.proofs.apart.Texts.{is_noted_own, own_apart}
use Rattle.text_laws.proofs.apart.Lines.{Use, before_use, after_use, is_used, is_same, is_apart_shape, needs_of, is_apart_list, is_apart_line, apart_skipped}
use Rattle.text_laws.proofs.apart.Operators.{Operates}
use Rattle.text_laws.proofs.apart.Parts.{IsLineApart, IsKidApart, AreMembersApart, AreArgumentsApart}
use Rattle.text_laws.proofs.apart.Lists.{both_apart}

-- ---- the end of a line, words, marks and layout

same_note : (outer now : Bool) → is_same outer now ≡ true → outer ≡ now
same_note true true h = refl
same_note true false h = absurd cc
same_note false true h = absurd cc
same_note false false h = refl

pub line_done : (note : Bool) (node : Node) → IsLineApart note [] node []
line_done note node = record {
  apart = λ outer how front o h. subst (λ after. IsApart note after front usual []) (sym (same_note outer note (both h).0)) (nothing_apart (both h).1);
}

pub line_word : {note : Bool} {pieces : List Piece} {node : Node} {kids : List Node} (w : Word) → IsLineApart note pieces node kids → IsLineApart note (a_word_piece w ∷ pieces) node kids
line_word {note = note} {pieces = pieces} w others = record {
  apart = λ outer how front o h.
      let own : is_fitting note (a_word w) && takes front (a_word w) ≡ true = (both {b = is_apart_line outer how usual false note pieces} h).0 in
      append_apart {middle = usual} {need = usual} {front = put (a_word w) ∷ []} refl (token_apart (a_word w) (both own).0 (both {b = takes front (a_word w)} own).1)
      (others.apart outer how usual o (both {b = is_apart_line outer how usual false note pieces} h).1);
}

pub line_mark : {note : Bool} {pieces : List Piece} {node : Node} {kids : List Node} (m : Mark) → IsLineApart note pieces node kids → IsLineApart note (a_mark_piece m ∷ pieces) node kids
line_mark {note = note} {pieces = pieces} m others = record {
  apart = λ outer how front o h.
      let parts : (takes front (a_mark m) ≡ true) × (is_apart_line outer how (front_after (a_mark m)) false note pieces ≡ true) = both h in
      append_apart {middle = front_after (a_mark m)} {need = front_after (a_mark m)} {front = put (a_mark m) ∷ []} (same_front (front_after (a_mark m))) (token_apart (a_mark m) refl parts.0)
      (others.apart outer how (front_after (a_mark m)) o parts.1);
}

pub line_laid_out : {note : Bool} {pieces : List Piece} {node : Node} {kids : List Node} (piece : Piece) → is_layout piece ≡ true → IsLineApart note pieces node kids → IsLineApart note (piece ∷ pieces) node kids
line_laid_out Indent l others = record {
  apart = λ outer how front o h. append_apart {middle = after_mark} {need = after_mark} {front = indent ∷ []} refl indent_apart (others.apart outer how after_mark o h);
}
line_laid_out Outdent l others = record {
  apart = λ outer how front o h. append_apart {middle = after_mark} {need = after_mark} {front = outdent ∷ []} refl outdent_apart (others.apart outer how after_mark o h);
}
line_laid_out Glue l others = record {
  apart = λ outer how front o h. append_apart {middle = glued front} {need = glued front} {front = glue ∷ []} (same_front (glued front)) (glue_apart front (both h).0) (others.apart outer how (glued front) o (both h).1);
}
line_laid_out End l others = record { apart = others.apart }
line_laid_out _ l others = absurd cc

pub line_note_begins : {pieces : List Piece} {node : Node} {kids : List Node} → IsLineApart true pieces node kids → IsLineApart false (NoteOn ∷ pieces) node kids
line_note_begins others = record {
  apart = λ outer how front o h. append_apart {middle = after_mark} {need = after_mark} {front = note_on ∷ []} refl note_on_apart (others.apart outer how after_mark o h);
}

pub line_note_ends : {pieces : List Piece} {node : Node} {kids : List Node} → IsLineApart false pieces node kids → IsLineApart true (NoteOff ∷ pieces) node kids
line_note_ends others = record {
  apart = λ outer how front o h. append_apart {middle = after_mark} {need = after_mark} {front = note_off ∷ []} refl note_off_apart (others.apart outer how after_mark o h);
}

-- ---- own texts, kids, members and arguments

-- a text that is no operator
plain_text : {pieces : List Piece} {node : Node} {kids : List Node} (note : Bool) (own : OwnText) → fits_own note own (text_of node) ≡ true → IsLineApart note pieces node kids → (outer : Bool) (how : Use) (front : Front) → Operates how outer (text_of node)
    → is_noted_own note own && gives front starting && is_apart_line outer how usual false note pieces ≡ true → IsApart note outer front usual (line_items (Own own ∷ pieces) node kids)
plain_text {pieces = pieces} {node = node} note own t others outer how front o h =
    let parts : is_noted_own note own && gives front starting ≡ true = (both {b = is_apart_line outer how usual false note pieces} h).0 in
    append_apart {middle = usual} {need = usual} {front = own_items own (text_of node)} refl
    (widen {from = front} {need = starting} {have = usual} {to = usual} (both {a = is_noted_own note own} parts).1 refl (own_apart note own (text_of node) (both {a = is_noted_own note own} parts).0 t))
    (others.apart outer how usual o (both {b = is_apart_line outer how usual false note pieces} h).1)

operator_text : {pieces : List Piece} {node : Node} {kids : List Node} (note : Bool) → IsLineApart note pieces node kids → (outer : Bool) (how : Use) (front : Front) → Operates how outer (text_of node)
    → is_used how && is_same outer note && gives front (before_use how) && is_apart_line outer how (after_use how) false note pieces ≡ true → IsApart note outer front usual (line_items (Own own.Operator ∷ pieces) node kids)
operator_text {pieces = pieces} {node = node} note others outer how front o h =
    let rest = is_apart_line outer how (after_use how) false note pieces in
    let parts : is_used how && is_same outer note && gives front (before_use how) ≡ true = (both {b = rest} h).0 in
    let first : is_used how && is_same outer note ≡ true = (both {b = gives front (before_use how)} parts).0 in
    append_apart {middle = after_use how} {need = after_use how} {front = own_items own.Operator (text_of node)} (same_front (after_use how))
    (widen {from = front} {need = before_use how} {have = after_use how} {to = after_use how} (both {b = gives front (before_use how)} parts).1 (same_front (after_use how))
    (subst (λ now. IsApart now now (before_use how) (after_use how) (own_items own.Operator (text_of node))) (same_note outer note (both {b = is_same outer note} first).1) (o (both {b = is_same outer note} first).0)))
    (others.apart outer how (after_use how) o (both {b = rest} h).1)

-- a text that may be left out is written too
pub line_text : {note : Bool} {pieces : List Piece} {node : Node} {kids : List Node} (own : OwnText) → fits_own note own (text_of node) ≡ true → IsLineApart note pieces node kids → IsLineApart note (Own own ∷ pieces) node kids
line_text {note = note} own.Operator t others = record { apart = operator_text note others }
line_text {note = note} own.Id t others = record { apart = plain_text note own.Id t others }
line_text {note = note} own.Closing t others = record { apart = plain_text note own.Closing t others }
line_text {note = note} own.Num t others = record { apart = plain_text note own.Num t others }
line_text {note = note} own.Mode t others = record { apart = plain_text note own.Mode t others }
line_text {note = note} own.GlobalMode t others = record { apart = plain_text note own.GlobalMode t others }
line_text {note = note} own.Rule t others = record { apart = plain_text note own.Rule t others }
line_text {note = note} own.Key t others = record { apart = plain_text note own.Key t others }

pub line_kid : {note : Bool} {shape : Shape} {pieces : List Piece} {node kid : Node} {kids : List Node} → IsKidApart note shape kid → IsLineApart note pieces node kids → IsLineApart note (Kid shape ∷ pieces) node (kid ∷ kids)
line_kid {note = note} {shape = shape} {pieces = pieces} {kid = kid} one others = record {
  apart = λ outer how front o h.
      let own : is_apart_shape note shape && gives front (needs_of shape) ≡ true = (both {b = is_apart_line outer how usual false note pieces} h).0 in
      append_apart {middle = usual} {need = usual} {front = (as_written kid).at shape} refl
      (widen {from = front} {need = needs_of shape} {have = usual} {to = usual} (both {a = is_apart_shape note shape} own).1 refl (one.apart (both {a = is_apart_shape note shape} own).0))
      (others.apart outer how usual o (both {b = is_apart_line outer how usual false note pieces} h).1);
}

pub line_members : {note : Bool} {place : Choice} {node : Node} {kids : List Node} → AreMembersApart note place kids (notes_of node) → IsLineApart note (Members place ∷ []) node kids
line_members {note = note} {place = place} {node = node} {kids = kids} all = record {
  apart = λ outer how front o h.
      let parts : is_apart_list note place && gives front usual ≡ true = (both {b = is_same outer note} h).0 in
      let l : is_apart_list note place ≡ true = (both {b = gives front usual} parts).0 in
      subst (λ after. IsApart note after front usual (line_items (Members place ∷ []) node kids)) (sym (same_note outer note (both {b = is_same outer note} h).1))
      (widen {from = front} {need = usual} {have = usual} {to = usual} (both {b = gives front usual} parts).1 refl (both_apart (all.apart l) (all.ends l)));
}

pub line_arguments : {note : Bool} {pieces : List Piece} {node kid : Node} {kids : List Node} → AreArgumentsApart note (arguments_of (text_of node)) (kids_of kid) → IsLineApart note pieces node kids → IsLineApart note (Arguments ∷ pieces) node (kid ∷ kids)
line_arguments {note = note} {pieces = pieces} {node = node} {kid = kid} {kids = kids} all others = record {
  apart = λ outer how front o h.
      append_apart {middle = usual} {need = usual} {front = (as_written kid).as_arguments (arguments_of (text_of node))} refl
      (widen {from = front} {need = usual} {have = usual} {to = usual} (both h).0 refl own_arguments) (others.apart outer how usual o (both h).1);
}
  where
    own_arguments : IsApart note note usual usual ((as_written kid).as_arguments (arguments_of (text_of node)))
    own_arguments = rw (ap (λ (w : Written). w.as_arguments (arguments_of (text_of node))) (opened kid)) all.apart

-- ---- parts that may be left out

pub line_given : {note : Bool} {pieces : List Piece} {node : Node} {kids : List Node} → IsLineWritten note pieces node kids → IsLineApart note pieces node kids → IsLineApart note (Optional ∷ pieces) node kids
line_given {pieces = pieces} {node = node} {kids = kids} line others = record {
  apart = λ outer how front o h. rw (given_items pieces node kids (line.there (both (both h).0).0)) (others.apart outer how front o (both h).1);
}

pub line_left_out : {note : Bool} {node kid : Node} {kids : List Node} (pieces : List Piece) → is_none kid ≡ true → IsLineApart note (after_end pieces) node kids → IsLineApart note (Optional ∷ pieces) node (kid ∷ kids)
line_left_out {note = note} {node = node} {kid = kid} {kids = kids} pieces z others = record {
  apart = λ outer how front o h. rw (left_out_items pieces node kid kids z) (others.apart outer how front o (sym (apart_skipped outer how front note pieces) ∙ (both (both h).0).1));
}

pub line_shown : {note : Bool} {pieces : List Piece} {node : Node} {kids : List Node} (count : ℕ) → are_empty count kids ≡ false → IsLineWritten note pieces node kids → IsLineApart note pieces node kids → IsLineApart note (Shown count ∷ pieces) node kids
line_shown {pieces = pieces} {node = node} {kids = kids} count e line others = record {
  apart = λ outer how front o h. rw (shown_items count pieces node kids e (line.bare count (both (both h).0).0)) (others.apart outer how front o (both h).1);
}

pub line_hidden : {note : Bool} {node : Node} {kids : List Node} (count : ℕ) (pieces : List Piece) → are_empty count kids ≡ true → IsLineApart note (after_end pieces) node (drop count kids) → IsLineApart note (Shown count ∷ pieces) node kids
line_hidden {note = note} {node = node} {kids = kids} count pieces e others = record {
  apart = λ outer how front o h. rw (hidden_items count pieces node kids e) (others.apart outer how front o (sym (apart_skipped outer how front note pieces) ∙ skip_passes outer how front h));
}
  where
    skip_passes : (outer : Bool) (how : Use) (front : Front) → has_lists pieces count && is_apart_line outer how front true note pieces && is_apart_line outer how front false note pieces ≡ true → is_apart_line outer how front true note pieces ≡ true
    skip_passes outer how front h = (both {a = has_lists pieces count} (both {a = has_lists pieces count && is_apart_line outer how front true note pieces} h).0).1
