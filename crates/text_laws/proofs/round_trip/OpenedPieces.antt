-- How many parentheses are open in lines, piece by piece.
use Rattle.std.proofs.Common.{◌≡◌, ℕ, ◌-◌, ◌≤◌, List, [], ◌∷◌, refl, sym, ◌∙◌, ap, Bool, true, false, not, ◌&&◌, ◌||◌, drop, arith}
use Rattle.std.proofs.lemmas.Bool.{and_from}
use Rattle.ada_tree.specs.declared.word.Word.{Word}
use Rattle.ada_tree.specs.declared.word.Mark.{Mark}
use Rattle.ada_tree.specs.declared.word.Mark.TheVariants as mark
use Rattle.ada_tree.specs.declared.grammar.Choice.{Choice}
use Rattle.ada_tree.specs.declared.grammar.Own.{Own as OwnText}
use Rattle.ada_tree.specs.declared.grammar.Shape.{Shape}
use Rattle.ada_tree.specs.declared.grammar.Piece.{Piece}
use Rattle.ada_tree.specs.declared.grammar.Piece.TheVariants.{Word as a_word_piece, Mark as a_mark_piece, Own, Kid, Members, Arguments, Option as Optional, Shown, End, Indent, Outdent, Glue, NoteOn, NoteOff}
use Rattle.ada_tree.specs.declared.node.Node.{Node}
use Rattle.ada_tree.specs.Nodes.{text_of, notes_of, kids_of, is_none, are_empty}
use Rattle.ada_tree.specs.Texts.{fits_own, own_items}
use Rattle.ada_tree.specs.Rules.{arguments_of}
use Rattle.ada_tree.specs.Tokens.{a_word, a_mark}
use Rattle.ada_tree.specs.Items.{put, glue, indent, outdent, note_on, note_off}
use Rattle.ada_tree.specs.Spelling.{after_end, is_layout}
use Rattle.ada_tree.specs.Canonical.{Written, comment_lines}
use Rattle.text_laws.proofs.round_trip.Places.{both}
use Rattle.text_laws.proofs.round_trip.Lines.{has_lists}
use Rattle.text_laws.proofs.round_trip.Written.{as_written, opened, line_items, IsLineWritten}
use Rattle.text_laws.proofs.round_trip.Layouts.{given_items, left_out_items, shown_items, hidden_items}
use Rattle.text_laws.proofs.round_trip.OpenedItems.{IsWithin, nothing_opened, append_opened, open_one, close_one, flat_append, flat_opened, own_flat, one_of}
use Rattle.text_laws.proofs.round_trip.OpenedLines.{is_loose_shape, is_tight_shape, is_counted_shape, is_loose_line, loose_skipped}
use Rattle.text_laws.proofs.round_trip.OpenedParts.{height, heights, kids_below, heights_drop, IsLineOpened, IsKidOpened, AreMembersOpened, AreArgumentsOpened}
use Rattle.text_laws.proofs.round_trip.OpenedLists.{both_opened, comments_flat}

-- ---- the end of a line, words, marks and layout

pub done_opened : (node : Node) → IsLineOpened [] node []
done_opened node = record {
  loose = at_end;
  tight = λ bound h n. nothing_opened;
  counted = λ h. absurd cc;
}
  where
    at_end : (inside : Bool) (bound : ℕ) → not inside ≡ true → 1 ≤ bound → 0 ≤ bound → IsWithin inside [] bound
    at_end true bound h l n = absurd cc
    at_end false bound h l n = nothing_opened

pub word_opened : {pieces : List Piece} {node : Node} {kids : List Node} (w : Word) → IsLineOpened pieces node kids → IsLineOpened (a_word_piece w ∷ pieces) node kids
word_opened w others = record {
  loose = λ inside bound h l n. flat_append (put (a_word w) ∷ []) refl (others.loose inside bound h l n);
  tight = λ bound h n. flat_append (put (a_word w) ∷ []) refl (others.tight bound h n);
  counted = others.counted;
}

pub mark_opened : {pieces : List Piece} {node : Node} {kids : List Node} (m : Mark) → IsLineOpened pieces node kids → IsLineOpened (a_mark_piece m ∷ pieces) node kids
mark_opened {pieces = pieces} {node = node} {kids = kids} m others = record {
  loose = by_mark m;
  tight = λ bound h n. flat_append (put (a_mark m) ∷ []) (and_from _ _ (both h).0 refl) (others.tight bound (both h).1 n);
  counted = others.counted;
}
  where
    by_mark : (m : Mark) (inside : Bool) (bound : ℕ) → is_loose_line inside false (a_mark_piece m ∷ pieces) ≡ true → 1 ≤ bound → heights kids ≤ bound → IsWithin inside (line_items (a_mark_piece m ∷ pieces) node kids) bound
    by_mark mark.Open true bound h l n = absurd cc
    by_mark mark.Open false bound h l n = open_one (others.loose true bound h l n)
    by_mark mark.Close true bound h l n = close_one l (others.loose false bound h l n)
    by_mark mark.Close false bound h l n = absurd cc
    by_mark m inside bound h l n = flat_append (put (a_mark m) ∷ []) refl (others.loose inside bound h l n)

pub laid_out_opened : {pieces : List Piece} {node : Node} {kids : List Node} (piece : Piece) → is_layout piece ≡ true → IsLineOpened pieces node kids → IsLineOpened (piece ∷ pieces) node kids
laid_out_opened Indent y others = record {
  loose = λ inside bound h l n. flat_append (indent ∷ []) refl (others.loose inside bound h l n);
  tight = λ bound h n. absurd cc;
  counted = λ h. absurd cc;
}
laid_out_opened Outdent y others = record {
  loose = λ inside bound h l n. flat_append (outdent ∷ []) refl (others.loose inside bound h l n);
  tight = λ bound h n. absurd cc;
  counted = λ h. absurd cc;
}
laid_out_opened Glue y others = record {
  loose = λ inside bound h l n. flat_append (glue ∷ []) refl (others.loose inside bound h l n);
  tight = λ bound h n. flat_append (glue ∷ []) refl (others.tight bound h n);
  counted = others.counted;
}
laid_out_opened End y others = record {
  loose = others.loose;
  tight = λ bound h n. absurd cc;
  counted = λ h. absurd cc;
}
laid_out_opened _ y others = absurd cc

pub note_on_opened : {pieces : List Piece} {node : Node} {kids : List Node} → IsLineOpened pieces node kids → IsLineOpened (NoteOn ∷ pieces) node kids
note_on_opened others = record {
  loose = λ inside bound h l n. flat_append (note_on ∷ []) refl (others.loose inside bound h l n);
  tight = λ bound h n. absurd cc;
  counted = λ h. absurd cc;
}

pub note_off_opened : {pieces : List Piece} {node : Node} {kids : List Node} → IsLineOpened pieces node kids → IsLineOpened (NoteOff ∷ pieces) node kids
note_off_opened others = record {
  loose = λ inside bound h l n. flat_append (note_off ∷ []) refl (others.loose inside bound h l n);
  tight = λ bound h n. absurd cc;
  counted = λ h. absurd cc;
}

-- ---- own texts, kids, members and arguments

-- a text that may be left out is written too
pub text_opened : {pieces : List Piece} {node : Node} {kids : List Node} (note : Bool) (own : OwnText) → fits_own note own (text_of node) ≡ true → IsLineOpened pieces node kids → IsLineOpened (Own own ∷ pieces) node kids
text_opened {node = node} note own t others = record {
  loose = λ inside bound h l n. flat_append (own_items own (text_of node)) (own_flat note own (text_of node) t) (others.loose inside bound h l n);
  tight = λ bound h n. flat_append (own_items own (text_of node)) (own_flat note own (text_of node) t) (others.tight bound h n);
  counted = others.counted;
}

pub kid_opened : {shape : Shape} {pieces : List Piece} {node kid : Node} {kids : List Node} → IsKidOpened shape kid → IsLineOpened pieces node kids → IsLineOpened (Kid shape ∷ pieces) node (kid ∷ kids)
kid_opened {shape = shape} {pieces = pieces} {node = node} {kid = kid} {kids = kids} one others = record {
  loose = by_place;
  tight = λ bound h n. both_opened (one.tight bound (both h).0 (omega arith)) (others.tight bound (both h).1 (omega arith));
  counted = λ h. one_of (is_counted_shape shape) _ h (λ c. let more = one.counted c in omega arith) (λ c. let more = others.counted c in omega arith);
}
  where
    by_place : (inside : Bool) (bound : ℕ) → (not inside || is_tight_shape shape) && is_loose_shape shape && is_loose_line inside false pieces ≡ true → 1 ≤ bound → heights (kid ∷ kids) ≤ bound
        → IsWithin inside (line_items (Kid shape ∷ pieces) node (kid ∷ kids)) bound
    by_place true bound h l n =
        append_opened {less = bound - 1} (one.tight (bound - 1) (both {a = is_tight_shape shape} (both h).0).0 (omega arith)) (others.loose true bound (both {b = is_loose_line true false pieces} h).1 l (omega arith)) (omega arith)
    by_place false bound h l n =
        both_opened (one.loose bound (both {a = true} (both h).0).1 l (omega arith)) (others.loose false bound (both {b = is_loose_line false false pieces} h).1 l (omega arith))

pub members_opened : {place : Choice} {node : Node} {kids : List Node} → AreMembersOpened place kids → IsLineOpened (Members place ∷ []) node kids
members_opened {place = place} {node = node} {kids = kids} all = record {
  loose = by_place;
  tight = λ bound h n. absurd cc;
  counted = λ h. absurd cc;
}
  where
    by_place : (inside : Bool) (bound : ℕ) → not inside ≡ true → 1 ≤ bound → heights kids ≤ bound → IsWithin inside (line_items (Members place ∷ []) node kids) bound
    by_place true bound h l n = absurd cc
    by_place false bound h l n = both_opened (all.loose bound l n) (flat_opened (comment_lines (notes_of node)) (comments_flat (notes_of node)))

pub arguments_opened : {pieces : List Piece} {node kid : Node} {kids : List Node} → AreArgumentsOpened (arguments_of (text_of node)) (kids_of kid) → IsLineOpened pieces node kids → IsLineOpened (Arguments ∷ pieces) node (kid ∷ kids)
arguments_opened {pieces = pieces} {node = node} {kid = kid} {kids = kids} all others = record {
  loose = by_place;
  tight = λ bound h n. absurd cc;
  counted = λ h. absurd cc;
}
  where
    own_arguments : (bound : ℕ) → 1 ≤ bound → height kid ≤ bound → IsWithin false ((as_written kid).as_arguments (arguments_of (text_of node))) bound
    own_arguments bound l n = let below = kids_below kid in rw (ap (λ (w : Written). w.as_arguments (arguments_of (text_of node))) (opened kid)) (all.loose bound l (omega arith))

    by_place : (inside : Bool) (bound : ℕ) → not inside && is_loose_line inside false pieces ≡ true → 1 ≤ bound → heights (kid ∷ kids) ≤ bound → IsWithin inside (line_items (Arguments ∷ pieces) node (kid ∷ kids)) bound
    by_place true bound h l n = absurd cc
    by_place false bound h l n = both_opened (own_arguments bound l (omega arith)) (others.loose false bound h l (omega arith))

-- ---- parts that may be left out

pub given_opened : {note : Bool} {pieces : List Piece} {node : Node} {kids : List Node} → IsLineWritten note pieces node kids → IsLineOpened pieces node kids → IsLineOpened (Optional ∷ pieces) node kids
given_opened {pieces = pieces} {node = node} {kids = kids} line others = record {
  loose = λ inside bound h l n. rw (given_items pieces node kids (line.there (both (both h).0).0)) (others.loose inside bound (both h).1 l n);
  tight = λ bound h n. absurd cc;
  counted = λ h. absurd cc;
}

pub left_out_opened : {node kid : Node} {kids : List Node} (pieces : List Piece) → is_none kid ≡ true → IsLineOpened (after_end pieces) node kids → IsLineOpened (Optional ∷ pieces) node (kid ∷ kids)
left_out_opened {node = node} {kid = kid} {kids = kids} pieces z others = record {
  loose = λ inside bound h l n. rw (left_out_items pieces node kid kids z) (others.loose inside bound (sym (loose_skipped inside pieces) ∙ (both (both h).0).1) l (omega arith));
  tight = λ bound h n. absurd cc;
  counted = λ h. absurd cc;
}

pub shown_opened : {note : Bool} {pieces : List Piece} {node : Node} {kids : List Node} (count : ℕ) → are_empty count kids ≡ false → IsLineWritten note pieces node kids → IsLineOpened pieces node kids → IsLineOpened (Shown count ∷ pieces) node kids
shown_opened {pieces = pieces} {node = node} {kids = kids} count e line others = record {
  loose = λ inside bound h l n. rw (shown_items count pieces node kids e (line.bare count (both (both h).0).0)) (others.loose inside bound (both h).1 l n);
  tight = λ bound h n. absurd cc;
  counted = λ h. absurd cc;
}

pub hidden_opened : {node : Node} {kids : List Node} (count : ℕ) (pieces : List Piece) → are_empty count kids ≡ true → IsLineOpened (after_end pieces) node (drop count kids) → IsLineOpened (Shown count ∷ pieces) node kids
hidden_opened {node = node} {kids = kids} count pieces e others = record {
  loose = λ inside bound h l n. let fewer = heights_drop count kids in rw (hidden_items count pieces node kids e) (others.loose inside bound (sym (loose_skipped inside pieces) ∙ skip_passes inside h) l (omega arith));
  tight = λ bound h n. absurd cc;
  counted = λ h. absurd cc;
}
  where
    skip_passes : (inside : Bool) → has_lists pieces count && is_loose_line inside true pieces && is_loose_line inside false pieces ≡ true → is_loose_line inside true pieces ≡ true
    skip_passes inside h = (both {a = has_lists pieces count} (both {a = has_lists pieces count && is_loose_line inside true pieces} h).0).1
