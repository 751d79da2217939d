-- Lines, piece by piece.
use Rattle.std.proofs.Common.{◌≡◌, ℕ, suc, zero, List, [], ◌∷◌, ◌++◌, refl, sym, ◌∙◌, ap, subst, Bool, true, false, not, ◌||◌, drop, append_assoc, if◌then◌else◌}
use Rattle.std.proofs.lemmas.Bool.{and_from}
use Rattle.ada_tree.specs.declared.kind.Kind.TheVariants as kind
use Rattle.ada_tree.specs.declared.word.Word.{Word}
use Rattle.ada_tree.specs.declared.word.Mark.{Mark}
use Rattle.ada_tree.specs.declared.grammar.Choice.{Choice}
use Rattle.ada_tree.specs.declared.grammar.Own.{Own as OwnText}
use Rattle.ada_tree.specs.declared.grammar.Own.TheVariants as own
use Rattle.ada_tree.specs.declared.grammar.Shape.{Shape}
use Rattle.ada_tree.specs.declared.grammar.Piece.{Piece}
use Rattle.ada_tree.specs.declared.grammar.Piece.TheVariants.{Word as a_word_piece, Mark as a_mark_piece, Own, Kid, Members, Arguments, Option as Optional, Shown, End, Indent, Outdent, Glue, NoteOn, NoteOff}
use Rattle.ada_tree.specs.declared.node.Node.{Node}
use Rattle.ada_tree.specs.Kinds.{is_kind}
use Rattle.ada_tree.specs.Nodes.{text_of, notes_of, kids_of, is_silent, is_list, is_none, are_empty}
use Rattle.ada_tree.specs.Texts.{fits_own, own_items}
use Rattle.ada_tree.specs.Rules.{arguments_of}
use Rattle.ada_tree.specs.Tokens.{a_word, a_mark, spelled, spell}
use Rattle.ada_tree.specs.Items.{Item, signs, lexemes}
use Rattle.ada_tree.specs.Reading.{Attached, passed}
use Rattle.ada_tree.specs.Spelling
use Rattle.ada_tree.specs.Spelling.{after_end, is_layout}
use Rattle.ada_tree.specs.Canonical.{Written, arguments, are_bare}
use Rattle.text_laws.proofs.round_trip.Places.{both}
use Rattle.text_laws.proofs.round_trip.Lines.{given_true, is_sure_shape, has_lists, is_rule_name, plain_skipped, sound_skipped}
use Rattle.text_laws.proofs.round_trip.Items.{begin_plainly, own_tokens, rule_begins, tokens_begin, tokens_pass}
use Rattle.text_laws.proofs.round_trip.Written.{as_written, all_written, opened, line_items, IsLineWritten, IsKidWritten, AreMembersWritten, AreArgumentsWritten}
use Rattle.text_laws.proofs.round_trip.Layouts.{bare_at, given_items, left_out_items, shown_items, hidden_items}

-- ---- lists that follow

no_lists : (pieces : List Piece) (count : ℕ) (kids : List Node) → ((n : ℕ) → has_lists pieces (suc n) ≡ false) → has_lists pieces count ≡ true → are_empty count kids ≡ true
no_lists pieces zero kids none h = refl
no_lists pieces (suc n) kids none h = let e = none n in absurd cc

word_lists : (w : Word) (pieces : List Piece) (count : ℕ) → has_lists (a_word_piece w ∷ pieces) count ≡ has_lists pieces count
word_lists w pieces zero = refl
word_lists w pieces (suc n) = refl

indent_lists : (pieces : List Piece) (count : ℕ) → has_lists (Indent ∷ pieces) count ≡ has_lists pieces count
indent_lists pieces zero = refl
indent_lists pieces (suc n) = refl

bare_kid : {note : Bool} {shape : Shape} {pieces : List Piece} {node kid : Node} {kids : List Node} → IsKidWritten note shape kid → IsLineWritten note pieces node kids
    → (count : ℕ) → has_lists (Kid shape ∷ pieces) count ≡ true → are_bare count (all_written (kid ∷ kids)) ≡ true → are_empty count (kid ∷ kids) ≡ true
bare_kid one others zero h b = refl
bare_kid {kid = kid} one others (suc n) h b =
    and_from _ _ (one.bare (both h).0 (sym (bare_at kid) ∙ (both b).0)) (others.bare n (both h).1 (both b).1)

-- ---- the end of a line, words, marks and layout

same_note : {outer now : Bool} → (if outer then now else not now) ≡ true → outer ≡ now
same_note {outer = true} {now = true} h = refl
same_note {outer = true} {now = false} h = absurd cc
same_note {outer = false} {now = true} h = absurd cc
same_note {outer = false} {now = false} h = refl

pub line_done : (note : Bool) (node : Node) → IsLineWritten note [] node []
line_done note node = record {
  events = λ rest. rest;
  spelling = λ rest. Spelling.done;
  attached = λ outer fine rest items s f a. subst (λ now. Attached [] rest (signs now items)) (same_note s) a;
  plain = λ fine items h f. f h;
  there = λ h. absurd cc;
  bare = λ count h b. no_lists [] count [] (λ n. refl) h;
}

pub line_word : {note : Bool} {pieces : List Piece} {node : Node} {kids : List Node} (w : Word) → IsLineWritten note pieces node kids → IsLineWritten note (a_word_piece w ∷ pieces) node kids
line_word {note = note} {pieces = pieces} w others = record {
  events = λ rest. spelled note (a_word w) ∷ others.events rest;
  spelling = λ rest. Spelling.its_word (others.spelling rest);
  attached = λ outer fine rest items s f a. passed (others.attached outer fine rest items s f a);
  plain = λ fine items h f. refl;
  there = others.there;
  bare = λ count h b. others.bare count (rw (word_lists w pieces count) at h) b;
}

pub line_mark : {note : Bool} {pieces : List Piece} {node : Node} {kids : List Node} (m : Mark) → IsLineWritten note pieces node kids → IsLineWritten note (a_mark_piece m ∷ pieces) node kids
line_mark {note = note} {pieces = pieces} {kids = kids} m others = record {
  events = λ rest. spelled note (a_mark m) ∷ others.events rest;
  spelling = λ rest. Spelling.its_mark (others.spelling rest);
  attached = λ outer fine rest items s f a. passed (others.attached outer fine rest items s f a);
  plain = λ fine items h f. refl;
  there = others.there;
  bare = λ count h b. no_lists (a_mark_piece m ∷ pieces) count kids (λ n. refl) h;
}

pub line_laid_out : {note : Bool} {pieces : List Piece} {node : Node} {kids : List Node} (piece : Piece) → is_layout piece ≡ true → IsLineWritten note pieces node kids → IsLineWritten note (piece ∷ pieces) node kids
line_laid_out {pieces = pieces} Indent l others = record {
  events = others.events;
  spelling = λ rest. Spelling.laid_out l (others.spelling rest);
  attached = others.attached;
  plain = others.plain;
  there = others.there;
  bare = λ count h b. others.bare count (rw (indent_lists pieces count) at h) b;
}
line_laid_out {pieces = pieces} {kids = kids} Outdent l others = record {
  events = others.events;
  spelling = λ rest. Spelling.laid_out l (others.spelling rest);
  attached = others.attached;
  plain = others.plain;
  there = λ h. absurd cc;
  bare = λ count h b. no_lists (Outdent ∷ pieces) count kids (λ n. refl) h;
}
line_laid_out {pieces = pieces} {kids = kids} Glue l others = record {
  events = others.events;
  spelling = λ rest. Spelling.laid_out l (others.spelling rest);
  attached = others.attached;
  plain = others.plain;
  there = λ h. absurd cc;
  bare = λ count h b. no_lists (Glue ∷ pieces) count kids (λ n. refl) h;
}
line_laid_out {pieces = pieces} {kids = kids} End l others = record {
  events = others.events;
  spelling = λ rest. Spelling.laid_out l (others.spelling rest);
  attached = others.attached;
  plain = others.plain;
  there = λ h. absurd cc;
  bare = λ count h b. no_lists (End ∷ pieces) count kids (λ n. refl) h;
}
line_laid_out _ l others = absurd cc

pub line_note_begins : {pieces : List Piece} {node : Node} {kids : List Node} → IsLineWritten true pieces node kids → IsLineWritten false (NoteOn ∷ pieces) node kids
line_note_begins {pieces = pieces} {kids = kids} others = record {
  events = others.events;
  spelling = λ rest. Spelling.note_begins (others.spelling rest);
  attached = others.attached;
  plain = others.plain;
  there = λ h. absurd cc;
  bare = λ count h b. no_lists (NoteOn ∷ pieces) count kids (λ n. refl) h;
}

pub line_note_ends : {pieces : List Piece} {node : Node} {kids : List Node} → IsLineWritten false pieces node kids → IsLineWritten true (NoteOff ∷ pieces) node kids
line_note_ends {pieces = pieces} {kids = kids} others = record {
  events = others.events;
  spelling = λ rest. Spelling.note_ends (others.spelling rest);
  attached = others.attached;
  plain = others.plain;
  there = λ h. absurd cc;
  bare = λ count h b. no_lists (NoteOff ∷ pieces) count kids (λ n. refl) h;
}

-- ---- own texts

own_begins : (own : OwnText) (text : List ℕ) (b : Bool) (rest : List Item) → is_rule_name own || b ≡ true → (b ≡ true → begin_plainly rest ≡ true) → begin_plainly (own_items own text ++ rest) ≡ true
own_begins own.Rule text b rest h f = rule_begins text rest
own_begins own.Id text b rest h f = tokens_begin (own_items own.Id text) rest (own_tokens own.Id text) (f h)
own_begins own text b rest h f = tokens_begin (own_items own text) rest (own_tokens own text) (f h)

-- a text that may be left out is written too
pub line_text : {note : Bool} {pieces : List Piece} {node : Node} {kids : List Node} (own : OwnText) → fits_own note own (text_of node) ≡ true → IsLineWritten note pieces node kids → IsLineWritten note (Own own ∷ pieces) node kids
line_text {note = note} {pieces = pieces} {node = node} {kids = kids} own t others = record {
  events = λ rest. spell note (lexemes (own_items own (text_of node))) (others.events rest);
  spelling = λ rest. Spelling.its_text t refl (others.spelling rest);
  attached = λ outer fine rest items s f a. rw (regroup items) (tokens_pass note _ (own_items own (text_of node)) (own_tokens own (text_of node)) (others.attached outer fine rest items s f a));
  plain = λ fine items h f. rw (regroup items) (own_begins own (text_of node) _ _ h (λ p. others.plain fine items p f));
  there = λ h. absurd cc;
  bare = λ count h b. no_lists (Own own ∷ pieces) count kids (λ n. refl) h;
}
  where
    regroup : (items : List Item) → line_items (Own own ∷ pieces) node kids ++ items ≡ own_items own (text_of node) ++ (line_items pieces node kids ++ items)
    regroup items = append_assoc (own_items own (text_of node)) (line_items pieces node kids) items

-- ---- kids

or_else : (a b c : Bool) → a || b ≡ true → (b ≡ true → c ≡ true) → a || c ≡ true
or_else true b c h f = refl
or_else false b c h f = f h

pub line_kid : {note : Bool} {shape : Shape} {pieces : List Piece} {node kid : Node} {kids : List Node} → IsKidWritten note shape kid → IsLineWritten note pieces node kids → IsLineWritten note (Kid shape ∷ pieces) node (kid ∷ kids)
line_kid {note = note} {shape = shape} {pieces = pieces} {node = node} {kid = kid} {kids = kids} one others = record {
  events = λ rest. one.events (others.events rest);
  spelling = λ rest. Spelling.its_kid (one.spelling (others.events rest)) (others.spelling rest);
  attached = λ outer fine rest items s f a. rw (regroup items)
      (one.attached (others.events rest) _ (both (both s).0).0 (λ o. others.plain fine items (given_true (both (both s).0).1 o) f) (others.attached outer fine rest items (both s).1 f a));
  plain = λ fine items h f. rw (regroup items) (one.plain _ (both h).0 (or_else (is_sure_shape shape) _ _ (both h).1 (λ p. others.plain fine items p f)));
  there = λ h. ap (λ (w : Written). is_kind w.kind kind.None) (opened kid) ∙ one.there h;
  bare = bare_kid one others;
}
  where
    regroup : (items : List Item) → line_items (Kid shape ∷ pieces) node (kid ∷ kids) ++ items ≡ (as_written kid).at shape ++ (line_items pieces node kids ++ items)
    regroup items = append_assoc ((as_written kid).at shape) (line_items pieces node kids) items

pub line_members : {note : Bool} {place : Choice} {node : Node} {kids : List Node} → AreMembersWritten note place true kids (notes_of node) → IsLineWritten note (Members place ∷ []) node kids
line_members {note = note} {place = place} {node = node} {kids = kids} all = record {
  events = all.events;
  spelling = λ rest. Spelling.its_members (all.spelling rest);
  attached = λ outer fine rest items s f a. all.attached rest items (both (both s).0).0 (λ o. f (given_true (both (both s).0).1 o)) (subst (λ now. Attached [] rest (signs now items)) (same_note (both s).1) a);
  plain = λ fine items h f. absurd cc;
  there = λ h. absurd cc;
  bare = λ count h b. no_lists (Members place ∷ []) count kids (λ n. refl) h;
}

pub line_arguments : {note : Bool} {pieces : List Piece} {node kid : Node} {kids : List Node} → is_list kid ≡ true → is_silent kid ≡ true → AreArgumentsWritten note (arguments_of (text_of node)) (kids_of kid)
    → IsLineWritten note pieces node kids → IsLineWritten note (Arguments ∷ pieces) node (kid ∷ kids)
line_arguments {note = note} {pieces = pieces} {node = node} {kid = kid} {kids = kids} l t all others = record {
  events = λ rest. all.events (others.events rest);
  spelling = λ rest. Spelling.its_arguments l t (all.spelling (others.events rest)) (others.spelling rest);
  attached = λ outer fine rest items s f a. rw (regroup items) (all.attached (others.events rest) _ (others.attached outer fine rest items s f a));
  plain = λ fine items h f. absurd cc;
  there = λ h. absurd cc;
  bare = λ count h b. no_lists (Arguments ∷ pieces) count (kid ∷ kids) (λ n. refl) h;
}
  where
    regroup : (items : List Item) → line_items (Arguments ∷ pieces) node (kid ∷ kids) ++ items ≡ arguments (arguments_of (text_of node)) (all_written (kids_of kid)) ++ (line_items pieces node kids ++ items)
    regroup items =
        ap (λ (w : Written). (w.as_arguments (arguments_of (text_of node)) ++ line_items pieces node kids) ++ items) (opened kid)
        ∙ append_assoc (arguments (arguments_of (text_of node)) (all_written (kids_of kid))) (line_items pieces node kids) items

-- ---- parts that may be left out

pub line_given : {note : Bool} {pieces : List Piece} {node : Node} {kids : List Node} → IsLineWritten note pieces node kids → IsLineWritten note (Optional ∷ pieces) node kids
line_given {note = note} {pieces = pieces} {node = node} {kids = kids} others = record {
  events = others.events;
  spelling = λ rest. Spelling.given (others.spelling rest);
  attached = λ outer fine rest items s f a. rw (given_items pieces node kids (others.there (both (both s).0).0)) (others.attached outer fine rest items (both s).1 f a);
  plain = λ fine items h f. rw (given_items pieces node kids (others.there (both (both h).0).0)) (others.plain fine items (both h).1 f);
  there = λ h. absurd cc;
  bare = λ count h b. no_lists (Optional ∷ pieces) count kids (λ n. refl) h;
}

pub line_left_out : {note : Bool} {node kid : Node} {kids : List Node} (pieces : List Piece) → is_none kid ≡ true → IsLineWritten note (after_end pieces) node kids → IsLineWritten note (Optional ∷ pieces) node (kid ∷ kids)
line_left_out {note = note} {node = node} {kid = kid} {kids = kids} pieces z others = record {
  events = others.events;
  spelling = λ rest. Spelling.left_out z (others.spelling rest);
  attached = λ outer fine rest items s f a. rw (left_out_items pieces node kid kids z) (others.attached outer fine rest items (sym (sound_skipped outer fine note pieces) ∙ (both (both s).0).1) f a);
  plain = λ fine items h f. rw (left_out_items pieces node kid kids z) (others.plain fine items (sym (plain_skipped fine pieces) ∙ (both (both h).0).1) f);
  there = λ h. absurd cc;
  bare = λ count h b. no_lists (Optional ∷ pieces) count (kid ∷ kids) (λ n. refl) h;
}

pub line_shown : {note : Bool} {pieces : List Piece} {node : Node} {kids : List Node} (count : ℕ) → are_empty count kids ≡ false → IsLineWritten note pieces node kids → IsLineWritten note (Shown count ∷ pieces) node kids
line_shown {note = note} {pieces = pieces} {node = node} {kids = kids} count e others = record {
  events = others.events;
  spelling = λ rest. Spelling.shown e (others.spelling rest);
  attached = λ outer fine rest items s f a. rw (shown_items count pieces node kids e (others.bare count (both (both s).0).0)) (others.attached outer fine rest items (both s).1 f a);
  plain = λ fine items h f. rw (shown_items count pieces node kids e (others.bare count (both (both h).0).0)) (others.plain fine items (both h).1 f);
  there = λ h. absurd cc;
  bare = λ n h b. no_lists (Shown count ∷ pieces) n kids (λ n. refl) h;
}

pub line_hidden : {note : Bool} {node : Node} {kids : List Node} (count : ℕ) (pieces : List Piece) → are_empty count kids ≡ true → IsLineWritten note (after_end pieces) node (drop count kids) → IsLineWritten note (Shown count ∷ pieces) node kids
line_hidden {note = note} {node = node} {kids = kids} count pieces e others = record {
  events = others.events;
  spelling = λ rest. Spelling.hidden e (others.spelling rest);
  attached = λ outer fine rest items s f a. rw (hidden_items count pieces node kids e) (others.attached outer fine rest items (sym (sound_skipped outer fine note pieces) ∙ (both (both s).0).1) f a);
  plain = λ fine items h f. rw (hidden_items count pieces node kids e) (others.plain fine items (sym (plain_skipped fine pieces) ∙ (both (both h).0).1) f);
  there = λ h. absurd cc;
  bare = λ n h b. no_lists (Shown count ∷ pieces) n kids (λ n. refl) h;
}
