-- Items whose tokens can be told apart, after whatever lets one front follow and before whatever may follow another.
use Rattle.std.proofs.Common.{◌≡◌, ℕ, List, [], ◌∷◌, ◌++◌, Bool, true, false, ◌&&◌, refl, Option, append_assoc}
use Rattle.std.proofs.lemmas.Bool.{and_from}
use Rattle.std.specs.List.{list_all}
use Rattle.ada_tree.specs.Texts.{is_small, is_comment}
use Rattle.ada_tree.specs.Tokens.{Lexeme}
use Rattle.ada_tree.specs.Items.{Item, put, put_small, glue, line_break, indent, outdent, note_on, note_off, comment_line}
use Rattle.ada_tree.specs.Canonical.{comment_lines}
use Rattle.text_laws.proofs.round_trip.Places.{both}
use Rattle.lex_ada.specs.declared.token.TokenKind.{TokenKind}
use Rattle.lex_ada.specs.Rendered.{is_fitting, are_apart}
use Rattle.text_laws.proofs.apart.Fronts.{Front, usual, after_mark, starting, linking, Admits, gives, admits_given, fresh_admits, may_glue, glued, glue_admits, front_after, after_lexeme, after_small, takes, lexeme_follows, small_follows}

-- they are, whatever stands before that lets the front follow
abbrev AreApart : Bool → Front → List Item → Type 0
AreApart note front items = (last : Option (TokenKind × List ℕ)) (tight : Bool) → Admits front last tight → are_apart note last tight items ≡ true

-- they begin in an annotation or not, and end in one or not
pub record IsApart (before after : Bool) (from to : Front) (items : List Item) : Type 0 where
  pub apart : (rest : List Item) → AreApart after to rest → AreApart before from (items ++ rest)

pub nothing_apart : {note : Bool} {from to : Front} → gives from to ≡ true → IsApart note note from to []
nothing_apart {from = from} {to = to} g = record { apart = λ rest r last tight a. r last tight (admits_given from to last tight g a) }

pub append_apart : {first second third : Bool} {from middle need to : Front} {front back : List Item} → gives middle need ≡ true → IsApart first second from middle front → IsApart second third need to back → IsApart first third from to (front ++ back)
append_apart {middle = middle} {need = need} {front = front} {back = back} g f b = record {
  apart = λ rest r. rw (append_assoc front back rest) (f.apart (back ++ rest) (λ last tight a. b.apart rest r last tight (admits_given middle need last tight g a)));
}

-- after more, and before less
pub widen : {before after : Bool} {from need have to : Front} {items : List Item} → gives from need ≡ true → gives have to ≡ true → IsApart before after need have items → IsApart before after from to items
widen {from = from} {need = need} {have = have} {to = to} f t i = record {
  apart = λ rest r last tight a. i.apart rest (λ last tight a. r last tight (admits_given have to last tight t a)) last tight (admits_given from need last tight f a);
}

-- ---- one item

pub token_apart : {note : Bool} {from : Front} (lexeme : Lexeme) → is_fitting note lexeme ≡ true → takes from lexeme ≡ true → IsApart note note from (front_after lexeme) (put lexeme ∷ [])
token_apart {note = note} {from = from} lexeme f t = record {
  apart = λ rest r last tight a. and_from _ _ (and_from _ _ f (lexeme_follows note from lexeme last tight a f t)) (r _ _ (after_lexeme lexeme));
}

pub small_apart : {from : Front} (text : List ℕ) → is_small text ≡ true → gives from starting ≡ true → IsApart true true from usual (put_small text ∷ [])
small_apart {from = from} text s g = record {
  apart = λ rest r last tight a. and_from _ _ (and_from _ _ s (small_follows from text last tight a s g)) (r _ _ (after_small text));
}

pub glue_apart : {note : Bool} (from : Front) → may_glue from ≡ true → IsApart note note from (glued from) (glue ∷ [])
glue_apart from g = record { apart = λ rest r last tight a. r last true (glue_admits from last tight g a) }

pub break_apart : {note : Bool} {from : Front} → IsApart note note from after_mark (line_break ∷ [])
break_apart = record { apart = λ rest r last tight a. r _ false fresh_admits }

pub indent_apart : {note : Bool} {from : Front} → IsApart note note from after_mark (indent ∷ [])
indent_apart = record { apart = λ rest r last tight a. r _ false fresh_admits }

pub outdent_apart : {note : Bool} {from : Front} → IsApart note note from after_mark (outdent ∷ [])
outdent_apart = record { apart = λ rest r last tight a. r _ false fresh_admits }

pub note_on_apart : {from : Front} → IsApart false true from after_mark (note_on ∷ [])
note_on_apart = record { apart = λ rest r last tight a. r _ false fresh_admits }

pub note_off_apart : {from : Front} → IsApart true false from after_mark (note_off ∷ [])
note_off_apart = record { apart = λ rest r last tight a. r _ false fresh_admits }

pub comments_apart : (from to : Front) (notes : List (List ℕ)) → list_all is_comment notes ≡ true → gives from to ≡ true → IsApart false false from to (comment_lines notes)
comments_apart from to [] h g = nothing_apart g
comments_apart from to (text ∷ notes) h g = append_apart {middle = after_mark} {need = after_mark} {front = comment_line text ∷ []} refl one (comments_apart after_mark to notes (both h).1 refl)
  where
    one : IsApart false false from after_mark (comment_line text ∷ [])
    one = record { apart = λ rest r last tight a. and_from _ _ (both h).0 (r _ false fresh_admits) }

-- ---- tokens and glue, by a test

abbrev pub fit_items : Bool → Front → Front → List Item → Bool
fit_items note from to [] = gives from to
fit_items note from to (put lexeme ∷ items) = is_fitting note lexeme && takes from lexeme && fit_items note (front_after lexeme) to items
fit_items note from to (glue ∷ items) = may_glue from && fit_items note (glued from) to items
fit_items note from to _ = false

pub same_front : (front : Front) → gives front front ≡ true
same_front usual = refl
same_front after_mark = refl
same_front starting = refl
same_front linking = refl

pub fit_apart : {note : Bool} (from : Front) {to : Front} (items : List Item) → fit_items note from to items ≡ true → IsApart note note from to items
fit_apart from [] h = nothing_apart h
fit_apart from (put lexeme ∷ items) h = append_apart {front = put lexeme ∷ []} (same_front (front_after lexeme)) (token_apart lexeme (both (both h).0).0 (both (both h).0).1) (fit_apart (front_after lexeme) items (both h).1)
fit_apart from (glue ∷ items) h = append_apart {front = glue ∷ []} (same_front (glued from)) (glue_apart from (both h).0) (fit_apart (glued from) items (both h).1)
fit_apart from (put_small text ∷ items) h = absurd cc
fit_apart from (line_break ∷ items) h = absurd cc
fit_apart from (indent ∷ items) h = absurd cc
fit_apart from (outdent ∷ items) h = absurd cc
fit_apart from (note_on ∷ items) h = absurd cc
fit_apart from (note_off ∷ items) h = absurd cc
fit_apart from (comment_line text ∷ items) h = absurd cc
