-- Items: how they begin, and how their tokens and comments belong to events.
use Rattle.std.proofs.Common.{◌≡◌, ℕ, List, [], ◌∷◌, ◌++◌, refl, subst, Bool, true, false, Option, Some, None, if◌then◌else◌, append_assoc}
use Rattle.std.proofs.lemmas.List.{append-nil}
use Rattle.std.specs.Prelude.{bytes_eq, codes, ◌==◌}
use Rattle.std.specs.List.{list_any, list_all, flat_map, slice_split, before_first, after_first}
use Rattle.ada_tree.specs.declared.word.Word.TheVariants as word
use Rattle.ada_tree.specs.declared.word.Mark.TheVariants as mark
use Rattle.ada_tree.specs.declared.grammar.Own.{Own as OwnText}
use Rattle.ada_tree.specs.declared.grammar.Own.TheVariants as own
use Rattle.ada_tree.specs.Words.{reserved_words, note_words, word_of, mark_of}
use Rattle.ada_tree.specs.Tokens.{a_number, a_word, a_mark, Event, comments, spell}
use Rattle.ada_tree.specs.Items.{Item, put, put_small, glue, line_break, indent, outdent, note_on, note_off, comment_line, lexemes, signs}
use Rattle.ada_tree.specs.Reading.{Attached, waits, taken, passed, begins_with_comment}
use Rattle.ada_tree.specs.Texts.{own_items, name_items, symbol_items, rule_items, key_items, dotted, is_at_sign, is_dot}
use Rattle.ada_tree.specs.Canonical.{comment_lines}

-- ---- how items begin

-- they don't begin with a comment
abbrev pub begin_plainly : List Item → Bool
begin_plainly [] = true
begin_plainly (put lexeme ∷ items) = true
begin_plainly (put_small text ∷ items) = true
begin_plainly (glue ∷ items) = begin_plainly items
begin_plainly (line_break ∷ items) = begin_plainly items
begin_plainly (indent ∷ items) = begin_plainly items
begin_plainly (outdent ∷ items) = begin_plainly items
begin_plainly (note_on ∷ items) = begin_plainly items
begin_plainly (note_off ∷ items) = begin_plainly items
begin_plainly (comment_line text ∷ items) = false

pub signs_plain : (note : Bool) (items : List Item) → begin_plainly items ≡ true → begins_with_comment (signs note items) ≡ false
signs_plain note [] h = refl
signs_plain note (put lexeme ∷ items) h = refl
signs_plain note (put_small text ∷ items) h = refl
signs_plain note (glue ∷ items) h = signs_plain note items h
signs_plain note (line_break ∷ items) h = signs_plain note items h
signs_plain note (indent ∷ items) h = signs_plain note items h
signs_plain note (outdent ∷ items) h = signs_plain note items h
signs_plain note (note_on ∷ items) h = signs_plain true items h
signs_plain note (note_off ∷ items) h = signs_plain false items h
signs_plain note (comment_line text ∷ items) h = absurd cc

-- ---- own texts are tokens

abbrev is_token : Item → Bool
is_token (put lexeme) = true
is_token (put_small text) = true
is_token glue = true
is_token _ = false

abbrev pub are_tokens : List Item → Bool
are_tokens items = list_all is_token items

are_tokens-append : (front back : List Item) → are_tokens front ≡ true → are_tokens back ≡ true → are_tokens (front ++ back) ≡ true
are_tokens-append [] back f b = b
are_tokens-append (put lexeme ∷ front) back f b = are_tokens-append front back f b
are_tokens-append (put_small text ∷ front) back f b = are_tokens-append front back f b
are_tokens-append (glue ∷ front) back f b = are_tokens-append front back f b
are_tokens-append (line_break ∷ front) back f b = absurd cc
are_tokens-append (indent ∷ front) back f b = absurd cc
are_tokens-append (outdent ∷ front) back f b = absurd cc
are_tokens-append (note_on ∷ front) back f b = absurd cc
are_tokens-append (note_off ∷ front) back f b = absurd cc
are_tokens-append (comment_line text ∷ front) back f b = absurd cc

either_tokens : (b : Bool) (front back : List Item) → are_tokens front ≡ true → are_tokens back ≡ true → are_tokens (if b then front else back) ≡ true
either_tokens true front back f b = f
either_tokens false front back f b = b

begin_tokens : (b : Bool) (item other : Item) (items : List Item) → is_token item ≡ true → is_token other ≡ true → are_tokens items ≡ true → are_tokens ((if b then item else other) ∷ items) ≡ true
begin_tokens true item other items i o t = rw i t
begin_tokens false item other items i o t = rw o t

name_tokens : (text : List ℕ) → are_tokens (name_items text) ≡ true
name_tokens text = either_tokens (list_any is_at_sign text) _ _ (begin_tokens (bytes_eq (before_first is_at_sign text) (codes "return")) _ _ (glue ∷ put (a_mark mark.AtSign) ∷ glue ∷ put_small (after_first is_at_sign text) ∷ []) refl refl refl) refl

abbrev some_items : {A : Type 0} → (A → Item) → Option A → List Item
some_items item None = []
some_items item (Some x) = item x ∷ []

some_tokens : {A : Type 0} (item : A → Item) → ((x : A) → is_token (item x) ≡ true) → (o : Option A) → are_tokens (some_items item o) ≡ true
some_tokens item t None = refl
some_tokens item t (Some x) = rw (t x) refl

flat_tokens : (f : List ℕ → List Item) → ((part : List ℕ) → are_tokens (f part) ≡ true) → (parts : List (List ℕ)) → are_tokens (flat_map f parts) ≡ true
flat_tokens f t [] = refl
flat_tokens f t (part ∷ parts) = are_tokens-append (f part) (flat_map f parts) (t part) (flat_tokens f t parts)

symbol_tokens : (text : List ℕ) → are_tokens (symbol_items text) ≡ true
symbol_tokens text = flat_tokens (λ part. words part ++ marks part) (λ part. are_tokens-append (words part) (marks part) (some_tokens _ (λ w. refl) (word_of (reserved_words ++ note_words) part)) (some_tokens _ (λ m. refl) (mark_of part))) (slice_split (λ b. b == 32) text)
  where
    words : List ℕ → List Item
    words part = some_items (λ w. put (a_word w)) (word_of (reserved_words ++ note_words) part)

    marks : List ℕ → List Item
    marks part = some_items (λ m. put (a_mark m)) (mark_of part)

dotted_tokens : (front back : List Item) → are_tokens front ≡ true → are_tokens back ≡ true → are_tokens (dotted front back) ≡ true
dotted_tokens front back f b = are_tokens-append front (put (a_mark mark.Dot) ∷ back) f b

label_tokens : (label number : List ℕ) → are_tokens ((if bytes_eq label (codes "entry") then put (a_word word.Entry) else put_small label) ∷ put (a_mark mark.Dot) ∷ put (a_number number) ∷ []) ≡ true
label_tokens label number = begin_tokens (bytes_eq label (codes "entry")) (put (a_word word.Entry)) (put_small label) (put (a_mark mark.Dot) ∷ put (a_number number) ∷ []) refl refl refl

key_tokens : (parts : List (List ℕ)) → are_tokens (key_items parts) ≡ true
key_tokens (trait_name ∷ lemma ∷ []) = dotted_tokens (name_items trait_name) (name_items lemma) (name_tokens trait_name) (name_tokens lemma)
key_tokens (unit ∷ label ∷ number ∷ []) = dotted_tokens (name_items unit) _ (name_tokens unit) (label_tokens label number)
key_tokens (owner ∷ unit ∷ label ∷ number ∷ []) = dotted_tokens (name_items owner) _ (name_tokens owner) (dotted_tokens (name_items unit) _ (name_tokens unit) (label_tokens label number))
key_tokens _ = refl

rule_tokens : (text : List ℕ) → are_tokens (rule_items text) ≡ true
rule_tokens text = either_tokens (bytes_eq text (codes "range")) _ _ refl refl

pub own_tokens : (own : OwnText) (text : List ℕ) → are_tokens (own_items own text) ≡ true
own_tokens own.Id text = name_tokens text
own_tokens own.Closing text = name_tokens text
own_tokens own.Num text = refl
own_tokens own.Mode text = symbol_tokens text
own_tokens own.GlobalMode text = symbol_tokens text
own_tokens own.Operator text = symbol_tokens text
own_tokens own.Rule text = rule_tokens text
own_tokens own.Key text = key_tokens (slice_split is_dot text)

pub rule_begins : (text : List ℕ) (rest : List Item) → begin_plainly (own_items own.Rule text ++ rest) ≡ true
rule_begins text rest = either (bytes_eq text (codes "range"))
  where
    either : (b : Bool) → begin_plainly ((if b then put (a_word word.Range) ∷ [] else put_small text ∷ []) ++ rest) ≡ true
    either true = refl
    either false = refl

-- tokens, and what follows them

pub tokens_begin : (items rest : List Item) → are_tokens items ≡ true → begin_plainly rest ≡ true → begin_plainly (items ++ rest) ≡ true
tokens_begin [] rest t h = h
tokens_begin (put lexeme ∷ items) rest t h = refl
tokens_begin (put_small text ∷ items) rest t h = refl
tokens_begin (glue ∷ items) rest t h = tokens_begin items rest t h
tokens_begin (line_break ∷ items) rest t h = absurd cc
tokens_begin (indent ∷ items) rest t h = absurd cc
tokens_begin (outdent ∷ items) rest t h = absurd cc
tokens_begin (note_on ∷ items) rest t h = absurd cc
tokens_begin (note_off ∷ items) rest t h = absurd cc
tokens_begin (comment_line text ∷ items) rest t h = absurd cc

pub tokens_pass : (note : Bool) (rest : List Item) {events : List Event} (items : List Item) → are_tokens items ≡ true → Attached [] events (signs note rest)
    → Attached [] (spell note (lexemes items) events) (signs note (items ++ rest))
tokens_pass note rest [] t a = a
tokens_pass note rest (put lexeme ∷ items) t a = passed (tokens_pass note rest items t a)
tokens_pass note rest (put_small text ∷ items) t a = passed (tokens_pass note rest items t a)
tokens_pass note rest (glue ∷ items) t a = tokens_pass note rest items t a
tokens_pass note rest (line_break ∷ items) t a = absurd cc
tokens_pass note rest (indent ∷ items) t a = absurd cc
tokens_pass note rest (outdent ∷ items) t a = absurd cc
tokens_pass note rest (note_on ∷ items) t a = absurd cc
tokens_pass note rest (note_off ∷ items) t a = absurd cc
tokens_pass note rest (comment_line text ∷ items) t a = absurd cc

-- ---- comments are taken where they stand

take_waiting : (note : Bool) (rest : List Item) {events : List Event} (waiting notes : List (List ℕ)) → begins_with_comment (signs note rest) ≡ false → Attached [] events (signs note rest)
    → Attached waiting (comments (waiting ++ notes) ∷ events) (signs note (comment_lines notes ++ rest))
take_waiting note rest waiting [] b a = rw append-nil (taken b a)
take_waiting note rest {events = events} waiting (text ∷ notes) b a =
    waits (subst (λ all. Attached (waiting ++ text ∷ []) (comments all ∷ events) (signs note (comment_lines notes ++ rest))) (append_assoc waiting (text ∷ []) notes)
    (take_waiting note rest (waiting ++ text ∷ []) notes b a))

pub take_comments : (note : Bool) (rest : List Item) {events : List Event} (notes : List (List ℕ)) → begin_plainly rest ≡ true → Attached [] events (signs note rest)
    → Attached [] (comments notes ∷ events) (signs note (comment_lines notes ++ rest))
take_comments note rest notes b a = take_waiting note rest [] notes (signs_plain note rest b) a
