-- The own texts of nodes: which there are, how each is written, and which may be left out.
use Rattle.std.specs.Prelude.{ℕ, List, [], ◌∷◌, ◌++◌, length, map, Bool, true, false, not, ◌&&◌, ◌||◌, ◌==◌, nat_le, nat_eq, bytes_eq, if◌then◌else◌, codes, Option, Some, None, is_some}
use Rattle.std.specs.List.{list_any, list_all, starts_with, before_first, after_first, slice_split, flat_map}
use Rattle.std.specs.Char.{is_ascii_alphabetic, is_ascii_alphanumeric, is_ascii_digit, to_ascii_uppercase, to_ascii_lowercase}
use Rattle.ada_tree.specs.declared.word.Word.{Word}
use Rattle.ada_tree.specs.declared.word.Word.TheVariants as word
use Rattle.ada_tree.specs.declared.word.Mark.{Mark}
use Rattle.ada_tree.specs.declared.word.Mark.TheVariants as mark
use Rattle.ada_tree.specs.declared.grammar.Own.{Own}
use Rattle.ada_tree.specs.declared.grammar.Own.TheVariants as own
use Rattle.ada_tree.specs.declared.limits.TheConstants.{LONGEST_NAME, LONGEST_NUMBER}
use Rattle.ada_tree.specs.declared.operator.TheConstants.{OPERATORS}
use Rattle.ada_tree.specs.declared.word.TheConstants.{WORDS}
use Rattle.base_kit.specs.Bytes as byte
use Rattle.ada_tree.specs.Words.{WordRow, reserved_words, note_words, word_of, mark_of}
use Rattle.ada_tree.specs.Tokens.{a_name, a_number, a_word, a_mark}
use Rattle.ada_tree.specs.Items.{Item, put, put_small, glue}

-- ---- names and numbers

abbrev pub is_upper_case : List ℕ → Bool
is_upper_case text = bytes_eq text (map to_ascii_uppercase text)

abbrev pub is_lower_case : List ℕ → Bool
is_lower_case text = bytes_eq text (map to_ascii_lowercase text)

-- the first byte is there and passes
abbrev pub begins : (ℕ → Bool) → List ℕ → Bool
begins test [] = false
begins test (b ∷ bytes) = test b

-- no underscore stands first, last or after another; `after` tells that one, or nothing, has just stood
abbrev pub is_spaced : Bool → List ℕ → Bool
is_spaced after [] = not after
is_spaced after (b ∷ bytes) = if b == byte.underscore then not after && is_spaced true bytes else is_spaced false bytes

-- a letter, and then letters and digits, with single underscores between them
abbrev pub is_identifier : List ℕ → Bool
is_identifier text = begins is_ascii_alphabetic text && list_all (λ b. is_ascii_alphanumeric b || b == byte.underscore) text && is_spaced true text

-- whichever case its letters have
abbrev pub is_word_among : List WordRow → List ℕ → Bool
is_word_among rows text = is_some (word_of rows (map to_ascii_lowercase text))

-- an identifier that is no word, of a length within the limit; the words of annotations are ordinary identifiers in Ada text
abbrev pub is_free : Bool → List ℕ → Bool
is_free note text = is_identifier text && nat_le (length text) LONGEST_NAME && not (is_word_among reserved_words text) && not (note && is_word_among note_words text)

abbrev pub is_big : Bool → List ℕ → Bool
is_big note text = is_free note text && is_upper_case text

abbrev pub is_small : List ℕ → Bool
is_small text = is_free true text && is_lower_case text

abbrev pub is_at_sign : ℕ → Bool
is_at_sign b = b == byte.at_sign

-- an identifier or `return`, and a small identifier after `@`
abbrev pub is_joined : List ℕ → List ℕ → Bool
is_joined front back = (is_big true front || bytes_eq front (codes "return")) && is_small back

-- an identifier; in annotations also two joined by `@`
abbrev pub is_name : Bool → List ℕ → Bool
is_name note text = if list_any is_at_sign text then note && is_joined (before_first is_at_sign text) (after_first is_at_sign text) else is_big note text

-- digits, as many as the limit allows, the first no 0 unless it is the only one
abbrev pub is_number : List ℕ → Bool
is_number text = begins is_ascii_digit text && list_all is_ascii_digit text && nat_le (length text) LONGEST_NUMBER && (nat_le (length text) 1 || not (begins (λ b. b == byte.digit_zero) text))

-- ---- keys: names, a label and a number between dots

abbrev pub is_dot : ℕ → Bool
is_dot b = b == byte.dot

abbrev pub is_label : List ℕ → Bool
is_label text = bytes_eq text (codes "entry") || is_small text

-- A unit's expanded name, a cut label and a number; or a trait's name and a lemma's, each of which may be joined by `@`.
abbrev pub are_key : List (List ℕ) → Bool
are_key (trait_name ∷ lemma ∷ []) = is_name true trait_name && is_name true lemma
are_key (unit ∷ label ∷ number ∷ []) = is_big true unit && is_label label && is_number number
are_key (owner ∷ unit ∷ label ∷ number ∷ []) = is_big true owner && is_big true unit && is_label label && is_number number
are_key _ = false

abbrev pub is_key : List ℕ → Bool
is_key text = are_key (slice_split is_dot text)

-- ---- comments

-- LF, VT, FF and CR
abbrev pub ends_line : ℕ → Bool
ends_line b = nat_le byte.line_feed b && nat_le b byte.carriage_return

abbrev pub is_blank : ℕ → Bool
is_blank b = b == byte.space || b == byte.tabulator

abbrev pub ends_blank : List ℕ → Bool
ends_blank [] = false
ends_blank (b ∷ []) = is_blank b
ends_blank (b ∷ c ∷ bytes) = ends_blank (c ∷ bytes)

-- two dashes without a bar after them, in one line, without blanks at its end
abbrev pub is_comment : List ℕ → Bool
is_comment text = starts_with nat_eq text (codes "--") && not (starts_with nat_eq text (codes "--|")) && not (list_any ends_line text) && not (ends_blank text)

-- ---- which texts there are

abbrev pub is_mode : List ℕ → Bool
is_mode text = bytes_eq text (codes "in") || bytes_eq text (codes "out") || bytes_eq text (codes "in out")

abbrev pub is_global_mode : List ℕ → Bool
is_global_mode text = bytes_eq text (codes "in") || bytes_eq text (codes "in out")

abbrev pub is_rule : List ℕ → Bool
is_rule text = bytes_eq text (codes "range") || is_small text

-- a text that a node may have, in Ada text or in an annotation
abbrev pub fits_own : Bool → Own → List ℕ → Bool
fits_own note own.Id text = is_name note text
fits_own note own.Closing text = is_name note text
fits_own note own.Num text = is_number text
fits_own note own.Mode text = is_mode text
fits_own note own.GlobalMode text = is_global_mode text
fits_own note own.Operator text = list_any (λ row. bytes_eq row.1.now text) OPERATORS
fits_own note own.Rule text = is_rule text
fits_own note own.Key text = is_key text

-- ---- how they are written

abbrev word_items : Option Word → List Item
word_items None = []
word_items (Some w) = put (a_word w) ∷ []

abbrev mark_items : Option Mark → List Item
mark_items None = []
mark_items (Some m) = put (a_mark m) ∷ []

-- words and marks with blanks between them
abbrev pub symbol_items : List ℕ → List Item
symbol_items text = flat_map (λ part. word_items (word_of WORDS part) ++ mark_items (mark_of part)) (slice_split (λ b. b == byte.space) text)

abbrev pub front_item : List ℕ → Item
front_item text = if bytes_eq text (codes "return") then put (a_word word.Return) else put (a_name text)

abbrev pub name_items : List ℕ → List Item
name_items text = if list_any is_at_sign text then front_item (before_first is_at_sign text) ∷ glue ∷ put (a_mark mark.AtSign) ∷ glue ∷ put_small (after_first is_at_sign text) ∷ [] else put (a_name text) ∷ []

abbrev pub dotted : List Item → List Item → List Item
dotted front back = front ++ put (a_mark mark.Dot) ∷ back

abbrev pub label_item : List ℕ → Item
label_item text = if bytes_eq text (codes "entry") then put (a_word word.Entry) else put_small text

abbrev pub key_items : List (List ℕ) → List Item
key_items (trait_name ∷ lemma ∷ []) = dotted (name_items trait_name) (name_items lemma)
key_items (unit ∷ label ∷ number ∷ []) = dotted (name_items unit) (dotted (label_item label ∷ []) (put (a_number number) ∷ []))
key_items (owner ∷ unit ∷ label ∷ number ∷ []) = dotted (name_items owner) (dotted (name_items unit) (dotted (label_item label ∷ []) (put (a_number number) ∷ [])))
key_items _ = []

abbrev pub rule_items : List ℕ → List Item
rule_items text = if bytes_eq text (codes "range") then put (a_word word.Range) ∷ [] else put_small text ∷ []

abbrev pub own_items : Own → List ℕ → List Item
own_items own.Id text = name_items text
own_items own.Closing text = name_items text
own_items own.Num text = put (a_number text) ∷ []
own_items own.Mode text = symbol_items text
own_items own.GlobalMode text = symbol_items text
own_items own.Operator text = symbol_items text
own_items own.Rule text = rule_items text
own_items own.Key text = key_items (slice_split is_dot text)

-- a closing name, and the mode in
abbrev pub may_be_omitted : Own → List ℕ → Bool
may_be_omitted own.Closing text = true
may_be_omitted own.Mode text = bytes_eq text (codes "in")
may_be_omitted own.GlobalMode text = bytes_eq text (codes "in")
may_be_omitted _ text = false
