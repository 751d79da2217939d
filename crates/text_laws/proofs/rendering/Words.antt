-- The tables of words and marks: each is found again by how it is written.
use Rattle.std.proofs.Common.{◌≡◌, ℕ, List, map, Bool, true, false, refl}
use Rattle.std.specs.Prelude.{Some}
use Rattle.std.specs.Char.{to_ascii_lowercase}
use Rattle.ada_tree.specs.declared.word.Word.{Word}
use Rattle.ada_tree.specs.declared.word.Word.TheVariants as word
use Rattle.ada_tree.specs.declared.word.Mark.{Mark}
use Rattle.ada_tree.specs.declared.word.Mark.TheVariants as mark
use Rattle.base_kit.specs.Bytes.{space, line_feed}
use Rattle.ada_tree.specs.declared.word.TheConstants.{WORDS}
use Rattle.ada_tree.specs.Words.{word_text, mark_text, reserved_words, note_words, word_of, mark_of}
use Rattle.ada_tree.specs.Texts.{begins, is_word_among}
use Rattle.lex_ada.specs.declared.token.TokenKind.TheVariants as kind
use Rattle.lex_ada.specs.Lexis.{goes_on}
use Rattle.lex_ada.specs.Rendered.{is_word_of}

-- there is a first byte
abbrev pub is_filled : List ℕ → Bool
is_filled bytes = begins (λ b. true) bytes

-- a word is found again, among the words of its kind only, and its text isn't empty
abbrev pub IsFoundWord : Word → Type 0
IsFoundWord w =
    (word_of WORDS (map to_ascii_lowercase (word_text w)) ≡ Some w)
    × (is_word_among reserved_words (word_text w) ≡ is_word_of reserved_words w)
    × (is_word_among note_words (word_text w) ≡ is_word_of note_words w)
    × (is_filled (word_text w) ≡ true)

-- all of them are
pub found_word : (w : Word) → IsFoundWord w
found_word word.Abort = (refl, refl, refl, refl)
found_word _ = (refl, refl, refl, refl)

-- a mark is found again, goes on neither with a blank nor with a line end, and its text isn't empty
abbrev pub IsFoundMark : Mark → Type 0
IsFoundMark m =
    (mark_of (mark_text m) ≡ Some m)
    × (goes_on kind.Mark (mark_text m) space ≡ false)
    × (goes_on kind.Mark (mark_text m) line_feed ≡ false)
    × (is_filled (mark_text m) ≡ true)

-- all of these are
pub found_mark : (m : Mark) → IsFoundMark m
found_mark mark.Ampersand = (refl, refl, refl, refl)
found_mark _ = (refl, refl, refl, refl)
