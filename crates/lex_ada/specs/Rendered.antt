-- Which items are laid out so that their tokens can be told apart again.
use Rattle.std.specs.Prelude.{◌≡◌, ℕ, List, [], ◌∷◌, Bool, true, false, not, ◌&&◌, ◌||◌, Option, Some, None}
use Rattle.std.specs.List.{list_any}
use denote.Enum.Bare.{sameb}
use Rattle.ada_tree.specs.contracts.word.Word as word_row
use Rattle.ada_tree.specs.declared.word.Word.{Word}
use Rattle.ada_tree.specs.Words.{WordRow, reserved_words, note_words}
use Rattle.ada_tree.specs.Texts.{begins, is_big, is_small, is_number, is_comment}
use Rattle.ada_tree.specs.Tokens.{Lexeme, a_name, a_number, a_word, a_mark, Sign}
use Rattle.ada_tree.specs.Items.{Item, put, put_small, glue, line_break, indent, outdent, note_on, note_off, comment_line}
use Rattle.ada_tree.specs.Rendering.{lexeme_text, has_no_blank_before, has_no_blank_after}
use Rattle.lex_ada.specs.declared.token.TokenKind.{TokenKind}
use Rattle.lex_ada.specs.declared.token.TokenKind.TheVariants as kind
use Rattle.lex_ada.specs.declared.token.Token.{Token}
use Rattle.lex_ada.specs.Lexis.{goes_on, AreTokens}
use Rattle.lex_ada.specs.Meanings.{meanings}

abbrev pub is_word_of : List WordRow → Word → Bool
is_word_of rows w = list_any (λ (row : WordRow). sameb word_row.the_type row.0 w) rows

-- a token that there is, in annotation text or not
abbrev pub is_fitting : Bool → Lexeme → Bool
is_fitting note (a_name text) = is_big note text
is_fitting note (a_number text) = is_number text
is_fitting note (a_word w) = is_word_of reserved_words w || (note && is_word_of note_words w)
is_fitting note (a_mark m) = true

abbrev pub kind_of_lexeme : Lexeme → TokenKind
kind_of_lexeme (a_name text) = kind.Name
kind_of_lexeme (a_number text) = kind.Number
kind_of_lexeme (a_word w) = kind.Word
kind_of_lexeme (a_mark m) = kind.Mark

-- what stands before on the line, a token of this kind with these bytes, doesn't go on with these
abbrev pub is_apart : Option (TokenKind × List ℕ) → List ℕ → Bool
is_apart None text = true
is_apart (Some last) text = not (begins (goes_on last.0 last.1) text)

-- no blank comes between, or the token doesn't go on without one
abbrev pub may_follow : Option (TokenKind × List ℕ) → Bool → List ℕ → Bool
may_follow last joined text = not joined || is_apart last text

-- Items that can be told apart: `last` is the token before on the line, `tight` tells that no blank follows it.
abbrev pub are_apart : Bool → Option (TokenKind × List ℕ) → Bool → List Item → Bool
are_apart note last tight [] = true
are_apart note last tight (put lexeme ∷ items) =
    is_fitting note lexeme && may_follow last (tight || has_no_blank_before lexeme) (lexeme_text lexeme)
    && are_apart note (Some (kind_of_lexeme lexeme, lexeme_text lexeme)) (has_no_blank_after lexeme) items
are_apart note last tight (put_small text ∷ items) = note && is_small text && may_follow last tight text && are_apart note (Some (kind.Name, text)) false items
are_apart note last tight (glue ∷ items) = are_apart note last true items
are_apart note last tight (line_break ∷ items) = are_apart note None false items
are_apart note last tight (indent ∷ items) = are_apart note None false items
are_apart note last tight (outdent ∷ items) = are_apart note None false items
are_apart note last tight (note_on ∷ items) = not note && are_apart true None false items
are_apart note last tight (note_off ∷ items) = note && are_apart false None false items
are_apart note last tight (comment_line text ∷ items) = not note && is_comment text && are_apart note None false items

-- the bytes fall into these tokens and comments
pub record HasSigns (bytes : List ℕ) (signs : List Sign) : Type 0 where
  pub tokens : List Token
  pub fall : AreTokens bytes tokens
  pub mean : meanings bytes tokens ≡ signs
