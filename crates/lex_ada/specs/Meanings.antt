-- What the tokens of a source stand for.
use Rattle.std.specs.Prelude.{ℕ, ◌-◌, ◌≤◌, List, [], ◌∷◌, ◌++◌, map, filter, take, drop, reverse, length, Bool, not, ◌==◌, nat_eq, if◌then◌else◌, codes, Option, Some, None}
use Rattle.std.specs.List.{flat_map, starts_with}
use Rattle.std.specs.Char.{to_ascii_uppercase, to_ascii_lowercase}
use Rattle.base_kit.specs.Bytes as byte
use Rattle.ada_tree.specs.declared.word.Word.{Word}
use Rattle.ada_tree.specs.declared.word.Mark.{Mark}
use Rattle.ada_tree.specs.declared.word.TheConstants.{WORDS}
use Rattle.ada_tree.specs.Words.{word_of, mark_of}
use Rattle.ada_tree.specs.Texts.{is_blank}
use Rattle.ada_tree.specs.Tokens.{a_name, a_number, a_word, a_mark, Sign, token, comment}
use Rattle.lex_ada.specs.declared.token.Token.{Token}
use Rattle.lex_ada.specs.declared.token.TokenKind.{TokenKind}
use Rattle.lex_ada.specs.declared.token.TokenKind.TheVariants as kind

abbrev pub bytes_of : List ℕ → Token → List ℕ
bytes_of source t = take (t.end - t.start) (drop t.start source)

-- in upper case
abbrev pub name_text : List ℕ → List ℕ
name_text bytes = map to_ascii_uppercase bytes

abbrev pub without_zeros : List ℕ → List ℕ
without_zeros [] = []
without_zeros (d ∷ []) = d ∷ []
without_zeros (d ∷ e ∷ digits) = if d == byte.digit_zero then without_zeros (e ∷ digits) else d ∷ e ∷ digits

-- without underscores and leading zeros
abbrev pub number_text : List ℕ → List ℕ
number_text bytes = without_zeros (filter (λ b. not (b == byte.underscore)) bytes)

abbrev pub without_blanks : List ℕ → List ℕ
without_blanks [] = []
without_blanks (b ∷ bytes) = if is_blank b then without_blanks bytes else b ∷ bytes

-- without blanks at its end; where a bar follows the dashes of a comment in annotation text, a blank comes between
abbrev pub comment_text : List ℕ → List ℕ
comment_text bytes = reverse (without_blanks (reverse (if starts_with nat_eq bytes (codes "--|") then codes "-- " ++ drop 2 bytes else bytes)))

-- the text of a token of this kind with these bytes: a word in lower case, a mark as it is
abbrev pub token_text : TokenKind → List ℕ → List ℕ
token_text kind.Name bytes = name_text bytes
token_text kind.Number bytes = number_text bytes
token_text kind.Word bytes = map to_ascii_lowercase bytes
token_text kind.Mark bytes = bytes
token_text kind.Comment bytes = comment_text bytes

-- a token that lies in the source
abbrev pub LiesIn : Token → List ℕ → Type 0
LiesIn t source = (t.start ≤ t.end) × (t.end ≤ length source)

abbrev word_signs : Bool → Option Word → List Sign
word_signs note None = []
word_signs note (Some w) = token note (a_word w) ∷ []

abbrev mark_signs : Bool → Option Mark → List Sign
mark_signs note None = []
mark_signs note (Some m) = token note (a_mark m) ∷ []

-- a token as the grammar has it: one sign for each token of a text
abbrev pub meaning : TokenKind → Bool → List ℕ → List Sign
meaning kind.Name note bytes = token note (a_name (name_text bytes)) ∷ []
meaning kind.Number note bytes = token note (a_number (number_text bytes)) ∷ []
meaning kind.Word note bytes = word_signs note (word_of WORDS (map to_ascii_lowercase bytes))
meaning kind.Mark note bytes = mark_signs note (mark_of bytes)
meaning kind.Comment note bytes = comment (comment_text bytes) ∷ []

abbrev pub meanings : List ℕ → List Token → List Sign
meanings source tokens = flat_map (λ (t : Token). meaning t.kind t.note (bytes_of source t)) tokens
