-- How the bytes of a text fall into tokens.
use Rattle.std.specs.Prelude.{◌≡◌, ℕ, suc, ◌+◌, ◌≤◌, ◌<◌, List, [], ◌∷◌, ◌++◌, length, count_by, Bool, true, false, not, ◌&&◌, ◌||◌, ◌==◌, nat_le, bytes_eq, is_some, codes}
use Rattle.std.specs.List.{list_any, list_all}
use Rattle.std.specs.Char.{is_ascii_alphanumeric, is_ascii_digit}
use Rattle.ada_tree.specs.declared.limits.TheConstants.{LONGEST_NUMBER}
use Rattle.base_kit.specs.Bytes as byte
use Rattle.ada_tree.specs.Words.{reserved_words, note_words, mark_of}
use Rattle.ada_tree.specs.Texts.{begins, is_spaced, is_word_among, is_free, ends_line, is_blank}
use Rattle.lex_ada.specs.declared.token.Token.{Token}
use Rattle.lex_ada.specs.declared.token.TokenKind.{TokenKind}
use Rattle.lex_ada.specs.declared.token.TokenKind.TheVariants.{Name, Number, Word, Mark, Comment}

-- ---- what each kind of token is

-- what names, words and numbers are made of
abbrev pub is_word_byte : ℕ → Bool
is_word_byte b = is_ascii_alphanumeric b || b == byte.underscore

-- digits with single underscores between them, as many as the limit allows
abbrev pub is_numeral : List ℕ → Bool
is_numeral bytes = begins is_ascii_digit bytes && list_all (λ b. is_ascii_digit b || b == byte.underscore) bytes && is_spaced true bytes && nat_le (count_by is_ascii_digit bytes) LONGEST_NUMBER

-- `note` tells that the bytes stand in annotation text, where the words of annotations are words too. A comment is what `Lexed` says.
abbrev pub spells : Bool → TokenKind → List ℕ → Bool
spells note Name bytes = is_free note bytes
spells note Number bytes = is_numeral bytes
spells note Word bytes = is_word_among reserved_words bytes || (note && is_word_among note_words bytes)
spells note Mark bytes = is_some (mark_of bytes)
spells note Comment bytes = false

-- The longest token counts: a byte that makes a longer one doesn't follow. Two dashes are no two marks.
abbrev pub goes_on : TokenKind → List ℕ → ℕ → Bool
goes_on Mark bytes b = is_some (mark_of (bytes ++ b ∷ [])) || bytes_eq (bytes ++ b ∷ []) (codes "--")
goes_on _ bytes b = is_word_byte b

-- ---- the tokens of a text

-- a carriage return with the line feed after it ends one line
abbrev pub is_return_before_feed : ℕ → List ℕ → Bool
is_return_before_feed b rest = b == byte.carriage_return && begins (λ c. c == byte.line_feed) rest

-- two dashes and a bar outside annotation text begin it
abbrev pub begins_note : Bool → List ℕ → Bool
begins_note note text = not note && begins (λ b. b == byte.bar) text

abbrev pub token_at : Bool → TokenKind → ℕ → ℕ → ℕ → Token
token_at note kind start size line = record { kind = kind; start = start; end = start + size; line = line; note = note }

-- The bytes fall into these tokens. The first of them is the byte of this number, in this line; `note` tells that it stands in annotation text, which ends with its line.
pub data Lexed : Bool → ℕ → ℕ → List ℕ → List Token → Type 0 where
  nothing : (note : Bool) (at line : ℕ) → Lexed note at line [] []
  blank : (note : Bool) (at line b : ℕ) (rest : List ℕ) (tokens : List Token)
      → is_blank b ≡ true → Lexed note (suc at) line rest tokens → Lexed note at line (b ∷ rest) tokens
  line_end : (note : Bool) (at line b : ℕ) (rest : List ℕ) (tokens : List Token)
      → ends_line b ≡ true → is_return_before_feed b rest ≡ false → Lexed false (suc at) (suc line) rest tokens → Lexed note at line (b ∷ rest) tokens
  two_byte_end : (note : Bool) (at line : ℕ) (rest : List ℕ) (tokens : List Token)
      → Lexed false (suc (suc at)) (suc line) rest tokens → Lexed note at line (byte.carriage_return ∷ byte.line_feed ∷ rest) tokens
  annotation : (at line : ℕ) (rest : List ℕ) (tokens : List Token)
      → Lexed true (suc (suc (suc at))) line rest tokens → Lexed false at line (byte.dash ∷ byte.dash ∷ byte.bar ∷ rest) tokens
  -- two dashes and the rest of the line
  comment : (note : Bool) (at line : ℕ) (bytes text rest : List ℕ) (tokens : List Token)
      → bytes ≡ byte.dash ∷ byte.dash ∷ (text ++ rest) → begins_note note (text ++ rest) ≡ false → list_any ends_line text ≡ false → begins (λ b. not (ends_line b)) rest ≡ false
      → Lexed note (at + (2 + length text)) line rest tokens → Lexed note at line bytes (token_at false Comment at (2 + length text) line ∷ tokens)
  token : (note : Bool) (kind : TokenKind) (at line : ℕ) (bytes spelling rest : List ℕ) (tokens : List Token)
      → bytes ≡ spelling ++ rest → spells note kind spelling ≡ true → begins (goes_on kind spelling) rest ≡ false
      → Lexed note (at + length spelling) line rest tokens → Lexed note at line bytes (token_at note kind at (length spelling) line ∷ tokens)

-- the tokens of a whole text
abbrev pub AreTokens : List ℕ → List Token → Type 0
AreTokens bytes tokens = Lexed false 0 1 bytes tokens

-- ---- where tokens stand

-- one after another from one byte to another, each with a byte at least
abbrev pub InOrder : ℕ → ℕ → List Token → Type 0
InOrder from to [] = from ≤ to
InOrder from to (t ∷ tokens) = (from ≤ t.start) × (t.start < t.end) × InOrder t.end to tokens
