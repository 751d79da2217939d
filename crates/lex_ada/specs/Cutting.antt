-- Tokens as they are cut from the front of a text: a function, apart from `Lexed`, which it is proved to compute.
use Rattle.std.specs.Prelude.{ℕ, zero, suc, ◌+◌, ◌-◌, List, [], ◌∷◌, take, Bool, true, false, not, ◌||◌, ◌==◌, nat_le, if◌then◌else◌, codes, Option, Some, None, Result, Ok, Err}
use Rattle.std.specs.List.{prefix_len, list_any}
use Rattle.std.specs.Char.{is_ascii_alphabetic, is_ascii_alphanumeric, is_ascii_digit}
use Rattle.ada_tree.specs.declared.limits.TheConstants.{LONGEST_NAME, LONGEST_NUMBER}
use Rattle.base_kit.specs.Bytes as byte
use Rattle.ada_tree.specs.Texts.{ends_line, is_blank}
use Rattle.lex_ada.specs.declared.token.Token.{Token}
use Rattle.lex_ada.specs.declared.token.TokenKind.{TokenKind}
use Rattle.lex_ada.specs.declared.token.TokenKind.TheVariants as kind
use Rattle.lex_ada.specs.declared.cut.Cut.{Cut}
use Rattle.lex_ada.specs.declared.cut.Cut.TheVariants.{Blank, LineEnd, Note, Piece, Bad}
use Rattle.lex_ada.specs.declared.scan.Refusal.{Refusal}
use Rattle.lex_ada.specs.Lexis.{spells, is_return_before_feed, begins_note, token_at}

-- ---- how far a name or a word, and a number, goes; or the number of the first byte that none admits

abbrev pub longer : Result ℕ ℕ → Result ℕ ℕ
longer (Ok n) = Ok (suc n)
longer (Err n) = Err (suc n)

-- no underscore ends one; `after` tells that one has just stood
abbrev pub ends : Bool → Result ℕ ℕ
ends after = if after then Err 0 else Ok 0

-- after so many bytes of it; no underscore stands at its last place
abbrev pub name_length : Bool → ℕ → List ℕ → Result ℕ ℕ
name_length after count [] = ends after
name_length after count (b ∷ rest) =
    if b == byte.underscore then (if after || nat_le (LONGEST_NAME - 1) count then Err 0 else longer (name_length true (suc count) rest))
    else if is_ascii_alphanumeric b then (if nat_le LONGEST_NAME count then Err 0 else longer (name_length false (suc count) rest))
    else ends after

-- after so many digits of it
abbrev pub number_length : Bool → ℕ → List ℕ → Result ℕ ℕ
number_length after digits [] = ends after
number_length after digits (b ∷ rest) =
    if b == byte.underscore then (if after || nat_le LONGEST_NUMBER digits then Err 0 else longer (number_length true digits rest))
    else if is_ascii_digit b then (if nat_le LONGEST_NUMBER digits then Err 0 else longer (number_length false (suc digits) rest))
    else if is_ascii_alphabetic b then Err 0
    else ends after

-- ---- what stands at the front

abbrev pub word_kind : Bool → List ℕ → TokenKind
word_kind note bytes = if spells note kind.Word bytes then kind.Word else kind.Name

abbrev pub word_piece : Bool → List ℕ → Result ℕ ℕ → Cut
word_piece note bytes (Ok n) = Piece (word_kind note (take n bytes)) n
word_piece note bytes (Err n) = Bad n

abbrev pub number_piece : Result ℕ ℕ → Cut
number_piece (Ok n) = Piece kind.Number n
number_piece (Err n) = Bad n

-- a mark of one byte, or of two where one of these follows
abbrev pub longer_mark : List ℕ → List ℕ → Cut
longer_mark seconds [] = Piece kind.Mark 1
longer_mark seconds (c ∷ rest) = if list_any (λ second. second == c) seconds then Piece kind.Mark 2 else Piece kind.Mark 1

-- the longest mark: ** and *, -> and -, .. and ., /= and /, := and :, <= << <> and <, => == and =, >= >> and >, or one of & ' ( ) + , ; | [ ] @
abbrev pub mark_cut : ℕ → List ℕ → Cut
mark_cut b rest =
    if b == byte.asterisk then longer_mark (byte.asterisk ∷ []) rest
    else if b == byte.dash then longer_mark (byte.greater_than ∷ []) rest
    else if b == byte.dot then longer_mark (byte.dot ∷ []) rest
    else if b == byte.slash then longer_mark (byte.equals ∷ []) rest
    else if b == byte.colon then longer_mark (byte.equals ∷ []) rest
    else if b == byte.less_than then longer_mark (byte.equals ∷ byte.less_than ∷ byte.greater_than ∷ []) rest
    else if b == byte.equals then longer_mark (byte.greater_than ∷ byte.equals ∷ []) rest
    else if b == byte.greater_than then longer_mark (byte.equals ∷ byte.greater_than ∷ []) rest
    else if list_any (λ single. single == b) (codes "&'()+,;|[]@") then Piece kind.Mark 1
    else Bad 0

abbrev pub in_line : ℕ → Bool
in_line b = not (ends_line b)

-- at a dash: annotation text begins, or there is a comment to the end of the line, or a mark
abbrev pub dash_cut : Bool → List ℕ → Cut
dash_cut note [] = mark_cut byte.dash []
dash_cut note (b ∷ text) = if b == byte.dash then (if begins_note note text then Note else Piece kind.Comment (2 + prefix_len in_line text)) else mark_cut byte.dash (b ∷ text)

abbrev pub cut_of : Bool → ℕ → List ℕ → Cut
cut_of note b rest =
    if ends_line b then LineEnd (if is_return_before_feed b rest then 2 else 1)
    else if is_blank b then Blank
    else if b == byte.dash then dash_cut note rest
    else if is_ascii_alphabetic b then word_piece note (b ∷ rest) (name_length false 0 (b ∷ rest))
    else if is_ascii_digit b then number_piece (number_length false 0 (b ∷ rest))
    else mark_cut b rest

-- where nothing stands, nothing is cut
abbrev pub cut_at : Bool → List ℕ → Cut
cut_at note [] = Blank
cut_at note (b ∷ rest) = cut_of note b rest

-- ---- what a cut does, where no byte is refused

abbrev pub size_of : Cut → ℕ
size_of Blank = 1
size_of (LineEnd size) = size
size_of Note = 3
size_of (Piece k size) = size
size_of (Bad size) = size

-- whether annotation text follows
abbrev pub note_after : Cut → Bool → Bool
note_after (LineEnd size) note = false
note_after Note note = true
note_after _ note = note

abbrev pub line_after : Cut → ℕ → ℕ
line_after (LineEnd size) line = suc line
line_after _ line = line

-- a comment is in no annotation
abbrev pub note_of : Bool → TokenKind → Bool
note_of note kind.Comment = false
note_of note _ = note

abbrev pub token_of : Cut → Bool → ℕ → ℕ → Option Token
token_of (Piece k size) note at line = Some (token_at (note_of note k) k at size line)
token_of _ note at line = None

-- ---- the tokens of a text

abbrev pub with_token : Token → Result (List Token) Refusal → Result (List Token) Refusal
with_token token (Ok tokens) = Ok (token ∷ tokens)
with_token token (Err refusal) = Err refusal

-- what follows a cut at the byte of this number, in this line; `more` goes on after some skipped bytes
abbrev pub after_cut : Cut → Bool → ℕ → ℕ → (ℕ → Bool → ℕ → Result (List Token) Refusal) → Result (List Token) Refusal
after_cut Blank note at line more = more 0 note line
after_cut (LineEnd size) note at line more = more (size - 1) false (suc line)
after_cut Note note at line more = more 2 true line
after_cut (Piece k size) note at line more = with_token (token_at (note_of note k) k at size line) (more (size - 1) note line)
after_cut (Bad size) note at line more = Err (record { at = at + size; line = line })

-- the tokens of a text, of which so many bytes are skipped, or the byte that no token admits and its line
abbrev pub scanned : ℕ → Bool → ℕ → ℕ → List ℕ → Result (List Token) Refusal
scanned skip note at line [] = Ok []
scanned (suc skip) note at line (b ∷ rest) = scanned skip note (suc at) line rest
scanned zero note at line (b ∷ rest) = after_cut (cut_of note b rest) note at line (λ skip next next_line. scanned skip next (suc at) next_line rest)
