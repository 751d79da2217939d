-- The tokens of every text stand for tokens and comments that there are in texts.
use Rattle.std.proofs.Common.{◌≡◌, ℕ, List, [], ◌∷◌, Bool, true, false, not, ◌&&◌, refl, ◌∙◌}
use Rattle.std.proofs.lemmas.Bool.{and_parts, and_from, or_left, or_right, cond_both, not_from_false}
use Rattle.std.proofs.lemmas.List.Folds.{list_all-append}
use Rattle.ada_tree.specs.Words.{reserved_words, note_words}
use Rattle.ada_tree.specs.Texts.{is_word_among}
use Rattle.lex_ada.specs.declared.token.Token.{Token}
use Rattle.lex_ada.specs.declared.token.TokenKind.{TokenKind}
use Rattle.lex_ada.specs.declared.token.TokenKind.TheVariants as kind
use Rattle.lex_ada.specs.Cutting.{note_of}
use Rattle.lex_ada.specs.Lexis.{spells, AreTokens}
use Rattle.lex_ada.specs.Meanings.{bytes_of, meaning, meanings}
use Rattle.lex_ada.proofs.lexing.Runs.{or_one}
use Rattle.lex_ada.proofs.lexing.Spelled.{is_short}
use Rattle.reading_exact.specs.Whole.{is_sign, are_signs}
use Rattle.text_signs.specs.Fragments.{noted_kind, noted_tokens}
use Rattle.text_signs.proofs.Comments.{comment_fits}
use Rattle.text_signs.proofs.Names.{name_fits}
use Rattle.text_signs.proofs.Numbers.{number_fits}
use Rattle.text_signs.proofs.Pieces.{IsPiece, a_spelling, a_remark, ArePieces, are_pieces}
use Rattle.text_signs.proofs.Words.{word_fits, mark_fits}

-- ---- one token

-- what bytes spell stands for a token that there is
spelling_fits : (note : Bool) (k : TokenKind) (bytes : List ℕ) → spells note k bytes ≡ true → are_signs (meaning k note bytes) ≡ true
spelling_fits note kind.Name bytes e = and_from _ true (name_fits note bytes e) refl
spelling_fits note kind.Number bytes e = and_from _ true (number_fits bytes e) refl
spelling_fits note kind.Word bytes e = word_fits note bytes e
spelling_fits note kind.Mark bytes e = mark_fits note bytes
spelling_fits note kind.Comment bytes e = absurd (cc)

-- and so do the bytes of any token
piece_fits : (note : Bool) (k : TokenKind) (bytes : List ℕ) → IsPiece note k bytes → are_signs (meaning k note bytes) ≡ true
piece_fits note k bytes (a_spelling _ _ _ e) = spelling_fits note k bytes e
piece_fits note k bytes (a_remark _ text one_line) = and_from _ true (comment_fits text one_line) refl

-- ---- all tokens

pieces_fit : (source : List ℕ) (tokens : List Token) → ArePieces source tokens → are_signs (meanings source tokens) ≡ true
pieces_fit source [] h = refl
pieces_fit source (t ∷ tokens) h =
    list_all-append is_sign (meaning t.kind t.note (bytes_of source t)) (meanings source tokens)
    ∙ and_from (are_signs (meaning t.kind t.note (bytes_of source t))) _ (piece_fits t.note t.kind (bytes_of source t) h.0) (pieces_fit source tokens h.1)

-- what the tokens of every text stand for is there
pub tokens_fit : (bytes : List ℕ) (tokens : List Token) → AreTokens bytes tokens → are_signs (meanings bytes tokens) ≡ true
tokens_fit bytes tokens fall = pieces_fit bytes tokens (are_pieces bytes tokens fall)

-- ---- as annotation tokens

-- a word is one of annotation text too
word_noted : (note : Bool) (bytes : List ℕ) → spells note kind.Word bytes ≡ true → spells true kind.Word bytes ≡ true
word_noted true bytes e = e
word_noted false bytes e = or_left (is_word_among reserved_words bytes) _ (or_one (is_word_among reserved_words bytes) false e refl)

-- a name is one there too, or a word of annotations
name_noted : (note : Bool) (bytes : List ℕ) → spells note kind.Name bytes ≡ true → spells true (noted_kind kind.Name bytes) bytes ≡ true
name_noted note bytes e =
    let parts = and_parts (is_short bytes && not (is_word_among reserved_words bytes)) (not (note && is_word_among note_words bytes)) e in
    cond_both (is_word_among note_words bytes) kind.Word kind.Name (λ (k : TokenKind). spells true k bytes ≡ true)
    (λ among. or_right (is_word_among reserved_words bytes) _ among)
    (λ free. and_from (is_short bytes && not (is_word_among reserved_words bytes)) _ parts.0 (not_from_false (is_word_among note_words bytes) free))

-- what bytes spell they spell there
spelling_noted : (note : Bool) (k : TokenKind) (bytes : List ℕ) → spells note k bytes ≡ true → spells (note_of true k) (noted_kind k bytes) bytes ≡ true
spelling_noted note kind.Name bytes e = name_noted note bytes e
spelling_noted note kind.Number bytes e = e
spelling_noted note kind.Word bytes e = word_noted note bytes e
spelling_noted note kind.Mark bytes e = e
spelling_noted note kind.Comment bytes e = e

-- the bytes of any token are those of one there
piece_noted : (note : Bool) (k : TokenKind) (bytes : List ℕ) → IsPiece note k bytes → IsPiece (note_of true k) (noted_kind k bytes) bytes
piece_noted note k bytes (a_spelling _ _ _ e) = a_spelling (note_of true k) (noted_kind k bytes) bytes (spelling_noted note k bytes e)
piece_noted note k bytes (a_remark _ text one_line) = a_remark false text one_line

pieces_noted : (source : List ℕ) (tokens : List Token) → ArePieces source tokens → ArePieces source (noted_tokens source tokens)
pieces_noted source [] h = tt
pieces_noted source (t ∷ tokens) h = (piece_noted t.note t.kind (bytes_of source t) h.0, pieces_noted source tokens h.1)

-- what the tokens of every text stand for as annotation tokens is there
pub noted_tokens_fit : (bytes : List ℕ) (tokens : List Token) → AreTokens bytes tokens → are_signs (meanings bytes (noted_tokens bytes tokens)) ≡ true
noted_tokens_fit bytes tokens fall = pieces_fit bytes (noted_tokens bytes tokens) (pieces_noted bytes tokens (are_pieces bytes tokens fall))
