-- The bytes of the tokens of a text: each is spelled as its kind is, or is a comment's.
use Rattle.std.proofs.Common.{◌≡◌, ℕ, ◌+◌, ◌-◌, List, [], ◌∷◌, ◌++◌, length, take, drop, Bool, true, false, refl, sym, ◌∙◌, ap, subst, append_assoc, length-append, arith}
use Rattle.std.specs.List.{list_any, AllByRecursion}
use Rattle.std.proofs.lemmas.List.{take_at, drop_at}
use Rattle.base_kit.specs.Bytes as byte
use Rattle.ada_tree.specs.Texts.{ends_line}
use Rattle.lex_ada.specs.declared.cut.Cut.{Cut}
use Rattle.lex_ada.specs.declared.token.Token.{Token}
use Rattle.lex_ada.specs.declared.token.TokenKind.{TokenKind}
use Rattle.lex_ada.specs.declared.token.TokenKind.TheVariants as kind
use Rattle.lex_ada.specs.Cutting.{note_of}
use Rattle.lex_ada.specs.Lexis.{spells, AreTokens}
use Rattle.lex_ada.specs.Meanings.{bytes_of}
use Rattle.lex_ada.proofs.lexing.Fronts.{Front, a_blank, an_end, an_end_of_two, a_note, a_comment, a_token, note_after, line_after, with_cut}
use Rattle.lex_ada.proofs.lexing.Scanning.{lexed_by}

-- bytes that a token of this kind may have, in annotation text or not
pub data IsPiece : Bool → TokenKind → List ℕ → Type 0 where
  a_spelling : (note : Bool) (k : TokenKind) (bytes : List ℕ) → spells note k bytes ≡ true → IsPiece note k bytes
  a_remark : (note : Bool) (text : List ℕ) → list_any ends_line text ≡ false → IsPiece note kind.Comment (byte.dash ∷ byte.dash ∷ text)

-- the bytes of all tokens are such
abbrev pub ArePieces : List ℕ → List Token → Type 0
ArePieces source tokens = AllByRecursion (λ (t : Token). IsPiece t.note t.kind (bytes_of source t)) tokens

-- what is spelled is no comment, so that it keeps its side
spelled_noted : (note : Bool) (k : TokenKind) (bytes : List ℕ) → spells note k bytes ≡ true → spells (note_of note k) k bytes ≡ true
spelled_noted note kind.Name bytes e = e
spelled_noted note kind.Number bytes e = e
spelled_noted note kind.Word bytes e = e
spelled_noted note kind.Mark bytes e = e
spelled_noted note kind.Comment bytes e = e

-- the bytes between two places
between : (source before piece rest : List ℕ) (at size : ℕ) → source ≡ before ++ (piece ++ rest) → length before ≡ at → length piece ≡ size → take (at + size - at) (drop at source) ≡ piece
between source before piece rest at size same counted sized =
    ap (λ (bytes : List ℕ). take (at + size - at) (drop at bytes)) same
    ∙ ap (take (at + size - at)) (drop_at before (piece ++ rest) at counted)
    ∙ take_at piece rest (at + size - at) (omega arith)

module _ (source : List ℕ) where
  -- what is said of tokens from a byte of the source on
  abbrev From : Bool → ℕ → ℕ → List ℕ → List Token → Type 0
  From note at line bytes tokens = (before : List ℕ) → source ≡ before ++ bytes → length before ≡ at → ArePieces source tokens

  -- the token of a front, if there is one, and the others
  with_front : (note : Bool) (at line : ℕ) (before piece rest : List ℕ) (cut : Cut) (tokens : List Token) → Front note piece rest cut → source ≡ before ++ (piece ++ rest) → length before ≡ at
      → ArePieces source tokens → ArePieces source (with_cut cut note at line tokens)
  with_front note at line before piece rest cut tokens (a_blank _ _ _ _) same counted h = h
  with_front note at line before piece rest cut tokens (an_end _ _ _ _ _) same counted h = h
  with_front note at line before piece rest cut tokens (an_end_of_two _ _) same counted h = h
  with_front note at line before piece rest cut tokens (a_note _) same counted h = h
  with_front note at line before piece rest cut tokens (a_comment _ text _ _ one_line _) same counted h =
      (subst (IsPiece false kind.Comment) (sym (between source before (byte.dash ∷ byte.dash ∷ text) rest at (2 + length text) same counted (omega arith))) (a_remark false text one_line), h)
  with_front note at line before piece rest cut tokens (a_token _ k _ _ spelled _) same counted h =
      (subst (IsPiece (note_of note k) k) (sym (between source before piece rest at (length piece) same counted refl)) (a_spelling (note_of note k) k piece (spelled_noted note k piece spelled)), h)

  -- a front before more of the source
  from_more : (note : Bool) (at line : ℕ) (piece rest : List ℕ) (cut : Cut) (tokens : List Token) → Front note piece rest cut → From (note_after cut note) (at + length piece) (line_after cut line) rest tokens
      → From note at line (piece ++ rest) (with_cut cut note at line tokens)
  from_more note at line piece rest cut tokens front more before same counted =
      with_front note at line before piece rest cut tokens front same counted
      (more (before ++ piece) (same ∙ sym (append_assoc before piece rest)) (length-append before piece ∙ ap (λ (n : ℕ). n + length piece) counted))

-- the bytes of the tokens of a text are such
pub are_pieces : (bytes : List ℕ) (tokens : List Token) → AreTokens bytes tokens → ArePieces bytes tokens
are_pieces bytes tokens fall = lexed_by (From bytes) (λ note at line before same counted. tt) (from_more bytes) false 0 1 bytes tokens fall [] refl refl
