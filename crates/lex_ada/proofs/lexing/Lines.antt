-- The ends of lines in a text that is cut.
use Rattle.std.proofs.Common.{not, ◌≡◌, ℕ, suc, ◌+◌, List, [], ◌∷◌, ◌++◌, Bool, true, false, cond, refl, ◌∙◌, ap, arith}
use Rattle.std.specs.List.{list_any, list_all}
use Rattle.std.proofs.lemmas.Bool.{not-true, and_parts, or_parts, or_from, and_left, not_from_false, and_from}
use Rattle.ada_tree.specs.declared.word.TheConstants.{MARKS}
use Rattle.ada_tree.specs.Texts.{ends_line}
use Rattle.lex_ada.specs.declared.token.TokenKind.{TokenKind}
use Rattle.lex_ada.specs.declared.token.TokenKind.TheVariants as kind
use Rattle.lex_ada.specs.declared.cut.Cut.{Cut}
use Rattle.lex_ada.specs.Lexis.{is_word_byte, spells}
use Rattle.lex_ada.specs.Faults.{line_ends}
use Rattle.lex_ada.proofs.lexing.Letters.{blank_in_line, digit_byte_of_word}
use Rattle.lex_ada.proofs.lexing.Heads.{word_one_line, list_all-weaker}
use Rattle.lex_ada.proofs.lexing.Runs.{is_digit_byte}
use Rattle.lex_ada.proofs.lexing.Spelled.{found_passes, is_short, word_spelled, name_spelled}
use Rattle.lex_ada.proofs.lexing.Fronts.{Front, a_blank, an_end, an_end_of_two, a_note, a_comment, a_token, line_after}

-- a text in one line, before another
pub lines-skip : (piece rest : List ℕ) → list_any ends_line piece ≡ false → line_ends (piece ++ rest) ≡ line_ends rest
lines-skip [] rest e = refl
lines-skip (b ∷ piece) rest e =
    let parts = or_parts (ends_line b) (list_any ends_line piece) e in
    ap (λ (t : Bool). cond t 1 0 + line_ends (piece ++ rest)) (and_left (ends_line b) _ parts.0) ∙ omega (arith, lines-skip piece rest parts.1)

-- an identifier is in one line
short_one_line : (text : List ℕ) → is_short text ≡ true → list_any ends_line text ≡ false
short_one_line text e = word_one_line text (and_parts _ (list_all is_word_byte text) (and_parts _ _ (and_parts _ _ e).0).0).1

-- nor any token that is spelled
pub token_one_line : (note : Bool) (k : TokenKind) (spelling : List ℕ) → spells note k spelling ≡ true → list_any ends_line spelling ≡ false
token_one_line note kind.Name spelling e = short_one_line spelling (name_spelled note spelling e).0
token_one_line note kind.Word spelling e = short_one_line spelling (word_spelled note spelling e).0
token_one_line note kind.Number spelling e = word_one_line spelling (list_all-weaker is_digit_byte is_word_byte spelling digit_byte_of_word (and_parts _ (list_all is_digit_byte spelling) (and_parts _ _ (and_parts _ _ e).0).0).1)
token_one_line note kind.Mark spelling e = not-true _ (found_passes (λ row. row.0) (λ row. row.1.now) (λ text. not (list_any ends_line text)) MARKS spelling refl e)
token_one_line note kind.Comment spelling e = absurd (cc)

-- a line that ends counts
one_more_line : (t : Bool) (line n : ℕ) → t ≡ true → line + (cond t 1 0 + n) ≡ suc line + n
one_more_line true line n e = omega arith
one_more_line false line n e = cc

-- how the line moves past the front of a text
pub front_lines : (note : Bool) (line : ℕ) (piece rest : List ℕ) (cut : Cut) → Front note piece rest cut → line + line_ends (piece ++ rest) ≡ line_after cut line + line_ends rest
front_lines note line piece rest cut (a_blank _ b _ is) = ap (λ (n : ℕ). line + n) (lines-skip (b ∷ []) rest (or_from (ends_line b) false (blank_in_line b is) refl))
front_lines note line piece rest cut (an_end _ b _ is alone) =
    one_more_line _ line (line_ends rest) (and_from (ends_line b) _ is (not_from_false _ alone))
front_lines note line piece rest cut (an_end_of_two _ _) = omega arith
front_lines note line piece rest cut (a_note _) = ap (λ (n : ℕ). line + n) (lines-skip piece rest refl)
front_lines note line piece rest cut (a_comment _ text _ _ one_line _) = ap (λ (n : ℕ). line + n) (lines-skip piece rest one_line)
front_lines note line piece rest cut (a_token _ k _ _ is _) = ap (λ (n : ℕ). line + n) (lines-skip piece rest (token_one_line note k piece is))
