-- Tokens that fit their side are spelled by their text.
use Rattle.std.proofs.Common.{◌≡◌, ℕ, ◌≤◌, List, [], ◌∷◌, length, map, Bool, true, false, not, ◌&&◌, ◌||◌, refl, sym, ◌∙◌, ap, arith}
use Rattle.std.specs.Prelude.{count_by, filter, ◌==◌, nat_le, is_some}
use Rattle.std.specs.List.{list_all}
use Rattle.std.specs.Char.{is_ascii_alphabetic, is_ascii_alphanumeric, is_ascii_digit, to_ascii_uppercase}
use Rattle.std.proofs.lemmas.Bool.{and_parts, and_from, or_left, cond-true, cond-false, leb-true, le-leb, lt-leb, not-true, not_from_false}
use Rattle.std.proofs.lemmas.List.Sums.{count_by-le-length}
use Rattle.std.proofs.lemmas.Bool.Decides.{nat_tests}
use Rattle.std.proofs.lemmas.Slice.Eq.{bytes_eq-Decides}
use Rattle.ada_tree.specs.declared.word.Word.{Word as WordType}
use Rattle.ada_tree.specs.declared.limits.TheConstants.{LONGEST_NAME}
use Rattle.ada_tree.specs.Words.{word_text, reserved_words, note_words}
use Rattle.ada_tree.specs.Texts.{begins, is_spaced, is_word_among, is_identifier, is_free, is_upper_case, is_number}
use Rattle.ada_tree.specs.Tokens.{Lexeme, a_name, a_number, a_word, a_mark, Sign, token}
use Rattle.ada_tree.specs.Rendering.{lexeme_text}
use Rattle.lex_ada.specs.declared.token.TokenKind.{TokenKind}
use Rattle.lex_ada.specs.declared.token.TokenKind.TheVariants.{Name, Number, Word}
use Rattle.lex_ada.specs.Lexis.{spells, goes_on}
use Rattle.lex_ada.specs.Meanings.{without_zeros, meaning}
use Rattle.lex_ada.specs.Rendered.{is_word_of, is_fitting, kind_of_lexeme}
use Rattle.text_laws.proofs.rendering.Words.{is_filled, found_word, found_mark}

-- bytes that spell a token of a kind, which stands for a sign, and that neither a blank nor a line end makes longer
pub record IsSpelled (note : Bool) (kind : TokenKind) (text : List ℕ) (s : Sign) : Type 0 where
  pub fits : spells note kind text ≡ true
  pub means : meaning kind note text ≡ s ∷ []
  pub no_blank : goes_on kind text 32 ≡ false
  pub no_end : goes_on kind text 10 ≡ false
  pub filled : is_filled text ≡ true

-- ---- names

-- where the first byte passes a test, there is one
begins_filled : (test : ℕ → Bool) (bytes : List ℕ) → begins test bytes ≡ true → is_filled bytes ≡ true
begins_filled test [] e = e
begins_filled test (b ∷ bytes) e = refl

-- a name that is no word, for the sign with its text in upper case
pub spelled_name : (note : Bool) (text upper : List ℕ) → is_free note text ≡ true → map to_ascii_uppercase text ≡ upper → IsSpelled note Name text (token note (a_name upper))
spelled_name note text upper free same =
    let in_annotation = and_parts (is_identifier text && nat_le (length text) LONGEST_NAME && not (is_word_among reserved_words text)) _ free in
    let in_text = and_parts (is_identifier text && nat_le (length text) LONGEST_NAME) _ in_annotation.0 in
    let short = and_parts (is_identifier text) _ in_text.0 in
    let spaced = and_parts (begins is_ascii_alphabetic text && list_all (λ b. is_ascii_alphanumeric b || b == 95) text) (is_spaced true text) short.0 in
    let shape = and_parts (begins is_ascii_alphabetic text) _ spaced.0 in
    record {
      fits = free;
      means = ap (λ (t : List ℕ). token note (a_name t) ∷ []) same;
      no_blank = refl;
      no_end = refl;
      filled = begins_filled is_ascii_alphabetic text shape.0;
    }

-- ---- numbers

-- a digit is no underscore
digit_no_underscore : (b : ℕ) → is_ascii_digit b ≡ true → (b == 95) ≡ false
digit_no_underscore b e = grind (arith, nat_tests)

-- digits need no spacing
digits_spaced : (bytes : List ℕ) → list_all is_ascii_digit bytes ≡ true → is_spaced false bytes ≡ true
digits_spaced [] e = refl
digits_spaced (b ∷ bytes) e =
    let parts = and_parts (is_ascii_digit b) (list_all is_ascii_digit bytes) e in
    cond-false (b == 95) _ _ (digit_no_underscore b parts.0) ∙ digits_spaced bytes parts.1

-- nor where they begin
begun_spaced : (bytes : List ℕ) → is_filled bytes ≡ true → list_all is_ascii_digit bytes ≡ true → is_spaced true bytes ≡ true
begun_spaced [] filled e = filled
begun_spaced (b ∷ bytes) filled e =
    let parts = and_parts (is_ascii_digit b) (list_all is_ascii_digit bytes) e in
    cond-false (b == 95) _ _ (digit_no_underscore b parts.0) ∙ digits_spaced bytes parts.1

-- they may stand in a numeral
digits_numeral : (bytes : List ℕ) → list_all is_ascii_digit bytes ≡ true → list_all (λ b. is_ascii_digit b || b == 95) bytes ≡ true
digits_numeral [] e = refl
digits_numeral (b ∷ bytes) e =
    let parts = and_parts (is_ascii_digit b) (list_all is_ascii_digit bytes) e in
    and_from (is_ascii_digit b || b == 95) _ (or_left (is_ascii_digit b) (b == 95) parts.0) (digits_numeral bytes parts.1)

-- no underscore is left out
digits_kept : (bytes : List ℕ) → list_all is_ascii_digit bytes ≡ true → filter (λ b. not (b == 95)) bytes ≡ bytes
digits_kept [] e = refl
digits_kept (b ∷ bytes) e =
    let parts = and_parts (is_ascii_digit b) (list_all is_ascii_digit bytes) e in
    cond-true (not (b == 95)) _ _ (not_from_false (b == 95) (digit_no_underscore b parts.0)) ∙ ap (λ (bs : List ℕ). b ∷ bs) (digits_kept bytes parts.1)

-- and no zero, where none stands first but a lone one
zeros_kept : (bytes : List ℕ) → (nat_le (length bytes) 1 || not (begins (λ b. b == 48) bytes)) ≡ true → without_zeros bytes ≡ bytes
zeros_kept [] e = refl
zeros_kept (d ∷ []) e = refl
zeros_kept (d ∷ c ∷ bytes) e =
    let long : nat_le (length (d ∷ c ∷ bytes)) 1 ≡ false = lt-leb (length (d ∷ c ∷ bytes)) 1 (omega arith) in
    cond-false (d == 48) _ _ (not-true (d == 48) (ap (λ (t : Bool). t || not (d == 48)) (sym long) ∙ e))

-- a number without leading zeros
spelled_number : (note : Bool) (text : List ℕ) → is_number text ≡ true → IsSpelled note Number text (token note (a_number text))
spelled_number note text e =
    let zeros = and_parts (begins is_ascii_digit text && list_all is_ascii_digit text && nat_le (length text) 18) _ e in
    let short = and_parts (begins is_ascii_digit text && list_all is_ascii_digit text) _ zeros.0 in
    let digits = and_parts (begins is_ascii_digit text) (list_all is_ascii_digit text) short.0 in
    let filled = begins_filled is_ascii_digit text digits.0 in
    let few : count_by is_ascii_digit text ≤ 18 = omega (arith, count_by-le-length is_ascii_digit text, leb-true (length text) 18 short.1) in
    let all = and_from (begins is_ascii_digit text) _ digits.0 (digits_numeral text digits.1) in
    let spaced = and_from (begins is_ascii_digit text && list_all (λ b. is_ascii_digit b || b == 95) text) _ all (begun_spaced text filled digits.1) in
    record {
      fits = and_from (begins is_ascii_digit text && list_all (λ b. is_ascii_digit b || b == 95) text && is_spaced true text) _ spaced (le-leb (count_by is_ascii_digit text) 18 few);
      means = ap (λ (t : List ℕ). token note (a_number t) ∷ []) (ap without_zeros (digits_kept text digits.1) ∙ zeros_kept text zeros.1);
      no_blank = refl;
      no_end = refl;
      filled = filled;
    }

-- ---- words and marks

-- a word of its side
spelled_word : (note : Bool) (w : WordType) → is_fitting note (a_word w) ≡ true → IsSpelled note Word (word_text w) (token note (a_word w))
spelled_word note w e =
    let found = found_word w in
    record {
      fits = ap (λ (t : Bool). t || (note && is_word_among note_words (word_text w))) found.1 ∙ ap (λ (t : Bool). is_word_of reserved_words w || (note && t)) found.2 ∙ e;
      means = rw found.0;
      no_blank = refl;
      no_end = refl;
      filled = found.3;
    }

-- each token that fits its side
pub spelled : (note : Bool) (lexeme : Lexeme) → is_fitting note lexeme ≡ true → IsSpelled note (kind_of_lexeme lexeme) (lexeme_text lexeme) (token note lexeme)
spelled note (a_name text) e =
    let parts = and_parts (is_free note text) (is_upper_case text) e in
    spelled_name note text text parts.0 (sym ((bytes_eq-Decides text (map to_ascii_uppercase text)).0 parts.1))
spelled note (a_number text) e = spelled_number note text e
spelled note (a_word w) e = spelled_word note w e
spelled note (a_mark m) e =
    let found = found_mark m in
    record {
      fits = ap is_some found.0;
      means = rw found.0;
      no_blank = found.1;
      no_end = found.2;
      filled = found.3;
    }
