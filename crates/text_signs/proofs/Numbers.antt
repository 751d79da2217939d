-- A numeral without underscores and leading zeros is a number.
use Rattle.std.proofs.Common.{◌≡◌, ℕ, ◌≤◌, List, [], ◌∷◌, length, Bool, true, not, cond, ◌&&◌, ◌||◌, refl, sym, ◌∙◌, ap, subst, arith}
use Rattle.std.specs.Prelude.{◌==◌, filter, count_by, nat_le}
use Rattle.std.specs.List.{list_all}
use Rattle.std.specs.Char.{is_ascii_digit}
use Rattle.std.proofs.lemmas.Bool.{and_parts, and_from, or_right, cond_both, not_from_false, leb-true, le-leb}
use Rattle.std.proofs.lemmas.Bool.Decides.{nat_tests}
use Rattle.std.proofs.lemmas.List.Sums.{length-filter, list_all-from_AllPass}
use Rattle.std.proofs.lemmas.List.Elements.{filter_passes}
use Rattle.base_kit.specs.Bytes as byte
use Rattle.ada_tree.specs.declared.limits.TheConstants.{LONGEST_NUMBER}
use Rattle.ada_tree.specs.Texts.{begins, is_spaced, is_number}
use Rattle.lex_ada.specs.Lexis.{is_numeral}
use Rattle.lex_ada.specs.Meanings.{without_zeros, number_text}
use Rattle.lex_ada.proofs.lexing.Runs.{is_digit_byte}

-- ---- without underscores

-- no underscore
abbrev is_kept : ℕ → Bool
is_kept b = not (b == byte.underscore)

-- a byte of a numeral is a digit exactly where it is kept
kept_digit : (b : ℕ) → is_digit_byte b ≡ true → is_kept b ≡ is_ascii_digit b
kept_digit b e = grind (arith, nat_tests)

-- so its digits are kept
digits_kept : (bytes : List ℕ) → list_all is_digit_byte bytes ≡ true → filter is_kept bytes ≡ filter is_ascii_digit bytes
digits_kept [] e = refl
digits_kept (b ∷ bytes) e =
    let parts = and_parts (is_digit_byte b) (list_all is_digit_byte bytes) e in
    ap (λ (t : Bool). cond t (b ∷ filter is_kept bytes) (filter is_kept bytes)) (kept_digit b parts.0)
    ∙ ap (λ (rest : List ℕ). cond (is_ascii_digit b) (b ∷ rest) rest) (digits_kept bytes parts.1)

-- ---- without leading zeros

-- digits, as many as the limit allows, the first no 0 unless it is the only one
number_from : (d : ℕ) (digits : List ℕ) → list_all is_ascii_digit (d ∷ digits) ≡ true → length (d ∷ digits) ≤ LONGEST_NUMBER
    → (nat_le (length (d ∷ digits)) 1 || not (d == byte.digit_zero)) ≡ true → is_number (d ∷ digits) ≡ true
number_from d digits all short zeros =
    let first = and_parts (is_ascii_digit d) (list_all is_ascii_digit digits) all in
    and_from (is_ascii_digit d && list_all is_ascii_digit (d ∷ digits) && nat_le (length (d ∷ digits)) LONGEST_NUMBER) _
    (and_from (is_ascii_digit d && list_all is_ascii_digit (d ∷ digits)) _ (and_from (is_ascii_digit d) _ first.0 all) (le-leb (length (d ∷ digits)) LONGEST_NUMBER short))
    zeros

-- digits without zeros before them are a number
digits_fit : (d : ℕ) (digits : List ℕ) → list_all is_ascii_digit (d ∷ digits) ≡ true → length (d ∷ digits) ≤ LONGEST_NUMBER → is_number (without_zeros (d ∷ digits)) ≡ true
digits_fit d [] all short = number_from d [] all short refl
digits_fit d (c ∷ digits) all short =
    cond_both (d == byte.digit_zero) (without_zeros (c ∷ digits)) (d ∷ c ∷ digits) (λ (text : List ℕ). is_number text ≡ true)
    (λ e. digits_fit c digits (and_parts (is_ascii_digit d) (list_all is_ascii_digit (c ∷ digits)) all).1 (omega arith))
    (λ e. number_from d (c ∷ digits) all short (or_right (nat_le (length (d ∷ c ∷ digits)) 1) _ (not_from_false (d == byte.digit_zero) e)))

-- the first digit stays before the others
filled_fit : (bytes digits : List ℕ) → begins is_ascii_digit bytes ≡ true → digits ≡ filter is_ascii_digit bytes → length digits ≤ LONGEST_NUMBER → is_number (without_zeros digits) ≡ true
filled_fit [] digits e same short = absurd (cc)
filled_fit (b ∷ bytes) digits e same short =
    let front : filter is_ascii_digit (b ∷ bytes) ≡ b ∷ filter is_ascii_digit bytes = ap (λ (t : Bool). cond t (b ∷ filter is_ascii_digit bytes) (filter is_ascii_digit bytes)) e in
    let all = same ∙ front in
    let passes : list_all is_ascii_digit (b ∷ filter is_ascii_digit bytes) ≡ true = and_from (is_ascii_digit b) _ e (list_all-from_AllPass is_ascii_digit (filter is_ascii_digit bytes) (filter_passes is_ascii_digit bytes)) in
    subst (λ (text : List ℕ). is_number (without_zeros text) ≡ true) (sym all)
    (digits_fit b (filter is_ascii_digit bytes) passes (subst (λ (text : List ℕ). length text ≤ LONGEST_NUMBER) all short))

-- the text of a number that bytes spell is a number
pub number_fits : (bytes : List ℕ) → is_numeral bytes ≡ true → is_number (number_text bytes) ≡ true
number_fits bytes e =
    let few = and_parts (begins is_ascii_digit bytes && list_all is_digit_byte bytes && is_spaced true bytes) (nat_le (count_by is_ascii_digit bytes) LONGEST_NUMBER) e in
    let spaced = and_parts (begins is_ascii_digit bytes && list_all is_digit_byte bytes) (is_spaced true bytes) few.0 in
    let made = and_parts (begins is_ascii_digit bytes) (list_all is_digit_byte bytes) spaced.0 in
    let same = digits_kept bytes made.1 in
    let counted : length (filter is_kept bytes) ≡ count_by is_ascii_digit bytes = ap length same ∙ length-filter is_ascii_digit bytes in
    filled_fit bytes (filter is_kept bytes) made.0 same (subst (λ (n : ℕ). n ≤ LONGEST_NUMBER) (sym counted) (leb-true (count_by is_ascii_digit bytes) LONGEST_NUMBER few.1))
