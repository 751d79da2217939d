-- Bytes by their kind, and texts that begin with the same byte.
use Rattle.std.proofs.Common.{◌≡◌, ℕ, true, false, arith}
use Rattle.std.specs.Prelude.{◌==◌, ◌||◌}
use Rattle.std.specs.Char.{is_ascii_alphabetic, is_ascii_alphanumeric, is_ascii_digit, to_ascii_lowercase}
use Rattle.std.proofs.lemmas.Bool.Decides.{nat_tests}
use Rattle.ada_tree.specs.Texts.{ends_line, is_blank}
use Rattle.lex_ada.specs.Lexis.{is_word_byte}

-- a blank ends no line
pub blank_in_line : (b : ℕ) → is_blank b ≡ true → ends_line b ≡ false
blank_in_line b e = grind (arith, nat_tests)

-- a byte of a word ends none
pub word_in_line : (b : ℕ) → is_word_byte b ≡ true → ends_line b ≡ false
word_in_line b e = grind (arith, nat_tests)

-- it is no blank
pub word_not_blank : (b : ℕ) → is_word_byte b ≡ true → is_blank b ≡ false
word_not_blank b e = grind (arith, nat_tests)

-- and no dash
pub word_no_dash : (b : ℕ) → is_word_byte b ≡ true → (b == 45) ≡ false
word_no_dash b e = grind (arith, nat_tests)

-- a letter is a byte of a word
pub letter_of_word : (b : ℕ) → is_ascii_alphabetic b ≡ true → is_word_byte b ≡ true
letter_of_word b e = grind (arith, nat_tests)

-- a letter or a digit
pub letter_alphanumeric : (b : ℕ) → is_ascii_alphabetic b ≡ true → is_ascii_alphanumeric b ≡ true
letter_alphanumeric b e = grind (arith, nat_tests)

-- no digit
pub digit_no_letter : (b : ℕ) → is_ascii_digit b ≡ true → is_ascii_alphabetic b ≡ false
digit_no_letter b e = grind (arith, nat_tests)

-- and no underscore
pub alphanumeric_no_underscore : (b : ℕ) → is_ascii_alphanumeric b ≡ true → (b == 95) ≡ false
alphanumeric_no_underscore b e = grind (arith, nat_tests)

-- a digit is a letter or a digit
pub digit_alphanumeric : (b : ℕ) → is_ascii_digit b ≡ true → is_ascii_alphanumeric b ≡ true
digit_alphanumeric b e = grind (arith, nat_tests)

-- what is neither a letter nor a digit nor an underscore is no byte of a word
pub no_word_byte : (b : ℕ) → (b == 95) ≡ false → is_ascii_digit b ≡ false → is_ascii_alphabetic b ≡ false → is_word_byte b ≡ false
no_word_byte b e f g = grind (arith, nat_tests)

-- and the other way round
pub word_byte_none : (b : ℕ) → is_word_byte b ≡ false → (is_ascii_digit b ≡ false) × (is_ascii_alphabetic b ≡ false)
word_byte_none b e = (grind (arith, nat_tests), grind (arith, nat_tests))

-- a letter stays one in lower case, and what is none becomes none
pub lower_letter : (b : ℕ) → is_ascii_alphabetic (to_ascii_lowercase b) ≡ is_ascii_alphabetic b
lower_letter b = grind (arith, nat_tests)

-- so it is with the bytes of words
pub lower_word : (b : ℕ) → is_word_byte (to_ascii_lowercase b) ≡ is_word_byte b
lower_word b = grind (arith, nat_tests)

-- and with underscores
pub lower_underscore : (b : ℕ) → (to_ascii_lowercase b == 95) ≡ (b == 95)
lower_underscore b = grind (arith, nat_tests)

-- a digit is a byte of a word
pub digit_of_word : (b : ℕ) → is_ascii_digit b ≡ true → is_word_byte b ≡ true
digit_of_word b e = grind (arith, nat_tests)

-- and so is each byte of a number
pub digit_byte_of_word : (b : ℕ) → (is_ascii_digit b || b == 95) ≡ true → is_word_byte b ≡ true
digit_byte_of_word b e = grind (arith, nat_tests)
