-- Digits that are no number of the form, as `parse` reads them.
use Rattle.std.proofs.Common.{◌≡◌, ℕ, ◌≤◌, ◌^◌, List, [], ◌∷◌, Bool, true, false, Some, None, Err, refl, arith, rules}
use Rattle.std.specs.Prelude.{nat_le, ◌&&◌, if◌then◌else◌}
use Rattle.std.specs.List.{list_all}
use Rattle.std.specs.Char.{is_ascii_digit}
use Rattle.std.specs.Str.{IsUtf8}
use Rattle.std.specs.Str.Parse.{digits_value, ParsesUnsigned}
use Rattle.std.proofs.lemmas.Bool.Decides.{nat_tests}
use Rattle.std.proofs.lemmas.Fmt.{IsAscii-from_digits}
use Rattle.std.proofs.lemmas.Str.{IsUtf8-from_ascii}
use Rattle.std.proofs.lemmas.Str.Parse.{IsNumeralModel, numerals_by_value, parse_digits}
use Rattle.one_path.specs.Form.{number_of}

are_numerals : IsNumeralModel (λ text. list_all is_ascii_digit text ≡ true) (digits_value 10)
are_numerals = numerals_by_value _ (search rules)

-- digits are always a text
pub digits_are_text : (text : List ℕ) → list_all is_ascii_digit text ≡ true → IsUtf8 text
digits_are_text text e = IsUtf8-from_ascii text (IsAscii-from_digits text (are_numerals.to text e))

too_great : (digits : Bool) (n : ℕ) → 2 ^ 32 ≤ n → (if digits && nat_le n 2147483647 then Some n else None) ≡ None
too_great true n le = let less : nat_le n 2147483647 ≡ false = grind (arith, nat_tests) in rw less refl
too_great false n le = refl

pub not_parsed : {E : Type 0} (x : E) (text : List ℕ) → list_all is_ascii_digit text ≡ true → ParsesUnsigned {E = E} 32 10 text (Err x) → number_of text ≡ None
not_parsed x [] e h = refl
not_parsed x (b ∷ text) e h =
    let failed = parse_digits are_numerals 32 (b ∷ text) (Err x) h e in
    too_great (list_all is_ascii_digit (b ∷ text)) (digits_value 10 (b ∷ text)) (grind (arith, failed))
