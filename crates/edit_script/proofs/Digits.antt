-- A number of a JSON text is a whole number exactly where it is written in digits alone.
use Rattle.std.proofs.Common.{◌≡◌, ◌↔◌, take_all, ℕ, ◌+◌, ◌-◌, ◌^◌, ◌<◌, ◌≤◌, List, [], ◌∷◌, ◌++◌, length, get_or, take, drop, Bool, true, false, not, ◌&&◌, ◌||◌, ◌==◌, if◌then◌else◌, cond, Option, Some, None, option_map, option_and_then, ℤ, Float, nat_lt, nat_le, decimal, refl, sym, ap, ◌∙◌, subst, zero-add, add-zero, arith}
use Rattle.std.proofs.lemmas.Bool.{not-true, eqb-true, eqb-false, ltb-true, and_parts, and_from, lt-ltb, leb-true, ne_eqb}
use Rattle.std.proofs.lemmas.Fmt.{decimal-digits_value}
use Rattle.std.proofs.lemmas.List.{append-nil, get_or-drop, drop-drop, length-take, length-drop}
use Rattle.std.proofs.lemmas.List.Sums.{prefix_len-le-length}
use Rattle.std.proofs.lemmas.Str.Parse.{IsNumeralModel, numerals_by_value, tells_all_ascii_digits}
use Rattle.std.specs.Char.{is_ascii_digit}
use Rattle.std.specs.Float.Numeral.{Parts, scan_numeral, exponent_start, has_exponent, digits_end}
use Rattle.std.specs.List.{prefix_len, slice_range}
use Rattle.std.specs.Str.{all_ascii_digits}
use Rattle.std.specs.Str.Parse.{digits_value}
use Rattle.json.specs.Print.{IsNumber}
use Rattle.json.specs.Word.{after_number, after_digits, after_fraction, after_exponent, after_sign, head}
use Rattle.serde_json.specs.Data.{Num, number, unsigned, negative, float}
use Rattle.serde_json.specs.Read.{number_of, number_from, is_integer}
use Rattle.serde_json.proofs.Numbers.{number_of-decimal}
use Rattle.edit_script.specs.Values.{fitting, whole_number, number_in}

-- ---- what follows the whole part

-- a fraction and an exponent, and nothing more
abbrev tail : List ℕ → Option (List ℕ)
tail r = option_and_then after_exponent (after_fraction r)

-- how many digits stand at the front
abbrev digits : List ℕ → ℕ
digits s = prefix_len is_ascii_digit s

digits_there : (t : List ℕ) → after_digits t ≡ Some [] → 0 < digits t
digits_there t e = by (digits t == 0) refl e
  where
    by : (b : Bool) → (digits t == 0) ≡ b → cond b None (Some (drop (digits t) t)) ≡ Some [] → 0 < digits t
    by true is e = cc
    by false is e = omega (arith, eqb-false _ _ is)

-- what is left begins with an `e`, and digits follow it
exponent_there : (x : ℕ) (r : List ℕ) → (x == 46) ≡ false → tail (x ∷ r) ≡ Some [] → (((x == 101) || (x == 69)) ≡ true) × (0 < digits (after_sign r))
exponent_there x r no_dot e = by ((x == 101) || (x == 69)) refl (rw no_dot at e)
  where
    by : (b : Bool) → ((x == 101) || (x == 69)) ≡ b → cond b (after_digits (after_sign r)) (Some (x ∷ r)) ≡ Some [] → (((x == 101) || (x == 69)) ≡ true) × (0 < digits (after_sign r))
    by true is e = (is, digits_there (after_sign r) e)
    by false is e = cc

first_digit : (t : List ℕ) → 0 < digits t → is_ascii_digit (get_or t 0 0) ≡ true
first_digit [] some = absurd (omega arith)
first_digit (y ∷ t) some = by (is_ascii_digit y) refl some
  where
    by : (b : Bool) → is_ascii_digit y ≡ b → 0 < cond b (1 + digits t) 0 → is_ascii_digit y ≡ true
    by true is some = is
    by false is some = absurd (omega arith)

same_sign : (r : List ℕ) → ((head r == 45) || (head r == 43)) ≡ ((get_or r 0 0 == 45) || (get_or r 0 0 == 43))
same_sign [] = refl
same_sign (y ∷ r) = refl

-- where the digits of an exponent begin, its sign has been passed
exponent_from : (s : List ℕ) (a : ℕ) (r : List ℕ) → drop (a + 1) s ≡ r → drop (exponent_start s a) s ≡ after_sign r
exponent_from s a r next = by ((get_or s (a + 1) 0 == 45) || (get_or s (a + 1) 0 == 43)) refl
  where
    sign : ((head r == 45) || (head r == 43)) ≡ ((get_or s (a + 1) 0 == 45) || (get_or s (a + 1) 0 == 43))
    sign = same_sign r ∙ ap (λ c. (c == 45) || (c == 43)) (ap (λ t. get_or t 0 0) (sym next) ∙ get_or-drop (a + 1) s 0 0 ∙ ap (λ i. get_or s i 0) (add-zero (a + 1)))

    by : (b : Bool) → ((get_or s (a + 1) 0 == 45) || (get_or s (a + 1) 0 == 43)) ≡ b → drop (exponent_start s a) s ≡ after_sign r
    by true is = rw (is, sign ∙ is) (ap (λ i. drop i s) (omega arith) ∙ sym (drop-drop 1 (a + 1) s) ∙ ap (drop 1) next)
    by false is = rw (is, sign ∙ is) next

-- an `e` with digits behind it is an exponent of the numeral that is scanned
exponent_seen : (s : List ℕ) (a x : ℕ) (r : List ℕ) → drop a s ≡ x ∷ r → ((x == 101) || (x == 69)) ≡ true → 0 < digits (after_sign r)
    → (has_exponent s a ≡ true) × (0 < length (slice_range s (exponent_start s a) (digits_end s (exponent_start s a))))
exponent_seen s a x r here e some = (both, long)
  where
    next : drop (a + 1) s ≡ r
    next = sym (drop-drop 1 a s) ∙ ap (drop 1) here

    behind : drop (exponent_start s a) s ≡ after_sign r
    behind = exponent_from s a r next

    letter : get_or s a 0 ≡ x
    letter = ap (λ i. get_or s i 0) (sym (add-zero a)) ∙ sym (get_or-drop a s 0 0) ∙ ap (λ t. get_or t 0 0) here

    digit : is_ascii_digit (get_or s (exponent_start s a) 0) ≡ true
    digit = ap is_ascii_digit (ap (λ i. get_or s i 0) (sym (add-zero (exponent_start s a))) ∙ sym (get_or-drop (exponent_start s a) s 0 0) ∙ ap (λ t. get_or t 0 0) behind) ∙ first_digit (after_sign r) some

    both : has_exponent s a ≡ true
    both = and_from _ _ (ap (λ c. (c == 101) || (c == 69)) letter ∙ e) digit

    count : digits (drop (exponent_start s a) s) ≡ digits (after_sign r)
    count = ap digits behind

    long : 0 < length (slice_range s (exponent_start s a) (digits_end s (exponent_start s a)))
    long = omega (arith, length-take (exponent_start s a + digits (drop (exponent_start s a) s) - exponent_start s a) (drop (exponent_start s a) s), prefix_len-le-length is_ascii_digit (drop (exponent_start s a) s), count)

-- ---- the whole part

is_letter_not_digit : (x : ℕ) → is_ascii_digit x ≡ true → ((x == 46) ≡ false) × (((x == 101) || (x == 69)) ≡ false)
is_letter_not_digit x digit =
    let low : 48 ≤ x = leb-true 48 x (and_parts (nat_le 48 x) (nat_le x 57) digit).0 in
    let high : x ≤ 57 = leb-true x 57 (and_parts (nat_le 48 x) (nat_le x 57) digit).1 in
    (ne_eqb x 46 (λ e. absurd (omega arith)), rw (ne_eqb x 101 (λ e. absurd (omega arith)), ne_eqb x 69 (λ e. absurd (omega arith))) refl)

-- after a zero no digit follows
zero_alone : (t : List ℕ) → tail t ≡ Some [] → digits t ≡ 0
zero_alone [] e = refl
zero_alone (x ∷ t) e = by (is_ascii_digit x) refl
  where
    by : (b : Bool) → is_ascii_digit x ≡ b → cond b (1 + digits t) 0 ≡ 0
    by false is = refl
    by true is =
        let more : Some (x ∷ t) ≡ Some [] = rw ((is_letter_not_digit x is).0, (is_letter_not_digit x is).1) at e in
        cc

-- what follows the digits at the front of a number, and that a zero at the front is the one digit
left_part : (y : ℕ) (t : List ℕ) → (y == 45) ≡ false → IsNumber (y ∷ t) → (tail (drop (digits (y ∷ t)) (y ∷ t)) ≡ Some []) × (y ≡ 48 → digits (y ∷ t) ≡ 1)
unfolding after_number
left_part y t no_minus is_number = by (y == 48) refl (rw no_minus at is_number)
  where
    by : (b : Bool) → (y == 48) ≡ b → option_and_then after_exponent (option_and_then after_fraction (cond b (Some t) (after_digits (y ∷ t)))) ≡ Some []
        → (tail (drop (digits (y ∷ t)) (y ∷ t)) ≡ Some []) × (y ≡ 48 → digits (y ∷ t) ≡ 1)
    by true is e =
        let y_is : y ≡ 48 = eqb-true y 48 is in
        let one : digits (y ∷ t) ≡ 1 = rw (y_is, zero_alone t e) in
        (rw one e, λ _. one)
    by false is e = (some_part (digits (y ∷ t) == 0) e, λ y_is. absurd (eqb-false y 48 is y_is))
      where
        some_part : (b : Bool) → option_and_then after_exponent (option_and_then after_fraction (cond b None (Some (drop (digits (y ∷ t)) (y ∷ t))))) ≡ Some [] → tail (drop (digits (y ∷ t)) (y ∷ t)) ≡ Some []
        some_part true e = cc
        some_part false e = e

one_more : (y : ℕ) (t : List ℕ) (b : Bool) → is_ascii_digit y ≡ b → length (y ∷ t) ≤ cond b (1 + digits t) 0 → (length t ≤ digits t → all_ascii_digits t ≡ true) → (is_ascii_digit y && all_ascii_digits t) ≡ true
one_more y t true is all rest = rw (is, rest (omega arith))
one_more y t false is all rest = absurd (omega arith)

all_digits : (s : List ℕ) → length s ≤ digits s → all_ascii_digits s ≡ true
all_digits [] all = refl
all_digits (y ∷ t) all = one_more y t (is_ascii_digit y) refl all (all_digits t)

-- neither a point nor an exponent was scanned behind the digits
record IsBare (s : List ℕ) : Type 0 where
  no_point : (get_or s (digits s) 0 == 46) ≡ false
  no_exponent : (length (if has_exponent s (digits s) then slice_range s (exponent_start s (digits s)) (digits_end s (exponent_start s (digits s))) else []) == 0) ≡ true

nothing_left : (s r : List ℕ) → drop (digits s) s ≡ r → IsBare s → tail r ≡ Some [] → r ≡ []
nothing_left s [] here bare e = refl
nothing_left s (x ∷ r) here bare e = absurd (omega (arith, seen.1, empty))
  where
    letter : get_or s (digits s) 0 ≡ x
    letter = ap (λ i. get_or s i 0) (sym (add-zero (digits s))) ∙ sym (get_or-drop (digits s) s 0 0) ∙ ap (λ t. get_or t 0 0) here

    there : (((x == 101) || (x == 69)) ≡ true) × (0 < digits (after_sign r))
    there = exponent_there x r (ap (λ c. c == 46) (sym letter) ∙ bare.no_point) e

    seen : (has_exponent s (digits s) ≡ true) × (0 < length (slice_range s (exponent_start s (digits s)) (digits_end s (exponent_start s (digits s)))))
    seen = exponent_seen s (digits s) x r here there.0 there.1

    empty : length (slice_range s (exponent_start s (digits s)) (digits_end s (exponent_start s (digits s)))) ≡ 0
    empty = eqb-true _ 0 (rw seen.0 at bare.no_exponent)

-- ---- what is scanned

scanned_whole : (s : List ℕ) → (scan_numeral s).whole ≡ take (digits s) s
unfolding scan_numeral
scanned_whole s = let whole : digits s - 0 ≡ digits s = omega arith in rw (zero-add (digits s)) (ap (λ n. take n s) whole)

scanned_bare : (s : List ℕ) → (scan_numeral s).point ≡ false → ((length (scan_numeral s).exponent) == 0) ≡ true → IsBare s
unfolding scan_numeral
scanned_bare s point exponent = record { no_point = rw (zero-add (digits s)) at point; no_exponent = rw (point, zero-add (digits s)) at exponent }

scanned_fraction : (s : List ℕ) → (scan_numeral s).point ≡ false → (scan_numeral s).fraction ≡ []
unfolding scan_numeral
scanned_fraction s point = rw point

-- ---- numbers

-- what is unsigned was not below zero, and no float
unsigned_from : (integer finite : Bool) (d : ℕ) (x : Float) (n : ℕ) → (if integer then Some (unsigned d) else (if finite then Some (float x) else None)) ≡ Some (unsigned n) → (integer ≡ true) × (d ≡ n)
unsigned_from true finite d x n e = (refl, cc)
unsigned_from false true d x n e = absurd (cc)
unsigned_from false false d x n e = absurd (cc)

negative_is_not : (integer finite : Bool) (z : ℤ) (x : Float) (n : ℕ) → (if integer then Some (negative z) else (if finite then Some (float x) else None)) ≡ Some (unsigned n) → ⊥
negative_is_not true finite z x n e = cc
negative_is_not false true z x n e = cc
negative_is_not false false z x n e = cc

-- a number without a sign whose scanned parts are an integer of this value
record IsScanned (s : List ℕ) (n : ℕ) : Type 0 where
  no_minus : (get_or s 0 0 == 45) ≡ false
  integer : (is_integer (scan_numeral s) && nat_lt (digits_value 10 ((scan_numeral s).whole ++ (scan_numeral s).fraction)) (2 ^ 64)) ≡ true
  value : digits_value 10 ((scan_numeral s).whole ++ (scan_numeral s).fraction) ≡ n

scanned : (s : List ℕ) (n : ℕ) → number_of s ≡ Some (unsigned n) → IsScanned s n
unfolding number_of
scanned s n e = by (get_or s 0 0 == 45) refl e
  where
    by : (b : Bool) → (get_or s 0 0 == 45) ≡ b → (if b then number_from true (scan_numeral (drop 1 s)) else number_from false (scan_numeral s)) ≡ Some (unsigned n) → IsScanned s n
    by true is e = absurd (negative_is_not _ _ _ _ n e)
    by false is e = let told = unsigned_from _ _ _ _ n e in record { no_minus = is; integer = told.0; value = told.1 }

own : IsNumeralModel (λ ds. all_ascii_digits ds ≡ true) (digits_value 10)
own = numerals_by_value (λ ds. all_ascii_digits ds ≡ true) tells_all_ascii_digits

integer_parts : (p : Parts) → is_integer p ≡ true → (p.point ≡ false) × ((length p.exponent == 0) ≡ true)
integer_parts p e =
    let front : (nat_lt 0 (length p.whole) && not p.point) ≡ true = (and_parts (nat_lt 0 (length p.whole) && not p.point) (length p.exponent == 0) e).0 in
    (not-true p.point (and_parts (nat_lt 0 (length p.whole)) (not p.point) front).1, (and_parts (nat_lt 0 (length p.whole) && not p.point) (length p.exponent == 0) e).1)

in_digits_alone : (y : ℕ) (t : List ℕ) (n : ℕ) → IsNumber (y ∷ t) → IsScanned (y ∷ t) n → (y ∷ t) ≡ decimal n
in_digits_alone y t n is_number sc = sym (decimal-digits_value own (y ∷ t) digits_alone (omega arith) one small) ∙ ap decimal value
  where
    integer : is_integer (scan_numeral (y ∷ t)) ≡ true
    integer = (and_parts (is_integer (scan_numeral (y ∷ t))) (nat_lt (digits_value 10 ((scan_numeral (y ∷ t)).whole ++ (scan_numeral (y ∷ t)).fraction)) (2 ^ 64)) sc.integer).0

    point : (scan_numeral (y ∷ t)).point ≡ false
    point = (integer_parts (scan_numeral (y ∷ t)) integer).0

    left : (tail (drop (digits (y ∷ t)) (y ∷ t)) ≡ Some []) × (y ≡ 48 → digits (y ∷ t) ≡ 1)
    left = left_part y t sc.no_minus is_number

    over : drop (digits (y ∷ t)) (y ∷ t) ≡ []
    over = nothing_left (y ∷ t) (drop (digits (y ∷ t)) (y ∷ t)) refl (scanned_bare (y ∷ t) point (integer_parts (scan_numeral (y ∷ t)) integer).1) left.0

    whole : length (y ∷ t) ≤ digits (y ∷ t)
    whole = omega (arith, length-drop (digits (y ∷ t)) (y ∷ t), ap length over)

    digits_alone : all_ascii_digits (y ∷ t) ≡ true
    digits_alone = all_digits (y ∷ t) whole

    parts : (scan_numeral (y ∷ t)).whole ++ (scan_numeral (y ∷ t)).fraction ≡ y ∷ t
    parts = rw (scanned_whole (y ∷ t), scanned_fraction (y ∷ t) point, take_all (digits (y ∷ t)) (y ∷ t) whole) (append-nil (y ∷ t))

    value : digits_value 10 (y ∷ t) ≡ n
    value = ap (digits_value 10) (sym parts) ∙ sc.value

    small : digits_value 10 (y ∷ t) < 2 ^ 64
    small = subst (λ (ds : List ℕ). digits_value 10 ds < 2 ^ 64) parts (ltb-true (digits_value 10 ((scan_numeral (y ∷ t)).whole ++ (scan_numeral (y ∷ t)).fraction)) (2 ^ 64) (and_parts (is_integer (scan_numeral (y ∷ t))) (nat_lt (digits_value 10 ((scan_numeral (y ∷ t)).whole ++ (scan_numeral (y ∷ t)).fraction)) (2 ^ 64)) sc.integer).1)

    one : get_or (y ∷ t) 0 0 ≡ 48 → length (y ∷ t) ≡ 1
    one zero = omega (arith, whole, left.1 zero)

never_empty : (n : ℕ) → IsNumber [] → ⊥
unfolding after_number
never_empty n is_number = cc

alone : (s : List ℕ) (n : ℕ) → IsNumber s → number_of s ≡ Some (unsigned n) → s ≡ decimal n
alone [] n is_number e = absurd (never_empty n is_number)
alone (y ∷ t) n is_number e = in_digits_alone y t n is_number (scanned (y ∷ t) n e)

pub fits : (m n : ℕ) → fitting m ≡ Some n → (m ≡ n) × (n < 2 ^ 32)
fits m n e = by (nat_lt m (2 ^ 32)) refl e
  where
    by : (b : Bool) → nat_lt m (2 ^ 32) ≡ b → (if b then Some m else None) ≡ Some n → (m ≡ n) × (n < 2 ^ 32)
    by true is e = let same : m ≡ n = cc in (same, subst (λ (k : ℕ). k < 2 ^ 32) same (ltb-true m (2 ^ 32) is))
    by false is e = absurd (cc)

unsigned_of : (o : Option Num) (n : ℕ) → option_and_then whole_number (option_map number o) ≡ Some n → (o ≡ Some (unsigned n)) × (n < 2 ^ 32)
unsigned_of None n e = absurd (cc)
unsigned_of (Some (unsigned m)) n e = let f = fits m n e in (ap (λ k. Some (unsigned k)) f.0, f.1)
unsigned_of (Some (negative z)) n e = absurd (cc)
unsigned_of (Some (float x)) n e = absurd (cc)

-- a number of a text is N exactly where it is written as decimal digits are: in digits alone, with no zero before another
pub digits_alone : (s : List ℕ) (n : ℕ) → IsNumber s → (number_in s ≡ Some n) ↔ ((s ≡ decimal n) × (n < 2 ^ 32))
digits_alone s n is_number = (forth, back)
  where
    forth : number_in s ≡ Some n → (s ≡ decimal n) × (n < 2 ^ 32)
    forth e = let u = unsigned_of (number_of s) n e in (alone s n is_number u.0, u.1)

    back : (s ≡ decimal n) × (n < 2 ^ 32) → number_in s ≡ Some n
    back h = rw (h.0, number_of-decimal n (omega (arith, h.1)), lt-ltb n (2 ^ 32) h.1)
