-- What the operators of terms mean: a total function each.
use Rattle.std.specs.Prelude.{ℕ, zero, suc, ℤ, pos, negsuc, ◌+ℤ◌, ◌-ℤ◌, ◌*ℤ◌, neg_ℤ, unsigned_abs, int_div, int_rem, int_lt, int_le, List, [], ◌∷◌, ◌-◌, length, slice_get, Bool, true, false, not, ◌&&◌, ◌||◌, nat_lt, unwrap_or, if◌then◌else◌, Option, Some, None}
use Rattle.std.specs.Option.{option_map_or, option_and_then}
use mathlib.Core.Bool.{beq}
use Rattle.term_core.specs.declared.sort.Sort.{Sort}
use Rattle.term_core.specs.declared.sort.Sort.TheOpen.{Sort-F}
use Rattle.term_core.specs.declared.sort.Sort.TheViews.{out-Sort}
use Rattle.term_core.specs.declared.term.Oper.{Oper}
use Rattle.term_core.specs.declared.term.Oper.TheVariants as oper
use Rattle.term_core.specs.declared.names.SortEntry.{SortEntry}
use Rattle.term_core.specs.Values.{Value, Values, a_number, a_truth, a_list, a_record, no_value, more, values, as_number, as_truth, same_value, default_like, how_many, copies}

-- ---- division: 0 where the divisor is 0

abbrev pub is_zero : ℤ → Bool
is_zero (pos zero) = true
is_zero _ = false

abbrev pub is_negative : ℤ → Bool
is_negative z = int_lt z (pos 0)

-- truncated toward zero
abbrev pub quotient : ℤ → ℤ → ℤ
quotient a b = if is_zero b then pos 0 else int_div a b

-- with the sign of the first operand
abbrev pub remainder : ℤ → ℤ → ℤ
remainder a b = if is_zero b then pos 0 else int_rem a b

-- with the sign of the second operand
abbrev pub modulus : ℤ → ℤ → ℤ
modulus a b = if is_zero b then pos 0 else signed_as (int_rem a b)
  where
    signed_as : ℤ → ℤ
    signed_as r = if is_zero r || beq (is_negative r) (is_negative b) then r else r +ℤ b

-- ---- lists and records

abbrev pub nth : ℕ → Values → Option Value
nth n no_value = None
nth zero (more v vs) = Some v
nth (suc n) (more v vs) = nth n vs

abbrev pub set_nth : ℕ → Value → Values → Values
set_nth n w no_value = no_value
set_nth zero w (more v vs) = more w vs
set_nth (suc n) w (more v vs) = more v (set_nth n w vs)

-- the place of an index in a list from `low` on, if it isn't before the first
abbrev pub place_in : ℤ → ℤ → Option ℕ
place_in low i = by_sign (i -ℤ low)
  where
    by_sign : ℤ → Option ℕ
    by_sign (pos n) = Some n
    by_sign (negsuc n) = None

abbrev pub first_default : (ℕ → Value) → Values → Value
first_default made no_value = a_number (pos 0)
first_default made (more v vs) = default_like made v

-- outside the list the default of an element
abbrev pub selected : (ℕ → Value) → Value → ℤ → Value
selected made (a_list low vs) i = unwrap_or (option_and_then (λ n. nth n vs) (place_in low i)) (first_default made vs)
selected made _ i = a_number (pos 0)

-- outside the list nothing changes
abbrev pub stored : Value → ℤ → Value → Value
stored (a_list low vs) i w = option_map_or (λ n. a_list low (set_nth n w vs)) (place_in low i) (a_list low vs)
stored v i w = a_number (pos 0)

abbrev pub component : ℕ → Value → Value
component n (a_record vs) = unwrap_or (nth n vs) (a_number (pos 0))
component n _ = a_number (pos 0)

abbrev pub with_component : ℕ → Value → Value → Value
with_component n (a_record vs) w = a_record (set_nth n w vs)
with_component n v w = a_number (pos 0)

-- ---- what the numbers in operators stand for

pub record Tables : Type 0 where
  -- the place in its record of the component of this number
  pub place : ℕ → ℕ
  -- the bounds of the array type of this entry
  pub bounds : ℕ → ℤ × ℤ
  -- the default of the sort that the generator of this number makes
  pub made : ℕ → Value

-- components are counted over all entries
abbrev pub place_of : List SortEntry → ℕ → ℕ
place_of [] number = number
place_of (entry ∷ entries) number = if nat_lt number (length entry.parts) then number else place_of entries (number - length entry.parts)

abbrev pub array_bounds : Sort-F Sort → ℤ × ℤ
array_bounds (Sort-F.Array low high element) = (low, high)
array_bounds _ = (pos 0, negsuc 0)

abbrev pub bounds_of : List SortEntry → ℕ → ℤ × ℤ
bounds_of entries number = option_map_or (λ entry. array_bounds (out-Sort entry.sort)) (slice_get entries number) (pos 0, negsuc 0)

-- ---- the table

-- where a value hasn't the shape that the operator needs, or the number of operands is another, it is the number 0
abbrev pub outcome : Tables → Oper → List Value → Value
outcome m oper.Add (a ∷ b ∷ []) = a_number (as_number a +ℤ as_number b)
outcome m oper.Sub (a ∷ b ∷ []) = a_number (as_number a -ℤ as_number b)
outcome m oper.Mul (a ∷ b ∷ []) = a_number (as_number a *ℤ as_number b)
outcome m oper.Div (a ∷ b ∷ []) = a_number (quotient (as_number a) (as_number b))
outcome m oper.Rem (a ∷ b ∷ []) = a_number (remainder (as_number a) (as_number b))
outcome m oper.Mod (a ∷ b ∷ []) = a_number (modulus (as_number a) (as_number b))
outcome m oper.Neg (a ∷ []) = a_number (neg_ℤ (as_number a))
outcome m oper.Abs (a ∷ []) = a_number (pos (unsigned_abs (as_number a)))
outcome m oper.Eq (a ∷ b ∷ []) = a_truth (same_value a b)
outcome m oper.Lt (a ∷ b ∷ []) = a_truth (int_lt (as_number a) (as_number b))
outcome m oper.Le (a ∷ b ∷ []) = a_truth (int_le (as_number a) (as_number b))
outcome m oper.Gt (a ∷ b ∷ []) = a_truth (int_lt (as_number b) (as_number a))
outcome m oper.Ge (a ∷ b ∷ []) = a_truth (int_le (as_number b) (as_number a))
outcome m oper.And (a ∷ b ∷ []) = a_truth (as_truth a && as_truth b)
outcome m oper.Or (a ∷ b ∷ []) = a_truth (as_truth a || as_truth b)
outcome m oper.Xor (a ∷ b ∷ []) = a_truth (not (beq (as_truth a) (as_truth b)))
outcome m oper.Not (a ∷ []) = a_truth (not (as_truth a))
outcome m oper.Implies (a ∷ b ∷ []) = a_truth (not (as_truth a) || as_truth b)
outcome m oper.Iff (a ∷ b ∷ []) = a_truth (beq (as_truth a) (as_truth b))
outcome m oper.Select (a ∷ i ∷ []) = selected m.made a (as_number i)
outcome m oper.Store (a ∷ i ∷ e ∷ []) = stored a (as_number i) e
outcome m (oper.Field k) (a ∷ []) = component (m.place k) a
outcome m (oper.Update k) (a ∷ e ∷ []) = with_component (m.place k) a e
outcome m (oper.Fill k) (e ∷ []) = a_list (m.bounds k).0 (copies (how_many (m.bounds k).0 (m.bounds k).1) e)
outcome m (oper.Make k) vs = a_record (values vs)
outcome m _ _ = a_number (pos 0)
