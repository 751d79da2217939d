-- Values, defaults and states.
use Rattle.std.specs.Prelude.{ℕ, zero, suc, ℤ, pos, negsuc, ◌-ℤ◌, List, [], ◌∷◌, map, length, find, Bool, true, false, ◌&&◌, ◌==◌, bytes_eq, if◌then◌else◌}
use Rattle.std.specs.Option.{option_map_or}
use Rattle.std.specs.Ordering.{int_eq}
use mathlib.Core.Bool.{beq}
use Rattle.term_core.specs.declared.sort.Sort.{Sort}
use Rattle.term_core.specs.declared.sort.Sort.TheOpen.{Sort-F}
use Rattle.term_core.specs.declared.sort.Sort.TheFolds.{fold-Sort}

mutual
  pub data Value : Type 0 where
    a_number : ℤ → Value
    a_truth : Bool → Value
    -- the elements from this index on
    a_list : ℤ → Values → Value
    -- the components
    a_record : Values → Value
    -- a generator's number, with its arguments
    a_made : ℕ → Values → Value

  pub data Values : Type 0 where
    no_value : Values
    more : Value → Values → Values

abbrev pub values : List Value → Values
values [] = no_value
values (v ∷ vs) = more v (values vs)

abbrev pub items : Values → List Value
items no_value = []
items (more v vs) = v ∷ items vs

abbrev pub as_number : Value → ℤ
as_number (a_number z) = z
as_number _ = pos 0

abbrev pub as_truth : Value → Bool
as_truth (a_truth b) = b
as_truth _ = false

abbrev mutual
  pub same_value : Value → Value → Bool
  same_value (a_number a) (a_number b) = int_eq a b
  same_value (a_truth a) (a_truth b) = beq a b
  same_value (a_list l a) (a_list m b) = int_eq l m && same_values a b
  same_value (a_record a) (a_record b) = same_values a b
  same_value (a_made g a) (a_made h b) = g == h && same_values a b
  same_value _ _ = false

  pub same_values : Values → Values → Bool
  same_values no_value no_value = true
  same_values (more v vs) (more w ws) = same_value v w && same_values vs ws
  same_values _ _ = false

-- ---- ranges

abbrev pub count_from : ℤ → ℕ
count_from (pos n) = suc n
count_from (negsuc n) = 0

-- the number of whole numbers from low to high
abbrev pub how_many : ℤ → ℤ → ℕ
how_many low high = count_from (high -ℤ low)

abbrev pub copies : ℕ → Value → Values
copies zero v = no_value
copies (suc n) v = more v (copies n v)

-- ---- defaults

-- a generator: the number of its operator, that of the sort that it makes, and the sorts of its arguments
pub record Generator : Type 0 where
  pub operator : ℕ
  pub sort : ℕ
  pub parts : List Sort

abbrev pub default_step : (ℕ → Value) → Sort-F Value → Value
default_step made Sort-F.Whole = a_number (pos 0)
default_step made (Sort-F.Range low high) = a_number (pos 0)
default_step made Sort-F.Truth = a_truth false
default_step made (Sort-F.Array low high element) = a_list low (copies (how_many low high) element)
default_step made (Sort-F.Record number parts) = a_record (values parts)
default_step made (Sort-F.Free number) = made number

abbrev pub over_defaults : (ℕ → Value) → Generator → Value
over_defaults made g = a_made g.operator (values (map (fold-Sort Value (default_step made)) g.parts))

-- a generated sort's default, with at most n of them within each other: its first generator over defaults
abbrev pub made_within : ℕ → List Generator → ℕ → Value
made_within zero gs number = a_number (pos 0)
made_within (suc n) gs number = option_map_or (over_defaults (made_within n gs)) (find (λ g. g.sort == number) gs) (a_number (pos 0))

-- since a sort's first generator has arguments of earlier sorts alone, as many as there are generators are enough
abbrev pub default_of : List Generator → Sort → Value
default_of gs = fold-Sort Value (default_step (made_within (length gs) gs))

-- the default of the sort that this generator makes
abbrev pub default_made : List Generator → ℕ → Value
default_made gs operator = option_map_or (λ g. made_within (length gs) gs g.sort) (find (λ g. g.operator == operator) gs) (a_number (pos 0))

-- the default of another value's sort, as its shape shows it
abbrev mutual
  pub default_like : (ℕ → Value) → Value → Value
  default_like made (a_number z) = a_number (pos 0)
  default_like made (a_truth b) = a_truth false
  default_like made (a_list low vs) = a_list low (defaults_like made vs)
  default_like made (a_record vs) = a_record (defaults_like made vs)
  default_like made (a_made g vs) = made g

  pub defaults_like : (ℕ → Value) → Values → Values
  defaults_like made no_value = no_value
  defaults_like made (more v vs) = more (default_like made v) (defaults_like made vs)

-- ---- states

-- a value for each name
abbrev pub Env : Type 0
Env = List ℕ → Value

abbrev pub set : Env → List ℕ → Value → Env
set env x v = λ y. if bytes_eq y x then v else env y

-- the values of these names in order, and the number 0 for every other one
abbrev pub bind_all : List (List ℕ) → List Value → Env
bind_all (x ∷ xs) (v ∷ vs) = set (bind_all xs vs) x v
bind_all _ _ = λ y. a_number (pos 0)
