-- The numbers of forms where all are small, as the code finds them.
use Rattle.std.specs.Prelude.{ℕ, ◌+◌, ◌*◌, ℤ, pos, negsuc, ◌+ℤ◌, ◌-ℤ◌, ◌*ℤ◌, unsigned_abs, nat_le, is_some, List, [], ◌∷◌, map, drop, Bool, true, false, ◌&&◌, ◌||◌, if◌then◌else◌, Option, Some, None}
use Rattle.std.specs.List.{list_all}
use Rattle.std.specs.Option.{option_map, option_and_then}
use Rattle.arrayvec.specs.ArrayVec.{ArrayVec}
use Rattle.term_core.specs.declared.term.Term.{Term}
use Rattle.linear_facts.specs.declared.lanes.Lane.{Lane}
use Rattle.linear_facts.specs.declared.limits.TheConstants.{MOST_NUMBER}
use Rattle.linear_facts.specs.Facts.{Fact, left_of, right_of, extra_of}
use Rattle.term_core.specs.Options.{all_some}
use Rattle.linear_facts.specs.Forms.{Shape, literal, sum, difference, opposite, multiple, whole, over_shapes, Part, atom, constant, number}
use Rattle.linear_facts.specs.Views.{part_behind}
use Rattle.linear_facts.specs.Lanes.{same_part, seen}

-- ---- exact numbers

-- a number that isn't above 10 ^ 18 in size
abbrev pub small : ℤ → Option ℤ
small n = if nat_le (unsigned_abs n) MOST_NUMBER then Some n else None

abbrev pub small_of : (ℤ → ℤ → ℤ) → Option ℤ → Option ℤ → Option ℤ
small_of f a b = option_and_then (λ x. option_and_then (λ y. small (f x y)) b) a

abbrev pub number_by : Part → Term → Shape (Option ℤ) → Option ℤ
number_by p t (literal n) = option_map (λ n. number n p) (small n)
number_by p t (sum a b) = small_of ◌+ℤ◌ a b
number_by p t (difference a b) = small_of ◌-ℤ◌ a b
number_by p t (opposite a) = small_of ◌-ℤ◌ (Some (pos 0)) a
number_by p t (multiple n a) = small_of ◌*ℤ◌ (small n) a
number_by p t whole = Some (if same_part (atom t) p then pos 1 else pos 0)

-- the number of a part in a term's form; none where a literal, or a number of the part, is too large in a term taken apart
abbrev pub number_at : Part → Term → Option ℤ
number_at p = over_shapes (number_by p)

abbrev pub fact_number_at : Part → Fact → Option ℤ
fact_number_at p fact = small_of (λ x y. x -ℤ y +ℤ number (extra_of fact) p) (number_at p (left_of fact)) (number_at p (right_of fact))

-- ---- exact numbers of many lanes at once, told by their marks

abbrev pub plus_or_minus : Bool → ℤ → ℤ → ℤ
plus_or_minus minus x y = if minus then x -ℤ y else x +ℤ y

abbrev pub items_of : Option (ArrayVec ℤ) → Option (List ℤ)
items_of o = option_map (λ v. v.items) o

-- each number of one list with that of another one, as long as that has one
abbrev pub small_first : (ℤ → ℤ → ℤ) → ℤ → List ℤ → Option ℤ
small_first f x [] = None
small_first f x (y ∷ ys) = small (f x y)

abbrev pub small_pairs : (ℤ → ℤ → ℤ) → List ℤ → List ℤ → Option (List ℤ)
small_pairs f [] ys = Some []
small_pairs f (x ∷ xs) ys = option_and_then (λ z. option_map (λ zs. z ∷ zs) (small_pairs f xs (drop 1 ys))) (small_first f x ys)

abbrev pub small_lists : (ℤ → ℤ → ℤ) → Option (List ℤ) → Option (List ℤ) → Option (List ℤ)
small_lists f a b = option_and_then (λ xs. option_and_then (λ ys. small_pairs f xs ys) b) a

-- a number's part of each lane
abbrev pub part_numbers : List Lane → Part → Option ℤ → Option (List ℤ)
part_numbers lanes part number = option_map (λ n. map (λ lane. seen lane part n) lanes) number

abbrev pub scaled_list : ℤ → List ℤ → Option (List ℤ)
scaled_list n xs = all_some (map (λ x. small (n *ℤ x)) xs)

abbrev pub scaled_numbers : Option ℤ → Option (List ℤ) → Option (List ℤ)
scaled_numbers n a = option_and_then (λ k. option_and_then (λ xs. scaled_list k xs) a) n

abbrev pub lane_numbers_by : List Lane → Term → Shape (Option (List ℤ)) → Option (List ℤ)
lane_numbers_by lanes t (literal n) = part_numbers lanes constant (small n)
lane_numbers_by lanes t (sum a b) = small_lists (plus_or_minus false) a b
lane_numbers_by lanes t (difference a b) = small_lists (plus_or_minus true) a b
lane_numbers_by lanes t (opposite a) = scaled_numbers (Some (negsuc 0)) a
lane_numbers_by lanes t (multiple n a) = scaled_numbers (small n) a
lane_numbers_by lanes t whole = part_numbers lanes (atom t) (Some (pos 1))

abbrev pub lane_numbers : List Lane → Term → Option (List ℤ)
lane_numbers lanes = over_shapes (lane_numbers_by lanes)

-- whether all differences, with what is besides, are small
abbrev pub first_difference : ℤ → List ℤ → List ℤ → Bool
first_difference x (y ∷ ys) (e ∷ es) = is_some (small (x -ℤ y +ℤ e))
first_difference x _ _ = false

abbrev pub small_differences : List ℤ → List ℤ → List ℤ → Bool
small_differences [] ys es = true
small_differences (x ∷ xs) ys es = first_difference x ys es && small_differences xs (drop 1 ys) (drop 1 es)

abbrev pub differences_fit : Option (List ℤ) → Option (List ℤ) → Option (List ℤ) → Bool
differences_fit (Some xs) (Some ys) (Some es) = small_differences xs ys es
differences_fit _ _ _ = false

abbrev pub each_fits : List Lane → Fact → Bool
each_fits [] fact = true
each_fits lanes fact = differences_fit (lane_numbers lanes (left_of fact)) (lane_numbers lanes (right_of fact)) (part_numbers lanes constant (Some (extra_of fact)))

-- ---- sizes: numbers added up without their signs, over all parts

abbrev pub small_size : ℕ → Option ℕ
small_size m = if nat_le m MOST_NUMBER then Some m else None

abbrev pub size_of_two : (ℕ → ℕ → ℕ) → Option ℕ → Option ℕ → Option ℕ
size_of_two f a b = option_and_then (λ x. option_and_then (λ y. small_size (f x y)) b) a

abbrev pub size_by : Term → Shape (Option ℕ) → Option ℕ
size_by t (literal n) = small_size (unsigned_abs n)
size_by t (sum a b) = size_of_two ◌+◌ a b
size_by t (difference a b) = size_of_two ◌+◌ a b
size_by t (opposite a) = a
size_by t (multiple n a) = size_of_two ◌*◌ (small_size (unsigned_abs n)) a
size_by t whole = Some 1

abbrev pub size_at : Term → Option ℕ
size_at = over_shapes size_by

abbrev pub fact_size : Fact → Option ℕ
fact_size fact = size_of_two (λ x y. x + y + 1) (size_at (left_of fact)) (size_at (right_of fact))

-- no number of the part is too large in the fact; where the size is small none of any part is
abbrev pub fits_at : Part → Fact → Bool
fits_at p fact = is_some (fact_size fact) || is_some (fact_number_at p fact)

abbrev pub fits_each : List Lane → Fact → Bool
fits_each lanes fact = is_some (fact_size fact) || each_fits lanes fact

abbrev pub fits_parts : List Lane → Fact → Bool
fits_parts lanes fact = is_some (fact_size fact) || list_all (λ lane. is_some (fact_number_at (part_behind lane.part) fact)) lanes
