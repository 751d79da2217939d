-- What the members of a line give, by what a JSON text is for `serde_json`.
use Rattle.std.specs.Prelude.{ℕ, ◌^◌, List, [], ◌∷◌, length, nat_lt, nat_le, if◌then◌else◌, Option, Some, None, option_map, option_and_then}
use Rattle.serde_json.specs.Data.{Data, Items, no_items, item}
use Rattle.json.specs.Json as json
use Rattle.serde_json.specs.Read.{of_json}
use Rattle.serde_json.specs.Find.{get, as_number, as_u64, as_str, as_array}
use Rattle.edit_script.specs.declared.values.TheConstants.{MOST_STEPS}

-- the members of an array, as a list
abbrev pub listed : Items → List Data
listed no_items = []
listed (item d ds) = d ∷ listed ds

-- what f gives for each, where it gives something for all
abbrev pub each_of : {A B : Type 0} → (A → Option B) → List A → Option (List B)
each_of f [] = Some []
each_of f (x ∷ xs) = option_and_then (λ y. option_map (λ ys. y ∷ ys) (each_of f xs)) (f x)

abbrev pub fitting : ℕ → Option ℕ
fitting n = if nat_lt n (2 ^ 32) then Some n else None

-- N: a number from 0 to 4294967295. `as_u64` has a number exactly where it is written in digits alone.
abbrev pub whole_number : Data → Option ℕ
whole_number d = option_and_then fitting (option_and_then as_u64 (as_number d))

unfoldable pub steps_of : List Data → Option (List ℕ)
steps_of ds = if nat_le (length ds) MOST_STEPS then each_of whole_number ds else None

-- P: a list of at most 256 such numbers
abbrev pub path_of : Data → Option (List ℕ)
path_of d = option_and_then steps_of (option_map listed (as_array d))

-- ---- the member of a name

abbrev pub path_at : List ℕ → Data → Option (List ℕ)
path_at name d = option_and_then path_of (get name d)

-- S: a string
abbrev pub text_at : List ℕ → Data → Option (List ℕ)
text_at name d = option_and_then as_str (get name d)

abbrev pub number_at : List ℕ → Data → Option ℕ
number_at name d = option_and_then whole_number (get name d)

abbrev pub list_at : List ℕ → Data → Option (List Data)
list_at name d = option_and_then (λ found. option_map listed (as_array found)) (get name d)

-- what a number of a JSON text gives as N
abbrev pub number_in : List ℕ → Option ℕ
number_in text = option_and_then whole_number (of_json (json.number text))
