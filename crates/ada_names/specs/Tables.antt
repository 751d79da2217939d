-- What the tables over a list of entries hold.
use Rattle.std.specs.Prelude.{◌≡◌, ℕ, ◌+◌, suc, List, [], ◌∷◌, ◌++◌, Bool, true, false, if◌then◌else◌, Option, Some, None, option_map, slice_get, filter_map, filter, find, count_by, Vec}
use Rattle.std.specs.Option.{option_and_then}
use Rattle.std.specs.Global.{Global}
use Rattle.std.specs.HashMap.{HashMap, get}
use Rattle.ada_names.specs.declared.entry.Entry.{Entry}
use Rattle.ada_names.specs.declared.table.Key.{Key}
use Rattle.ada_names.specs.Entries.{is_of, is_at, is_use_in, is_own}

abbrev pub Numbers : Type 0
Numbers = Vec ℕ Global

-- the index of the first that passes a test
abbrev pub first_index : (Entry → Bool) → List Entry → Option ℕ
first_index test [] = None
first_index test (e ∷ es) = if test e then Some 0 else option_map suc (first_index test es)

-- the indexes of all that pass
abbrev pub all_indexes : (Entry → Bool) → ℕ → List Entry → List ℕ
all_indexes test n [] = []
all_indexes test n (e ∷ es) = if test e then n ∷ all_indexes test (n + 1) es else all_indexes test (n + 1) es

-- the first table looks up by name, the others by place and by region
abbrev pub test_name : Key → Entry → Bool
test_name key e = is_of key.space key.region.items key.name.items e

-- what is noted for a key that has nothing yet
abbrev pub or_noted : Option ℕ → Bool → ℕ → Option ℕ
or_noted (Some old) same number = Some old
or_noted None true number = Some number
or_noted None false number = None

abbrev pub NotesFirst : {K S : Type 0} → (K → K → Bool) → HashMap K ℕ S → HashMap K ℕ S → K → ℕ → Type 0
NotesFirst eq old new key number = (q : _) → get eq new q ≡ or_noted (get eq old q) (eq key q) number

-- what a key has, and nothing where it isn't there
abbrev pub list_of : Option Numbers → List ℕ
list_of (Some numbers) = numbers.items
list_of None = []

abbrev pub with_number : Bool → List ℕ → ℕ → List ℕ
with_number true numbers number = numbers ++ number ∷ []
with_number false numbers number = numbers

abbrev pub NotesAll : {K S : Type 0} → (K → K → Bool) → HashMap K Numbers S → HashMap K Numbers S → K → ℕ → Type 0
NotesAll eq old new key number = (q : _) → list_of (get eq new q) ≡ with_number (eq key q) (list_of (get eq old q)) number

-- what is noted of one entry more: its number, at the keys that it passes the test of
abbrev pub AddsFirst : {K S : Type 0} → (K → K → Bool) → (K → Entry → Bool) → HashMap K ℕ S → HashMap K ℕ S → Entry → ℕ → Type 0
AddsFirst eq test old new e number = (q : _) → get eq new q ≡ or_noted (get eq old q) (test q e) number

abbrev pub AddsAll : {K S : Type 0} → (K → K → Bool) → (K → Entry → Bool) → HashMap K Numbers S → HashMap K Numbers S → Entry → ℕ → Type 0
AddsAll eq test old new e number = (q : _) → list_of (get eq new q) ≡ with_number (test q e) (list_of (get eq old q)) number

-- The tables find what the definitions find.
pub record Holds {S U V : Type 0} (key_eq : Key → Key → Bool) (place_eq : Numbers → Numbers → Bool) (names : HashMap Key ℕ S) (places : HashMap Numbers ℕ U) (uses : HashMap Numbers Numbers V) (numbers : ℕ) (es : List Entry) : Type 0 where
  pub by_name : (key : Key) → get key_eq names key ≡ first_index (test_name key) es
  pub by_place : (place : Numbers) → get place_eq places place ≡ first_index (is_at place.items) es
  pub by_region : (region : Numbers) → list_of (get place_eq uses region) ≡ all_indexes (is_use_in region.items) 0 es
  pub finds_name : (key : Key) → option_and_then (slice_get es) (get key_eq names key) ≡ find (test_name key) es
  pub finds_place : (place : Numbers) → option_and_then (slice_get es) (get place_eq places place) ≡ find (is_at place.items) es
  pub finds_uses : (region : Numbers) → filter_map (slice_get es) (list_of (get place_eq uses region)) ≡ filter (is_use_in region.items) es
  pub all_numbers : numbers ≡ count_by is_own es
