-- Sorts: how they are written in definitions, whether two are the same, and which values each has.
use Rattle.std.specs.Prelude.{ℕ, ℤ, List, [], ◌∷◌, find, length, int_le, Bool, true, false, ◌&&◌, ◌==◌, Option, Some, None}
use Rattle.std.specs.List.{list_any, list_all}
use Rattle.std.specs.Ordering.{int_eq}
use Rattle.term_core.specs.declared.sort.Sort.{Sort}
use Rattle.term_core.specs.declared.sort.Sort.TheOpen.{Sort-F}
use Rattle.term_core.specs.declared.sort.Sort.TheViews.{roll-Sort, out-Sort}
use Rattle.term_core.specs.declared.sort.Sort.TheFolds.{fold-Sort}
use Rattle.term_core.specs.Values.{Value, Values, a_number, a_truth, a_list, a_record, a_made, no_value, more, items, how_many, Generator}

abbrev pub whole : Sort
whole = roll-Sort Sort-F.Whole

abbrev pub truths : Sort
truths = roll-Sort Sort-F.Truth

abbrev pub array : ℤ → ℤ → Sort → Sort
array low high element = roll-Sort (Sort-F.Array low high element)

abbrev pub record_of : ℕ → List Sort → Sort
record_of number parts = roll-Sort (Sort-F.Record number parts)

abbrev pub generated : ℕ → Sort
generated number = roll-Sort (Sort-F.Free number)

-- ---- without ranges

abbrev pub plain_step : Sort-F Sort → Sort
plain_step (Sort-F.Range low high) = whole
plain_step layer = roll-Sort layer

-- the sort with Whole for every range
unfoldable pub plain : Sort → Sort
plain = fold-Sort Sort plain_step

-- ---- whether two are the same

abbrev pub each_same : List (Sort → Bool) → List Sort → Bool
each_same [] [] = true
each_same (f ∷ fs) (s ∷ ss) = f s && each_same fs ss
each_same _ _ = false

abbrev pub same_layer : Sort-F (Sort → Bool) → Sort-F Sort → Bool
same_layer Sort-F.Whole Sort-F.Whole = true
same_layer (Sort-F.Range l h) (Sort-F.Range m k) = int_eq l m && int_eq h k
same_layer Sort-F.Truth Sort-F.Truth = true
same_layer (Sort-F.Array l h f) (Sort-F.Array m k s) = int_eq l m && int_eq h k && f s
same_layer (Sort-F.Record n fs) (Sort-F.Record m ss) = n == m && each_same fs ss
same_layer (Sort-F.Free n) (Sort-F.Free m) = n == m
same_layer _ _ = false

unfoldable pub same_sort : Sort → Sort → Bool
same_sort = fold-Sort (Sort → Bool) (λ f s. same_layer f (out-Sort s))

-- ---- formed sorts

abbrev pub formed_step : List Generator → Sort-F Bool → Bool
formed_step gs (Sort-F.Array low high element) = int_le low high && element
formed_step gs (Sort-F.Record number parts) = list_all (λ b. b) parts
formed_step gs (Sort-F.Free number) = list_any (λ g. g.sort == number) gs
formed_step gs _ = true

-- each array in it has an index, and each generated sort in it a generator
abbrev pub is_formed : List Generator → Sort → Bool
is_formed gs = fold-Sort Bool (formed_step gs)

-- ---- the values of a sort

abbrev pub has_number : ℤ → Sort-F Sort → Bool
has_number z Sort-F.Whole = true
has_number z (Sort-F.Range low high) = int_le low z && int_le z high
has_number z _ = false

abbrev pub has_truth : Sort-F Sort → Bool
has_truth Sort-F.Truth = true
has_truth _ = false

-- a list from `first` on, of so many elements, each of which is tested
abbrev pub has_list : ℤ → ℕ → (Sort → Bool) → Sort-F Sort → Bool
has_list first count test (Sort-F.Array low high element) = int_eq first low && count == how_many low high && test element
has_list first count test _ = false

abbrev pub has_record : (List Sort → Bool) → Sort-F Sort → Bool
has_record test (Sort-F.Record number parts) = test parts
has_record test _ = false

abbrev pub made_of : Option Generator → ℕ → (List Sort → Bool) → Bool
made_of None number test = false
made_of (Some g) number test = g.sort == number && test g.parts

abbrev pub has_made : Option Generator → (List Sort → Bool) → Sort-F Sort → Bool
has_made generator test (Sort-F.Free number) = made_of generator number test
has_made generator test _ = false

-- whether the value lies in the sort
abbrev mutual
  pub lies_in : List Generator → Value → Sort → Bool
  lies_in gs (a_number z) sort = has_number z (out-Sort sort)
  lies_in gs (a_truth b) sort = has_truth (out-Sort sort)
  lies_in gs (a_list first vs) sort = has_list first (length (items vs)) (λ s. all_lie_in gs vs s) (out-Sort sort)
  lies_in gs (a_record vs) sort = has_record (λ ss. lie_in gs vs ss) (out-Sort sort)
  lies_in gs (a_made g vs) sort = has_made (find (λ h. h.operator == g) gs) (λ ss. lie_in gs vs ss) (out-Sort sort)

  pub all_lie_in : List Generator → Values → Sort → Bool
  all_lie_in gs no_value sort = true
  all_lie_in gs (more v vs) sort = lies_in gs v sort && all_lie_in gs vs sort

  pub lie_in : List Generator → Values → List Sort → Bool
  lie_in gs no_value [] = true
  lie_in gs (more v vs) (s ∷ ss) = lies_in gs v s && lie_in gs vs ss
  lie_in gs _ _ = false
