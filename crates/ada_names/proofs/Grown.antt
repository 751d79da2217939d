-- The tables of a list of entries, with one entry more.
use Rattle.std.proofs.Common.{◌≡◌, ℕ, ◌+◌, List, [], ◌∷◌, ◌++◌, Bool, ap, sym, ◌∙◌, Option, length, subst, arith}
use Rattle.std.specs.Prelude.{if◌then◌else◌, slice_get, filter_map}
use Rattle.std.specs.Option.{option_and_then}
use Rattle.std.specs.HashMap.{HashMap, get}
use Rattle.ada_names.specs.declared.entry.Entry.{Entry}
use Rattle.ada_names.specs.declared.table.Key.{Key}
use Rattle.ada_names.specs.Entries.{is_at, is_use_in, is_own}
use Rattle.ada_names.specs.Tables.{Numbers, test_name, first_index, all_indexes, or_noted, with_number, list_of, AddsFirst, AddsAll, Holds}
use Rattle.ada_names.proofs.Indexes.{one_more, found, one_more_of_all, of_all, one_more_counted}

module _ {S U V : Type 0} (same : Key → Key → Bool) (same_place : Numbers → Numbers → Bool) (names more_names : HashMap Key ℕ S) (places more_places : HashMap Numbers ℕ U) (uses more_uses : HashMap Numbers Numbers V) (numbers more_numbers : ℕ) (es : List Entry) (e : Entry) where
  grown_by : Holds same same_place names places uses numbers es → AddsFirst same test_name names more_names e (length es) → AddsFirst same_place (λ (place : Numbers). is_at place.items) places more_places e (length es) → AddsAll same_place (λ (region : Numbers). is_use_in region.items) uses more_uses e (length es) → more_numbers ≡ numbers + (if is_own e then 1 else 0) → Holds same same_place more_names more_places more_uses more_numbers (es ++ e ∷ [])
  grown_by old add_name add_place add_use add_number =
      record {
        by_name = by_name;
        by_place = by_place;
        by_region = by_region;
        finds_name = λ key. ap (option_and_then (slice_get (es ++ e ∷ []))) (by_name key) ∙ found (test_name key) (es ++ e ∷ []);
        finds_place = λ place. ap (option_and_then (slice_get (es ++ e ∷ []))) (by_place place) ∙ found (is_at place.items) (es ++ e ∷ []);
        finds_uses = λ region. ap (filter_map (slice_get (es ++ e ∷ []))) (by_region region) ∙ of_all (is_use_in region.items) (es ++ e ∷ []);
        all_numbers = add_number ∙ ap (λ (n : ℕ). n + (if is_own e then 1 else 0)) old.all_numbers ∙ sym (one_more_counted is_own es e);
      }
    where
      by_name : (key : Key) → get same more_names key ≡ first_index (test_name key) (es ++ e ∷ [])
      by_name key = add_name key ∙ ap (λ (o : Option ℕ). or_noted o (test_name key e) (length es)) (old.by_name key) ∙ sym (one_more (test_name key) es e)

      by_place : (place : Numbers) → get same_place more_places place ≡ first_index (is_at place.items) (es ++ e ∷ [])
      by_place place = add_place place ∙ ap (λ (o : Option ℕ). or_noted o (is_at place.items e) (length es)) (old.by_place place) ∙ sym (one_more (is_at place.items) es e)

      from_zero : length es ≡ 0 + length es
      from_zero = omega arith

      by_region : (region : Numbers) → list_of (get same_place more_uses region) ≡ all_indexes (is_use_in region.items) 0 (es ++ e ∷ [])
      by_region region =
          add_use region
          ∙ ap (λ (ns : List ℕ). with_number (is_use_in region.items e) ns (length es)) (old.by_region region)
          ∙ ap (with_number (is_use_in region.items e) (all_indexes (is_use_in region.items) 0 es)) from_zero
          ∙ sym (one_more_of_all (is_use_in region.items) 0 es e)

  pub grown : (number : ℕ) → number ≡ length es → (all : List Entry) → all ≡ es ++ e ∷ [] → Holds same same_place names places uses numbers es → AddsFirst same test_name names more_names e number → AddsFirst same_place (λ (place : Numbers). is_at place.items) places more_places e number → AddsAll same_place (λ (region : Numbers). is_use_in region.items) uses more_uses e number → more_numbers ≡ numbers + (if is_own e then 1 else 0) → Holds same same_place more_names more_places more_uses more_numbers all
  grown number long all more old add_name add_place add_use add_number =
      let P : List Entry → Type 0 = λ all. Holds same same_place more_names more_places more_uses more_numbers all in
      let N : ℕ → Type 0 = λ number. AddsFirst same test_name names more_names e number in
      let M : ℕ → Type 0 = λ number. AddsFirst same_place (λ (place : Numbers). is_at place.items) places more_places e number in
      let W : ℕ → Type 0 = λ number. AddsAll same_place (λ (region : Numbers). is_use_in region.items) uses more_uses e number in
      subst P (sym more) (grown_by old (subst N long add_name) (subst M long add_place) (subst W long add_use) add_number)
