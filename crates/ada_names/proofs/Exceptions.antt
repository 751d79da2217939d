-- Exceptions counted one by one.
use Rattle.std.proofs.Common.{◌≡◌, ℕ, ◌+◌, List, [], ◌∷◌, Bool, true, false, refl, sym, ◌∙◌, cond, Option, Some, None}
use Rattle.std.specs.Prelude.{filter, if◌then◌else◌}
use Rattle.std.specs.List.{position_from}
use Rattle.std.proofs.lemmas.Iterator.Adapters.{position_from-zero}
use Rattle.ada_tree.specs.declared.doc.DeclId.{DeclId}
use Rattle.ada_names.specs.declared.entry.Entry.{Entry}
use Rattle.ada_names.specs.Entries.{is_exception, has_number, exception_number}

-- the number of the exception of this number among the declarations, where so many have been counted
abbrev pub counted : List Entry → DeclId → ℕ → Option ℕ
counted [] id n = None
counted (e ∷ es) id n = if is_exception e then (if has_number id e then Some n else counted es id (n + 1)) else counted es id n

counted_is : (es : List Entry) (id : DeclId) (n : ℕ) → counted es id n ≡ position_from (has_number id) n (filter is_exception es)
counted_is [] id n = refl
counted_is (e ∷ es) id n = by (is_exception e) (counted_is es id n) (inner (has_number id e) (counted_is es id (n + 1)))
  where
    inner : (u : Bool) → counted es id (n + 1) ≡ position_from (has_number id) (n + 1) (filter is_exception es) → (if u then Some n else counted es id (n + 1)) ≡ cond u (Some n) (position_from (has_number id) (n + 1) (filter is_exception es))
    inner true more = refl
    inner false more = more

    by : (t : Bool) → counted es id n ≡ position_from (has_number id) n (filter is_exception es) → (if has_number id e then Some n else counted es id (n + 1)) ≡ cond (has_number id e) (Some n) (position_from (has_number id) (n + 1) (filter is_exception es)) → (if t then (if has_number id e then Some n else counted es id (n + 1)) else counted es id n) ≡ position_from (has_number id) n (cond t (e ∷ filter is_exception es) (filter is_exception es))
    by true same more = more
    by false same more = same

pub counted_from_zero : (es : List Entry) (id : DeclId) → counted es id 0 ≡ exception_number es id
counted_from_zero es id = counted_is es id 0 ∙ sym (position_from-zero (has_number id) (filter is_exception es))
