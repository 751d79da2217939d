-- Lists of type names of which some entries wait for a full type.
use Rattle.std.proofs.Common.{◌≡◌, ℕ, suc, ◌+◌, List, [], ◌∷◌, length, Bool, true, false, nat_eq, ◌||◌, Option, Some, None, unwrap_or, refl, sym, ap, subst, arith}
use Rattle.std.proofs.lemmas.Bool.{false≢true, eqb-true, and_parts}
use Rattle.term_core.specs.declared.names.SortEntry.{SortEntry}
use Rattle.term_core.specs.declared.sort.Sort.{Sort}
use Rattle.term_core.specs.declared.sort.Sort.TheOpen.{Sort-F}
use Rattle.term_core.specs.declared.sort.Sort.TheViews.{out-Sort}
use Rattle.term_core.specs.Entries.{Fits, FitsParts, IsRecord}
use Rattle.static_values.specs.Entities.{Declared}
use Rattle.ada_types.specs.declared.declarations.Addition.{Addition}
use Rattle.ada_types.specs.SortLists.{begun, fresh_for, is_record, may_stand}
use Rattle.ada_types.specs.Declarations.{MayStand, settled, settled_by, after_waiting, waiting_for, names_before}

-- the list has begun
pub begins : (fresh : Option (List SortEntry)) (names : List SortEntry) → fresh ≡ fresh_for names → unwrap_or fresh names ≡ begun names
begins fresh [] h = rw h refl
begins fresh (e ∷ es) h = rw h refl

settled_length : (full : SortEntry) (ns : List ℕ) (number : ℕ) (names : List SortEntry) → length (settled full ns number names) ≡ length names
settled_length full ns number [] = refl
settled_length full ns number (e ∷ es) = ap suc (settled_length full ns (number + 1) es)

by_length : (e : Option SortEntry) (ns : List ℕ) (names : List SortEntry) → length (settled_by e ns names) ≡ length names
by_length None ns names = refl
by_length (Some full) ns names = settled_length full ns 0 names

waiting_length : (e : Option SortEntry) (ns : List ℕ) (names : List SortEntry) → length (after_waiting e ns names) ≡ length names
waiting_length e [] names = refl
waiting_length e (n ∷ ns) names = by_length e (n ∷ ns) names

-- an entry fits at the end of any list as long
still_fits : (names others : List SortEntry) (e : Option SortEntry) → length others ≡ length names → MayStand names e → MayStand others e
still_fits names others None h f = tt
still_fits names others (Some e) h f = subst (λ (n : ℕ). Fits n e) (sym h) f

pub fits_before : (es : Declared) (a : Addition) (names : List SortEntry) → MayStand names a.entry → MayStand (names_before es a names) a.entry
fits_before es a names f = still_fits names (names_before es a names) a.entry (waiting_length a.entry (waiting_for a.completes es) names) f

-- without a type nothing changes
pub without_type : (ns : List ℕ) (names : List SortEntry) → after_waiting None ns names ≡ names
without_type [] names = refl
without_type (n ∷ ns) names = refl

pub without_waiting : (e : Option SortEntry) (ns : List ℕ) (names : List SortEntry) → ns ≡ [] → after_waiting e ns names ≡ names
without_waiting e ns names h = rw h refl

pub with_type : (full : SortEntry) (ns : List ℕ) (names : List SortEntry) → (ns ≡ [] → ⊥) → after_waiting (Some full) ns names ≡ settled full ns 0 names
with_type full [] names h = absurd (h refl)
with_type full (n ∷ ns) names h = refl

-- ---- an entry that may stand at a number fits there

is_one : (n count : ℕ) (l : Sort-F Sort) → is_record n count l ≡ true → IsRecord n count l
is_one n count (Sort-F.Record m parts) h =
    let both : (nat_eq m n ≡ true) × (nat_eq (length parts) count ≡ true) = and_parts (nat_eq m n) (nat_eq (length parts) count) h in
    (eqb-true m n both.0, eqb-true (length parts) count both.1)
is_one n count (Sort-F.Whole) h = absurd (false≢true h)
is_one n count (Sort-F.Range a b) h = absurd (false≢true h)
is_one n count (Sort-F.Truth) h = absurd (false≢true h)
is_one n count (Sort-F.Array a b e) h = absurd (false≢true h)
is_one n count (Sort-F.Free m) h = absurd (false≢true h)

some_parts : (k : ℕ) → nat_eq (suc k) 0 ≡ false
some_parts k = by (nat_eq (suc k) 0) refl
  where
    by : (t : Bool) → nat_eq (suc k) 0 ≡ t → nat_eq (suc k) 0 ≡ false
    by false e = e
    by true e = absurd (omega (arith, eqb-true (suc k) 0 e))

parts_fit : (n : ℕ) (parts : List (List ℕ)) (sort : Sort) → (nat_eq (length parts) 0 || is_record n (length parts) (out-Sort sort)) ≡ true → FitsParts n parts sort
parts_fit n [] sort h = tt
parts_fit n (p ∷ ps) sort h =
    is_one n (length (p ∷ ps)) (out-Sort sort)
    (subst (λ (t : Bool). (t || is_record n (length (p ∷ ps)) (out-Sort sort)) ≡ true) (some_parts (length ps)) h)

pub fits_there : (n number : ℕ) (e : SortEntry) → n ≡ number → may_stand number e ≡ true → Fits n e
fits_there n number e same h = subst (λ (m : ℕ). Fits m e) (sym same) (parts_fit number e.parts e.sort h)

-- so does what is added, behind the list in which those that wait are completed
pub added_fits : (es : Declared) (a : Addition) (names others : List SortEntry) (e : Option SortEntry) → MayStand names a.entry → others ≡ names_before es a names → e ≡ a.entry → MayStand others e
added_fits es a names others e f h i =
    subst (λ (ns : List SortEntry). MayStand ns e) (sym h) (subst (λ (x : Option SortEntry). MayStand (names_before es a names) x) (sym i) (fits_before es a names f))
