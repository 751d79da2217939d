-- The list of type names.
use Rattle.std.specs.Prelude.{◌≡◌, ℕ, suc, List, [], ◌∷◌, length}
use Rattle.term_core.specs.declared.sort.Sort.{Sort}
use Rattle.term_core.specs.declared.sort.Sort.TheViews.{out-Sort}
use Rattle.term_core.specs.declared.sort.Sort.TheOpen.{Sort-F}
use Rattle.term_core.specs.declared.names.SortEntry.{SortEntry}

-- the sort is that of the record type of this number, with so many parts
abbrev pub IsRecord : ℕ → ℕ → Sort-F Sort → Type 0
IsRecord number count (Sort-F.Record n parts) = (n ≡ number) × (length parts ≡ count)
IsRecord number count _ = ⊥

-- an entry that may stand at this number
abbrev pub FitsParts : ℕ → List (List ℕ) → Sort → Type 0
FitsParts number [] sort = Unit {0}
FitsParts number (part ∷ parts) sort = IsRecord number (length (part ∷ parts)) (out-Sort sort)

abbrev pub Fits : ℕ → SortEntry → Type 0
Fits number entry = FitsParts number entry.parts entry.sort

-- each entry fits where it stands
abbrev pub AllFitFrom : ℕ → List SortEntry → Type 0
AllFitFrom number [] = Unit {0}
AllFitFrom number (entry ∷ entries) = Fits number entry × AllFitFrom (suc number) entries

abbrev pub AllFit : List SortEntry → Type 0
AllFit entries = AllFitFrom 0 entries
