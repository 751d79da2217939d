-- A list of type names with an entry more.
use Rattle.std.proofs.Common.{◌≡◌, ℕ, suc, ◌+◌, List, [], ◌∷◌, ◌++◌, length, subst, arith}
use Rattle.term_core.specs.declared.names.SortEntry.{SortEntry}
use Rattle.term_core.specs.Entries.{Fits, AllFitFrom}

pub all_fit-append : (n m : ℕ) (entries : List SortEntry) (entry : SortEntry) → AllFitFrom n entries → m ≡ n + length entries → Fits m entry → AllFitFrom n (entries ++ entry ∷ [])
all_fit-append n m [] entry all e fits = let same : m ≡ n = omega arith in (subst (λ (k : ℕ). Fits k entry) same fits, tt)
all_fit-append n m (x ∷ entries) entry all e fits = (all.0, all_fit-append (suc n) m entries entry all.1 (omega arith) fits)
