-- What rules need, in the code.
use Rattle.std.specs.Prelude.{ℕ, List, Option}
use Rattle.std.specs.Borrow.{Bor}
use Rattle.reading_table.specs.declared.need.Sort.{Sort}
use Rattle.reading_table.specs.Rows.{Need}

-- what a rule needs, as the code has it
abbrev pub need_now : (Bor (List Sort) × Option Sort × (ℕ × ℕ) × (ℕ × ℕ) × ℕ × ℕ) → Need
need_now need = (record { now = need.0.now }, need.1, need.2, need.3, need.4, need.5)
