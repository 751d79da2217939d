-- Outcomes behind tokens.
use Rattle.std.proofs.Common.{arith, ◌≡◌, ℕ, ◌+◌, refl, ap}
use Rattle.note_read.specs.Signs.{behind}
use Rattle.reading_table.specs.Limits.{Outcome, read, stopped, limited}

pub behind_twice : (a b : ℕ) (r : Outcome) → behind a (behind b r) ≡ behind (a + b) r
behind_twice a b (read state) = refl
behind_twice a b (stopped n) = ap stopped (omega arith)
behind_twice a b (limited n) = ap limited (omega arith)

pub behind_none : (r : Outcome) → behind 0 r ≡ r
behind_none (read state) = refl
behind_none (stopped n) = ap stopped (omega arith)
behind_none (limited n) = ap limited (omega arith)
