-- Lengths that are counted from a place further on.
use Rattle.std.proofs.Common.{◌≡◌, ℕ, ◌+◌, ap, arith}
use Rattle.std.specs.Prelude.{Result, Ok, Err}
use Rattle.lex_ada.specs.Cutting.{longer}

abbrev pub further : ℕ → Result ℕ ℕ → Result ℕ ℕ
further n (Ok m) = Ok (n + m)
further n (Err m) = Err (n + m)

pub further-longer : (n : ℕ) (r : Result ℕ ℕ) → further n (longer r) ≡ further (n + 1) r
further-longer n (Ok m) = ap Ok (omega arith)
further-longer n (Err m) = ap Err (omega arith)
