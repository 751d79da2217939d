use Rattle.std.proofs.Common.{◌≡◌, drop}
use Rattle.static_values.specs.Judging.{asks}
use Rattle.static_values.proofs.judging.ask.Given as goal

abbrev pub invariant-loop-code : goal.invariant-loop-code
invariant-loop-code l = asks l.at (drop l.code-index l.rows) ≡ asks l.at l.rows
