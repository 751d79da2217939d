use Rattle.std.proofs.Common.{◌≡◌, length}
use Rattle.lex_ada.specs.Meanings.{without_zeros}
use Rattle.lex_ada.proofs.text.without_zeros.Given as goal

abbrev pub invariant-loop-tail : goal.invariant-loop-tail
invariant-loop-tail l = without_zeros l.rest ≡ without_zeros l.digits

abbrev pub decreases-loop-tail : goal.decreases-loop-tail
decreases-loop-tail l = length l.rest
