use Rattle.std.proofs.Common.{◌≡◌, take}
use Rattle.term_core.proofs.telling.+equal.Given as goal

abbrev pub invariant-equal_all-loop-i : goal.invariant-equal_all-loop-i
invariant-equal_all-loop-i l = take l.i l.xs ≡ take l.i l.ys
