use Rattle.std.proofs.Common.{◌≡◌, take}
use Rattle.term_core.proofs.telling.+equal_sorts.Given as goal

abbrev pub invariant-equal_sort_lists-loop-i : goal.invariant-equal_sort_lists-loop-i
invariant-equal_sort_lists-loop-i l = take l.i l.xs ≡ take l.i l.ys
