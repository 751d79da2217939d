use Rattle.std.proofs.Common.{◌≡◌, drop}
use Rattle.std.specs.List.{list_all}
use Rattle.term_core.specs.Sorts.{same_sort}
use Rattle.term_sorts.proofs.sorting.are_all.Given as goal

abbrev pub invariant-loop-other : goal.invariant-loop-other
invariant-loop-other l = list_all (same_sort l.sort) (drop l.other-index l.others) ≡ list_all (same_sort l.sort) l.others
