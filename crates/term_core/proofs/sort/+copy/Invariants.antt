use Rattle.std.proofs.Common.{◌≡◌, take}
use Rattle.term_core.proofs.sort.+copy.Given as goal

abbrev pub invariant-copy_parts-loop-sort : goal.invariant-copy_parts-loop-sort
invariant-copy_parts-loop-sort l = l.sorts ≡ take l.sort-index l.sort-items
