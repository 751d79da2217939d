use Rattle.std.proofs.Common.{◌≡◌, take, map}
use Rattle.term_core.specs.Sorts.{plain}
use Rattle.term_sorts.proofs.sorting.+plain.Given as goal

abbrev pub invariant-plain_parts-loop-sort : goal.invariant-plain_parts-loop-sort
invariant-plain_parts-loop-sort l = l.sorts ≡ map plain (take l.sort-index l.parts)
