use Rattle.term_sorts.proofs.SortLaws.{all_same_by}
use Rattle.term_sorts.proofs.sorting.are_same_sorts.Goals as goal

pub returns : goal.returns
returns c = all_same_by c.args.xs.now c.args.ys.now c.equal_sort_lists.result c.equal_sort_lists.ensures
