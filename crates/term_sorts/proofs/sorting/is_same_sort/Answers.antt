use Rattle.term_sorts.proofs.SortLaws.{same_by}
use Rattle.term_sorts.proofs.sorting.is_same_sort.Goals as goal

pub returns : goal.returns
returns c = same_by c.args.a.now c.args.b.now c.equal_sorts.result c.equal_sorts.ensures
