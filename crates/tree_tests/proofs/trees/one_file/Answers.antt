use Rattle.std.proofs.Common.{[]}
use Rattle.tree_tests.proofs.EmptyFiles.{one_more, one_fits}
use Rattle.tree_tests.proofs.trees.one_file.Goals as goal

pub invariant_of-result : goal.invariant_of-result
invariant_of-result c = one_fits _ _ c.document.ensures (one_more _ _ _ [] c.in_ok-push.ensures.ok c.empty_file.ensures c.new-files.ensures)
