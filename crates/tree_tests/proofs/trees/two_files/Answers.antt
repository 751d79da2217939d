use Rattle.std.proofs.Common.{[]}
use Rattle.tree_tests.proofs.EmptyFiles.{one_more, two_fit}
use Rattle.tree_tests.proofs.trees.two_files.Goals as goal

pub invariant_of-result : goal.invariant_of-result
invariant_of-result c =
    let one = one_more _ _ _ [] c.in_ok-push.ensures.ok c.empty_file.ensures c.new-files.ensures in
    two_fit _ _ c.document.ensures (one_more _ _ _ _ c.in_ok-push-2.ensures.ok c.empty_file-2.ensures one)
