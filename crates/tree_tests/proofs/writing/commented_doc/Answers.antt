use Rattle.tree_tests.proofs.CommentedFile.{commented_fits}
use Rattle.tree_tests.proofs.writing.commented_doc.Goals as goal

pub invariant_of-result : goal.invariant_of-result
invariant_of-result c = commented_fits _ _ _ _ c.document.ensures c.in_ok-push.ensures.ok c.in_ok-file.ensures c.new-files.ensures
