use Rattle.reading_tests.proofs.OneFile.{read_fits}
use Rattle.reading_tests.proofs.printed.read_doc.Goals as goal

pub invariant_of-result : goal.invariant_of-result
invariant_of-result c = read_fits _ _ _ _ _ c.in-Ok.ensures.node c.root.ensures c.in_ok-push-in-Ok.ensures.ok c.new-files.ensures
