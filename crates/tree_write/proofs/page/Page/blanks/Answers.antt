use Rattle.tree_write.proofs.Inks.{blanks_more}
use Rattle.tree_write.proofs.page.Page.blanks.Goals as goal

pub loop-preserved : goal.loop-preserved
loop-preserved c = blanks_more c.loop.counter _ _ _ c.loop.invariant c.in_ok-write.ensures
