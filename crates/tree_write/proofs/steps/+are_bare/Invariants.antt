use Rattle.tree_write.proofs.steps.+are_bare.Given as goal

abbrev pub decreases-are_bare : goal.decreases-are_bare
decreases-are_bare l = l.count
