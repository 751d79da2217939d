use Rattle.std.proofs.Common.{◌≡◌}
use Rattle.ada_tree.specs.declared.grammar.Shape.TheVariants.{One}
use Rattle.tree_write.specs.Ink.{ink_of, after}
use Rattle.tree_write.specs.Tasks.{as_written, finished, work_cost}
use Rattle.tree_write.proofs.steps.write_node.Given as goal

-- the tasks that are left complete the text
abbrev pub invariant-loop-task : goal.invariant-loop-task
invariant-loop-task l = finished l.page l.work.items ≡ after ((as_written l.fn.node).at (One l.fn.place)) (ink_of l.fn.page)

abbrev pub decreases-loop-task : goal.decreases-loop-task
decreases-loop-task l = work_cost l.work.items
