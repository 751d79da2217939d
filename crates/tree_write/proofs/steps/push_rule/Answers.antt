use Rattle.std.proofs.Common.{◌≡◌, ◌++◌, ap, ◌∙◌, subst, List}
use Rattle.std.specs.Prelude.{OnOk}
use Rattle.ada_tree.specs.Items.{Item}
use Rattle.ada_tree.specs.Canonical.{arguments}
use Rattle.tree_write.specs.Tasks.{all_written, work_items}
use Rattle.tree_write.proofs.Works.{arguments_written}
use Rattle.tree_write.proofs.steps.push_rule.Goals as goal

pub returns-clause-items : goal.returns-clause-items
returns-clause-items c =
    subst (λ (items : List Item). OnOk c.push_list.result (work_items c.push_list.new.work.items ≡ items ++ work_items c.args.work.now.items))
    (ap (λ line. arguments line (all_written c.as_slice.result.now)) c.arguments.ensures ∙ arguments_written _ c.args.list.now c.as_slice.result.now c.as_slice.ensures) c.push_list.ensures.items
