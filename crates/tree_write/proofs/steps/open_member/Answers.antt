use Rattle.std.proofs.Common.{◌≡◌, ◌++◌, ap, sym, ◌∙◌, subst}
use Rattle.std.specs.Prelude.{OnOk}
use Rattle.ada_tree.specs.declared.grammar.Shape.TheVariants.{One}
use Rattle.ada_tree.specs.Canonical.{comment_lines}
use Rattle.text_laws.proofs.round_trip.Lists.{notes_at}
use Rattle.tree_write.specs.Ink.{Ink, ink_of, after}
use Rattle.tree_write.specs.Tasks.{as_written, work_items, finished}
use Rattle.tree_write.proofs.Inks.{items_written}
use Rattle.tree_write.proofs.steps.open_member.Goals as goal

pub returns-clause-items : goal.returns-clause-items
returns-clause-items c =
    subst (λ (ink : Ink). OnOk c.open_node.result (finished c.open_node.new.page c.open_node.new.work.items ≡ ink))
    (items_written (comment_lines (as_written c.args.node.now).notes) ((as_written c.args.node.now).at (One c.args.place) ++ work_items c.args.work.now.items) (ink_of c.args.page.now) (ink_of c.comments.new.self)
    (c.in_ok-comments.ensures ∙ ap (λ notes. after (comment_lines notes) (ink_of c.args.page.now)) (c.as_slice.ensures ∙ sym (notes_at c.args.node.now))))
    c.open_node.ensures.items
