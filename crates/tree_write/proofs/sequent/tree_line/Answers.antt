use Rattle.std.proofs.Common.{◌∙◌}
use Rattle.std.proofs.lemmas.Result.{IfOk-weaker}
use Rattle.tree_write.specs.Ink.{ink_of}
use Rattle.tree_write.proofs.Files.{line_written}
use Rattle.tree_write.proofs.sequent.tree_line.Goals as goal

pub returns : goal.returns
returns c =
    IfOk-weaker c.into_bytes.result _ _ (λ bytes is. is ∙ line_written c.args.tree.now (ink_of c.inside-page.result) (ink_of c.write_node.new.page) c.inside-page.ensures c.in_ok-write_node.ensures)
    c.into_bytes.ensures
