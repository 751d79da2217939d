use Rattle.std.proofs.Common.{◌∙◌}
use Rattle.std.proofs.lemmas.Result.{IfOk-weaker}
use Rattle.tree_write.specs.Ink.{ink_of}
use Rattle.tree_write.proofs.Files.{file_written}
use Rattle.tree_write.proofs.document.write_file.Goals as goal

pub returns : goal.returns
returns c =
    IfOk-weaker c.into_bytes.result _ _ (λ bytes is. is ∙ file_written c.args.file.now (ink_of c.new-page.result) (ink_of c.write_node.new.page) c.new-page.ensures c.in_ok-write_node.ensures)
    c.into_bytes.ensures
