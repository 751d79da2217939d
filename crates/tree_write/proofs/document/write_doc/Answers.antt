use Rattle.std.proofs.Common.{sym, subst}
use Rattle.std.specs.Prelude.{IfOk, IfSome, Contains, slice_get}
use Rattle.std.proofs.lemmas.Result.{IfOk-weaker}
use Rattle.std.proofs.lemmas.Option.{get_or_from_slice_get}
use Rattle.ada_tree.specs.declared.node.Node.{Node}
use Rattle.ada_tree.specs.Nodes.{kids_of}
use Rattle.tree_write.specs.Reread.{AreReadAs}
use Rattle.tree_write.proofs.Files.{read_again}
use Rattle.tree_write.proofs.document.write_doc.Goals as goal

pub returns-in-Some-clause-read : goal.returns-in-Some-clause-read
returns-in-Some-clause-read c =
    let root = c.doc.inside.root in
    let file = c.in-Some.node.now in
    let held : Contains (kids_of root) file = (c.args.file, c.in-Some.ensures.within, get_or_from_slice_get (kids_of root) c.args.file file file (sym c.in-Some.ensures.value)) in
    subst (λ (doc : Node). IfOk c.write_file.result (λ bytes. IfSome (slice_get (kids_of doc) c.args.file) (AreReadAs bytes.items))) c.doc.view_is
    (IfOk-weaker c.write_file.result _ _
    (λ bytes is. subst (λ found. IfSome found (AreReadAs bytes.items)) c.in-Some.ensures.value
    (read_again file bytes.items is (c.written_files_are_read.ensures.tokens root file c.doc.invariant held) (λ tokens fall. c.written_files_are_read.ensures.read root file tokens c.doc.invariant held fall)))
    c.write_file.ensures)
