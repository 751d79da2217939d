use Rattle.penelope_cli.proofs.Documents.{files_fit}
use Rattle.penelope_cli.proofs.document.read_document.Goals as goal

pub invariant_of-doc : goal.invariant_of-doc
invariant_of-doc c = rw (c.from.ensures, c.new.ensures.items, c.new-2.ensures) (files_fit c.args.sources.now c.in_ok-read_files.field-0 c.read_files_make_a_document.ensures c.in_ok-read_files.ensures)

pub invariant_of-doc-in-None : goal.invariant_of-doc-in-None
invariant_of-doc-in-None c = rw (c.from.ensures, c.new.ensures.items, c.new-2.ensures) (files_fit c.args.sources.now c.in_ok-read_files.field-0 c.read_files_make_a_document.ensures c.in_ok-read_files.ensures)
