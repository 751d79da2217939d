use Rattle.std.proofs.Common.{rules, ◌≡◌, ◌<◌, ◌++◌, length, sym, ◌∙◌}
use Rattle.std.specs.Prelude.{slice_get}
use Rattle.ada_tree.specs.Nodes.{kids_of}
use Rattle.ada_tree.specs.Rendering.{file_text}
use Rattle.penelope_cli.proofs.Printing.{next_text}
use Rattle.penelope_cli.proofs.print.texts.Goals as goal

pub loop-number-preserved : goal.loop-number-preserved
loop-number-preserved c =
    let within : c.loop-number.number < length (kids_of c.args.doc.now) = search rules in
    let wrote : c.write.new.out.items ≡ c.loop-number.out.items ++ file_text (slice_get (kids_of c.args.doc.now) c.loop-number.number) = search rules in
    rw wrote (sym (next_text (kids_of c.args.doc.now) c.loop-number.number c.loop-number.out.items within) ∙ c.loop-number.invariant)
