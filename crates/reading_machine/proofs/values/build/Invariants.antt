use Rattle.std.proofs.Common.{◌≡◌, reverse}
use Rattle.reading_machine.proofs.values.build.Given as goal
use Rattle.reading_table.specs.States.{text_in, nodes_in}

abbrev pub invariant-loop-part : goal.invariant-loop-part
invariant-loop-part l = record {
  text : l.text ≡ text_in (reverse l.yielded);
  kids : l.kids ≡ nodes_in (reverse l.yielded);
}
