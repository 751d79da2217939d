use Rattle.std.proofs.Common.{◌≡◌, take, length}
use Rattle.ada_tree.proofs.doc.are_same_texts.Given as goal

abbrev pub invariant-loop-x : goal.invariant-loop-x
invariant-loop-x l = take (length l.yielded) l.a ≡ take (length l.yielded) l.b
