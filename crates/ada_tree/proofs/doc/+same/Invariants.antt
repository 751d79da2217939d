use Rattle.std.proofs.Common.{◌≡◌, take, length}
use Rattle.ada_tree.proofs.doc.+same.Given as goal

abbrev pub invariant-are_same-loop-x : goal.invariant-are_same-loop-x
invariant-are_same-loop-x l = take (length l.yielded) l.a ≡ take (length l.yielded) l.b
