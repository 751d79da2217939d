use Rattle.std.proofs.Common.{◌≡◌}
use Rattle.ada_tree.specs.Rendering.{blanks}
use Rattle.tree_write.specs.Ink.{ink_of, with_bytes}
use Rattle.tree_write.proofs.page.Page.blanks.Given as goal

abbrev pub invariant-loop : goal.invariant-loop
invariant-loop l = ink_of l.self ≡ with_bytes (blanks l.counter) (ink_of l.fn.self)
