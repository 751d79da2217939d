use Rattle.std.proofs.Common.{◌≡◌, length}
use Rattle.ada_tree.specs.Texts.{symbol_items}
use Rattle.tree_write.specs.Ink.{ink_of, after}
use Rattle.tree_write.proofs.own.write_symbols.Given as goal

-- what is left completes the text
abbrev pub invariant-loop-part : goal.invariant-loop-part
invariant-loop-part l = after (symbol_items l.rest) (ink_of l.page) ≡ after (symbol_items l.fn.text) (ink_of l.fn.page)

abbrev pub decreases-loop-part : goal.decreases-loop-part
decreases-loop-part l = length l.rest
