use Rattle.std.proofs.Common.{◌≡◌, drop}
use Rattle.ada_tree.specs.Canonical.{comment_lines}
use Rattle.tree_write.specs.Ink.{ink_of, after}
use Rattle.tree_write.proofs.page.Page.comments.Given as goal

-- what is left completes the comments
abbrev pub invariant-loop-text : goal.invariant-loop-text
invariant-loop-text l = after (comment_lines (drop l.text-index l.texts)) (ink_of l.self) ≡ after (comment_lines l.texts) (ink_of l.fn.self)
