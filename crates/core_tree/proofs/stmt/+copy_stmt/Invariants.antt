use Rattle.std.proofs.Common.{◌≡◌, take}
use Rattle.core_tree.proofs.stmt.+copy_stmt.Given as goal

abbrev pub invariant-copy_block-loop-stmt : goal.invariant-copy_block-loop-stmt
invariant-copy_block-loop-stmt l = l.stmts ≡ take l.stmt-index l.stmt-items

abbrev pub invariant-copy_alts-loop-alt : goal.invariant-copy_alts-loop-alt
invariant-copy_alts-loop-alt l = l.alts ≡ take l.alt-index l.alt-items

abbrev pub invariant-copy_handlers-loop-handler : goal.invariant-copy_handlers-loop-handler
invariant-copy_handlers-loop-handler l = l.handlers ≡ take l.handler-index l.handler-items
