use Rattle.std.proofs.Common.{◌≡◌, map, drop}
use Rattle.core_tree.specs.Trees.{stmt_of, stmts_from, alt_of, choices_from, handler_of, catches_from}
use Rattle.core_tree.specs.Once.{with_stmts, with_choices, with_catches}
use Rattle.core_tree.proofs.calls.+add_stmt.Given as goal

abbrev pub invariant-add_block-loop-stmt : goal.invariant-add_block-loop-stmt
invariant-add_block-loop-stmt l =
    with_stmts l.ids.items (stmts_from (map stmt_of (drop l.stmt-index l.stmt-items)))
    ≡ with_stmts l.fn.ids.items (stmts_from (map stmt_of l.stmt-items))

abbrev pub invariant-add_alts-loop-alt : goal.invariant-add_alts-loop-alt
invariant-add_alts-loop-alt l =
    with_choices l.ids.items (choices_from (map alt_of (drop l.alt-index l.alt-items)))
    ≡ with_choices l.fn.ids.items (choices_from (map alt_of l.alt-items))

abbrev pub invariant-add_handlers-loop-handler : goal.invariant-add_handlers-loop-handler
invariant-add_handlers-loop-handler l =
    with_catches l.ids.items (catches_from (map handler_of (drop l.handler-index l.handler-items)))
    ≡ with_catches l.fn.ids.items (catches_from (map handler_of l.handler-items))
