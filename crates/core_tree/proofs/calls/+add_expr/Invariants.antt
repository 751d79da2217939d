use Rattle.std.proofs.Common.{◌≡◌, map, drop}
use Rattle.core_tree.specs.Trees.{expr_of, exprs_from}
use Rattle.core_tree.specs.Once.{with_exprs}
use Rattle.core_tree.proofs.calls.+add_expr.Given as goal

abbrev pub invariant-add_exprs-loop-expr : goal.invariant-add_exprs-loop-expr
invariant-add_exprs-loop-expr l =
    with_exprs l.ids.items (exprs_from (map expr_of (drop l.expr-index l.expr-items)))
    ≡ with_exprs l.fn.ids.items (exprs_from (map expr_of l.expr-items))
