use Rattle.std.proofs.Common.{◌≡◌, take}
use Rattle.core_tree.proofs.expr.+copy_expr.Given as goal

abbrev pub invariant-copy_parts-loop-expr : goal.invariant-copy_parts-loop-expr
invariant-copy_parts-loop-expr l = l.exprs ≡ take l.expr-index l.expr-items
