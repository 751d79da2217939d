use Rattle.std.proofs.Common.{rules}
use Rattle.core_tree.proofs.expr.+copy_expr.Goals as goal
use Rattle.core_tree.proofs.expr.+copy_expr.Goals.{CoreExprCopied::copy-in-Lit, CoreExprCopied::copy-in-Truth, CoreExprCopied::copy-in-Get, CoreExprCopied::copy-in-Select+in_ok-copy_part-in-Select+in_ok-copy_part-in-Select-2, CoreExprCopied::copy-in-Field+in_ok-copy_part-in-Field, CoreExprCopied::copy-in-Unary+in_ok-copy_part-in-Unary, CoreExprCopied::copy-in-Binary+in_ok-copy_part-in-Binary+in_ok-copy_part-in-Binary-2, CoreExprCopied::copy-in-AndThen+in_ok-copy_part-in-AndThen+in_ok-copy_part-in-AndThen-2, CoreExprCopied::copy-in-OrElse+in_ok-copy_part-in-OrElse+in_ok-copy_part-in-OrElse-2, CoreExprCopied::copy-in-Within+in_ok-copy_part-in-Within+in_ok-copy_part-in-Within-2+in_ok-copy_part-in-Within-3, CoreExprCopied::copy-in-Succ+in_ok-copy_part-in-Succ, CoreExprCopied::copy-in-Pred+in_ok-copy_part-in-Pred, CoreExprCopied::copy-in-Pos+in_ok-copy_part-in-Pos, CoreExprCopied::copy-in-Convert+in_ok-copy_part-in-Convert+in_ok-copy-in-Convert+in_ok-copy-in-Convert-2, CoreExprCopied::copy-in-Call+in_ok-copy_parts-in-Call, CoreExprCopied::copy-in-Fill+in_ok-copy_part-in-Fill, CoreExprCopied::copy-in-Put+in_ok-copy_part-in-Put+in_ok-copy_part-in-Put-2, CoreExprCopied::copy-in-Make+in_ok-copy_parts-in-Make, CoreExprCopied::copy-in-Aggregate+in_ok-copy_parts-in-Aggregate+in_ok-copy_part-in-Aggregate, CoreExprCopied::copy-in-Given}

pub CoreExprCopied::copy-returns : goal.CoreExprCopied::copy-returns
CoreExprCopied::copy-returns t c = elim c.match-self.branch [
  | CoreExprCopied::copy-in-Lit w ↦ search rules
  | CoreExprCopied::copy-in-Truth w ↦ search rules
  | CoreExprCopied::copy-in-Get w ↦ search rules
  | CoreExprCopied::copy-in-Select+in_ok-copy_part-in-Select+in_ok-copy_part-in-Select-2 w ↦ search rules
  | CoreExprCopied::copy-in-Field+in_ok-copy_part-in-Field w ↦ search rules
  | CoreExprCopied::copy-in-Unary+in_ok-copy_part-in-Unary w ↦ search rules
  | CoreExprCopied::copy-in-Binary+in_ok-copy_part-in-Binary+in_ok-copy_part-in-Binary-2 w ↦ search rules
  | CoreExprCopied::copy-in-AndThen+in_ok-copy_part-in-AndThen+in_ok-copy_part-in-AndThen-2 w ↦ search rules
  | CoreExprCopied::copy-in-OrElse+in_ok-copy_part-in-OrElse+in_ok-copy_part-in-OrElse-2 w ↦ search rules
  | CoreExprCopied::copy-in-Within+in_ok-copy_part-in-Within+in_ok-copy_part-in-Within-2+in_ok-copy_part-in-Within-3 w ↦ search rules
  | CoreExprCopied::copy-in-Succ+in_ok-copy_part-in-Succ w ↦ search rules
  | CoreExprCopied::copy-in-Pred+in_ok-copy_part-in-Pred w ↦ search rules
  | CoreExprCopied::copy-in-Pos+in_ok-copy_part-in-Pos w ↦ search rules
  | CoreExprCopied::copy-in-Convert+in_ok-copy_part-in-Convert+in_ok-copy-in-Convert+in_ok-copy-in-Convert-2 w ↦ search rules
  | CoreExprCopied::copy-in-Call+in_ok-copy_parts-in-Call w ↦ search rules
  | CoreExprCopied::copy-in-Fill+in_ok-copy_part-in-Fill w ↦ search rules
  | CoreExprCopied::copy-in-Put+in_ok-copy_part-in-Put+in_ok-copy_part-in-Put-2 w ↦ search rules
  | CoreExprCopied::copy-in-Make+in_ok-copy_parts-in-Make w ↦ search rules
  | CoreExprCopied::copy-in-Aggregate+in_ok-copy_parts-in-Aggregate+in_ok-copy_part-in-Aggregate w ↦ search rules
  | CoreExprCopied::copy-in-Given w ↦ search rules
]
