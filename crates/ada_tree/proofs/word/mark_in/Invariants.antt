use Rattle.std.proofs.Common.{◌≡◌, bytes_eq, drop}
use Rattle.ada_tree.specs.Tables.{first_value}
use Rattle.ada_tree.proofs.word.mark_in.Given as goal

abbrev pub invariant-loop-mark : goal.invariant-loop-mark
invariant-loop-mark l = first_value (λ row. row.0) (λ row. bytes_eq row.1.now l.text) (drop l.mark-index l.rows) ≡ first_value (λ row. row.0) (λ row. bytes_eq row.1.now l.text) l.rows
