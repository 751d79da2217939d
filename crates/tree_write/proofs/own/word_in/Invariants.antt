use Rattle.std.proofs.Common.{◌≡◌, bytes_eq, drop}
use Rattle.ada_tree.specs.Tables.{first_value}
use Rattle.tree_write.proofs.own.word_in.Given as goal

abbrev pub invariant-loop-word : goal.invariant-loop-word
invariant-loop-word l = first_value (λ row. row.0) (λ row. bytes_eq row.1.now l.text) (drop l.word-index l.rows) ≡ first_value (λ row. row.0) (λ row. bytes_eq row.1.now l.text) l.rows
