use Rattle.std.proofs.Common.{◌≡◌, bytes_eq, drop}
use Rattle.ada_tree.specs.Tables.{first_value}
use Rattle.ada_tree.proofs.rule.rule_in.Given as goal

abbrev pub invariant-loop-rule : goal.invariant-loop-rule
invariant-loop-rule l = first_value (λ row. row.0) (λ row. bytes_eq row.1.now l.text) (drop l.rule-index l.rows) ≡ first_value (λ row. row.0) (λ row. bytes_eq row.1.now l.text) l.rows
