use Rattle.std.proofs.Common.{◌≡◌, bytes_eq, drop, map}
use Rattle.std.specs.Char.{to_ascii_lowercase}
use Rattle.ada_tree.specs.Tables.{first_value}
use Rattle.reading_machine.proofs.lexeme.rule_named.Given as goal

abbrev pub invariant-loop-rule : goal.invariant-loop-rule
invariant-loop-rule l = first_value (λ row. row.0) (λ row. bytes_eq row.1.now (map to_ascii_lowercase l.name)) (drop l.rule-index l.rows) ≡ first_value (λ row. row.0) (λ row. bytes_eq row.1.now (map to_ascii_lowercase l.name)) l.rows
