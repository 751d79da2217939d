use Rattle.std.proofs.Common.{◌≡◌, bytes_eq, drop}
use Rattle.ada_tree.specs.Tables.{first_value}
use Rattle.static_values.proofs.attribute.written_in.Given as goal

abbrev pub invariant-loop-attribute : goal.invariant-loop-attribute
invariant-loop-attribute l = first_value (λ row. row.0) (λ row. bytes_eq row.1.now l.text) (drop l.attribute-index l.rows)
    ≡ first_value (λ row. row.0) (λ row. bytes_eq row.1.now l.text) l.rows
