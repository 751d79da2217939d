use Rattle.std.proofs.Common.{◌≡◌, ◌&&◌, bytes_eq, drop}
use Rattle.ada_tree.specs.Kinds.{is_kind}
use Rattle.ada_tree.specs.Tables.{first_value}
use Rattle.ada_tree.proofs.operator.entry_in.Given as goal

abbrev pub invariant-loop-entry : goal.invariant-loop-entry
invariant-loop-entry l = first_value (λ row. row.0) (λ row. is_kind row.0.kind l.kind && bytes_eq row.1.now l.text) (drop l.entry-index l.rows)
    ≡ first_value (λ row. row.0) (λ row. is_kind row.0.kind l.kind && bytes_eq row.1.now l.text) l.rows
