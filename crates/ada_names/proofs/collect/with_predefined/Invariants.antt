use Rattle.std.proofs.Common.{◌≡◌, drop}
use Rattle.ada_names.specs.Predefined.{with_predefined}
use Rattle.ada_names.proofs.collect.with_predefined.Given as goal

-- the rows that are left complete the entries
abbrev pub invariant-loop-name : goal.invariant-loop-name
invariant-loop-name l = with_predefined (λ row. row.0.now) (λ row. row.1) (drop l.name-index l.rows) l.table ≡ with_predefined (λ row. row.0.now) (λ row. row.1) l.rows l.fn.table
