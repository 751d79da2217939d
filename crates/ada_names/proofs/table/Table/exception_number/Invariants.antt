use Rattle.std.proofs.Common.{◌≡◌, ◌≤◌, drop}
use Rattle.ada_names.specs.Entries.{exception_number}
use Rattle.ada_names.proofs.Exceptions.{counted}
use Rattle.ada_names.proofs.table.Table.exception_number.Given as goal

-- the exceptions that are left complete the count, and there are no more of them than entries
abbrev pub invariant-loop-entry : goal.invariant-loop-entry
invariant-loop-entry l = (counted (drop l.entry-index l.entry-items) l.id l.number ≡ exception_number l.entry-items l.id) × (l.number ≤ l.entry-index)
