use Rattle.std.proofs.Common.{◌≡◌, drop}
use Rattle.ada_names.specs.Repeats.{place_of}
use Rattle.ada_names.proofs.table.Table.place_of.Given as goal

-- the first declaration of the number is the first among the entries that are left
abbrev pub invariant-loop-entry : goal.invariant-loop-entry
invariant-loop-entry l = place_of (drop l.entry-index l.entry-items) l.id ≡ place_of l.entry-items l.id
