use Rattle.std.proofs.Common.{◌≡◌, drop, map}
use Rattle.ada_tree.specs.Nodes.{kind_of}
use Rattle.ada_names.specs.Collecting.{entries_in, of_kids}
use Rattle.ada_names.specs.Mirrors.{around_of}
use Rattle.ada_names.proofs.collect.+collect.Given as goal

-- what is left completes the entries
abbrev pub invariant-loop-number : goal.invariant-loop-number
invariant-loop-number l = of_kids (map entries_in (drop l.number l.member-items)) (kind_of l.node) l.home-inside.0.items l.at l.number (around_of l.around) l.table ≡ entries_in l.node l.at (around_of l.around) l.fn.table
