use Rattle.std.proofs.Common.{◌≡◌, ◌++◌, drop}
use Rattle.ada_types.specs.SortLists.{prefix_from}
use Rattle.ada_types.proofs.sort_names.prefix.Given as goal

-- what is so far, with what the rest of the path adds, is all
abbrev pub invariant-loop-number : goal.invariant-loop-number
invariant-loop-number l = l.made.items ++ prefix_from (drop l.number-index l.path) l.node ≡ prefix_from l.path l.doc
