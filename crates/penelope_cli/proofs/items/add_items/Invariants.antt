use Rattle.std.proofs.Common.{◌≡◌, ◌++◌, drop, map}
use Rattle.penelope_cli.specs.Items.{items_from}
use Rattle.penelope_cli.specs.Judging.{placed}
use Rattle.penelope_cli.proofs.items.add_items.Given as goal

-- the items so far and those that are left are all
abbrev pub invariant-loop-number : goal.invariant-loop-number
invariant-loop-number l = map placed l.items.items ++ items_from l.file l.number (drop l.number l.nodes) ≡ map placed l.fn.items.items ++ items_from l.file 0 l.nodes
