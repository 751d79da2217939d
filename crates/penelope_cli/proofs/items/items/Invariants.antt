use Rattle.std.proofs.Common.{◌≡◌, ◌++◌, drop, map}
use Rattle.penelope_cli.specs.Items.{items_in}
use Rattle.penelope_cli.specs.Judging.{placed}
use Rattle.penelope_cli.proofs.items.items.Given as goal

-- the items so far and those that are left are all
abbrev pub invariant-loop-number : goal.invariant-loop-number
invariant-loop-number l = map placed l.items.items ++ items_in l.number (drop l.number l.files) ≡ items_in 0 l.files
