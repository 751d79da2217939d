use Rattle.std.proofs.Common.{◌≡◌, ◌++◌, drop}
use Rattle.ada_tree.specs.Nodes.{kids_of}
use Rattle.penelope_cli.specs.Fresh.{texts_of}
use Rattle.penelope_cli.proofs.print.texts.Given as goal

-- the texts so far and those that are left are all
abbrev pub invariant-loop-number : goal.invariant-loop-number
invariant-loop-number l = l.out.items ++ texts_of (drop l.number (kids_of l.doc)) ≡ texts_of (kids_of l.doc)
