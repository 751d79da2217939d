use Rattle.std.proofs.Common.{◌≡◌, drop}
use Rattle.ada_tree.specs.Nodes.{node_at}
use Rattle.ada_types.proofs.sort_names.reached.Given as goal

-- the rest of the path leads on from here
abbrev pub invariant-loop-number : goal.invariant-loop-number
invariant-loop-number l = node_at (drop l.number-index l.path) l.node ≡ node_at l.path l.doc
