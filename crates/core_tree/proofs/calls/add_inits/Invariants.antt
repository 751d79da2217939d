use Rattle.std.proofs.Common.{◌≡◌, drop}
use Rattle.core_tree.specs.Trees.{starts_of}
use Rattle.core_tree.specs.Once.{with_starts}
use Rattle.core_tree.proofs.calls.add_inits.Given as goal

abbrev pub invariant-loop-init : goal.invariant-loop-init
invariant-loop-init l = with_starts l.ids.items (starts_of (drop l.init-index l.inits)) ≡ with_starts l.fn.ids.items (starts_of l.inits)
