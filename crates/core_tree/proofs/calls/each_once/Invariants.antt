use Rattle.std.proofs.Common.{◌≡◌, ◌++◌, map, drop}
use Rattle.std.specs.Prelude.{None}
use Rattle.core_tree.specs.Once.{once}
use Rattle.core_tree.proofs.calls.each_once.Given as goal

abbrev pub invariant-loop-id : goal.invariant-loop-id
invariant-loop-id l = map (λ id. id.0) l.made.items ++ once l.last (drop l.id-index l.ids) ≡ once None l.ids
