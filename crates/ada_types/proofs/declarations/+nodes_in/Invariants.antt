use Rattle.std.proofs.Common.{◌≡◌, ◌+◌, ◌^◌, ◌-◌, min, sum, map, take}
use Rattle.ada_types.specs.Declarations.{nodes_in}
use Rattle.ada_types.proofs.declarations.+nodes_in.Given as goal

abbrev pub invariant-loop-kid : goal.invariant-loop-kid
invariant-loop-kid l = l.count ≡ min (1 + sum (map nodes_in (take l.kid-index l.kid-items))) (2 ^ 64 - 1)
