use Rattle.std.proofs.Common.{◌≡◌, ◌+◌, ◌^◌, ◌-◌, min, sum, map, take}
use Rattle.type_definitions.specs.Sizes.{nodes_of}
use Rattle.type_definitions.proofs.sizes.+nodes.Given as goal

abbrev pub invariant-loop-part : goal.invariant-loop-part
invariant-loop-part l = l.count ≡ min (1 + sum (map nodes_of (take l.part-index l.part-items))) (2 ^ 64 - 1)
