use Rattle.std.proofs.Common.{◌≡◌, ◌^◌, ◌-◌, min, map, take}
use Rattle.term_core.specs.Terms.{largest}
use Rattle.type_definitions.specs.Sizes.{depth_of}
use Rattle.type_definitions.proofs.sizes.+depth.Given as goal

abbrev pub invariant-loop-part : goal.invariant-loop-part
invariant-loop-part l = l.most ≡ min (largest (map depth_of (take l.part-index l.part-items))) (2 ^ 64 - 1)
