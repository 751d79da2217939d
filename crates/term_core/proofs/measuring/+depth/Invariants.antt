use Rattle.std.proofs.Common.{◌≡◌, ◌^◌, ◌-◌, min, map, take}
use Rattle.term_core.specs.Terms.{depth_of, largest}
use Rattle.term_core.proofs.measuring.+depth.Given as goal

abbrev pub invariant-loop-part : goal.invariant-loop-part
invariant-loop-part l = l.most ≡ min (largest (map depth_of (take l.part-index l.part-items))) (2 ^ 64 - 1)
