use Rattle.std.proofs.Common.{◌≡◌, ◌+◌, ◌^◌, ◌-◌, min, sum, map, take}
use Rattle.term_core.specs.Terms.{size_of}
use Rattle.term_core.proofs.measuring.+size.Given as goal

abbrev pub invariant-loop-part : goal.invariant-loop-part
invariant-loop-part l = l.count ≡ min (1 + sum (map size_of (take l.part-index l.part-items))) (2 ^ 64 - 1)
