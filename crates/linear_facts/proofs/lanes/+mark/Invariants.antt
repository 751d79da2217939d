use Rattle.std.proofs.Common.{◌≡◌, map, take}
use Rattle.std.specs.List.{fold}
use Rattle.linear_facts.specs.Lanes.{mixed, mark_of}
use Rattle.linear_facts.proofs.lanes.+mark.Given as goal

abbrev pub invariant-loop-byte : goal.invariant-loop-byte
invariant-loop-byte l = l.mark ≡ fold mixed 4 (take l.byte-index l.byte-items)

abbrev pub invariant-loop-part : goal.invariant-loop-part
invariant-loop-part l = l.whole ≡ fold mixed 5 (map mark_of (take l.part-index l.part-items))
