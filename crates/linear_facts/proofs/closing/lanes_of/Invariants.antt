use Rattle.std.proofs.Common.{◌≡◌, map, take}
use Rattle.std.specs.List.{All}
use Rattle.linear_facts.specs.Lanes.{IsFresh}
use Rattle.linear_facts.proofs.closing.lanes_of.Given as goal

abbrev pub invariant-loop-part : goal.invariant-loop-part
invariant-loop-part l = record {
  parts : map (λ lane. lane.part) l.lanes.items ≡ take l.part-index l.parts;
  fresh : All IsFresh l.lanes.items;
}
