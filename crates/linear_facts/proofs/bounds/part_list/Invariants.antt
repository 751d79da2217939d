use Rattle.std.proofs.Common.{◌≡◌, map, take}
use Rattle.linear_facts.specs.Views.{part_behind}
use Rattle.linear_facts.specs.Lanes.{seen}
use Rattle.linear_facts.proofs.bounds.part_list.Given as goal

abbrev pub invariant-loop-lane : goal.invariant-loop-lane
invariant-loop-lane l = l.numbers.items ≡ map (λ lane. seen lane (part_behind l.part) l.number) (take l.lane-index l.lanes)
