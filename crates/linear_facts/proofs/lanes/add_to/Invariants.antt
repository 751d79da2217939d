use Rattle.std.proofs.Common.{◌≡◌, ◌++◌, map, take, drop}
use Rattle.linear_facts.specs.Views.{part_behind}
use Rattle.linear_facts.specs.Lanes.{seen, with_more}
use Rattle.linear_facts.proofs.lanes.add_to.Given as goal

abbrev pub invariant-loop-lane : goal.invariant-loop-lane
invariant-loop-lane l = l.lanes ≡ map (λ lane. with_more (seen lane (part_behind l.part) l.number) lane) (take l.lane-index l.initial.lanes) ++ drop l.lane-index l.initial.lanes
