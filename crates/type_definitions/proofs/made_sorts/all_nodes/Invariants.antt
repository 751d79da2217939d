use Rattle.std.proofs.Common.{◌≡◌, ◌+◌, ◌^◌, ◌-◌, min, sum, map, take}
use Rattle.type_definitions.specs.Definitions.{component_nodes}
use Rattle.type_definitions.proofs.made_sorts.all_nodes.Given as goal

abbrev pub invariant-loop-part : goal.invariant-loop-part
invariant-loop-part l = l.count ≡ min (1 + sum (map (component_nodes l.names) (take l.part-index l.parts))) (2 ^ 64 - 1)
