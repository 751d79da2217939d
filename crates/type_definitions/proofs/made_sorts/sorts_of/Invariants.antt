use Rattle.std.proofs.Common.{◌≡◌, map, take}
use Rattle.type_definitions.specs.Definitions.{component_sort}
use Rattle.type_definitions.proofs.made_sorts.sorts_of.Given as goal

abbrev pub invariant-loop-part : goal.invariant-loop-part
invariant-loop-part l = l.sorts ≡ map (component_sort l.names) (take l.part-index l.parts)
