use Rattle.std.proofs.Common.{◌≡◌, ◌^◌, ◌-◌, min, map, take}
use Rattle.term_core.specs.Terms.{largest}
use Rattle.type_definitions.specs.Definitions.{component_depth}
use Rattle.type_definitions.proofs.made_sorts.deepest.Given as goal

abbrev pub invariant-loop-part : goal.invariant-loop-part
invariant-loop-part l = l.most ≡ min (largest (map (component_depth l.names) (take l.part-index l.parts))) (2 ^ 64 - 1)
