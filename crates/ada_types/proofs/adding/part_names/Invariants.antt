use Rattle.std.proofs.Common.{◌≡◌, map, take}
use Rattle.ada_types.proofs.adding.part_names.Given as goal

abbrev pub invariant-loop-component : goal.invariant-loop-component
invariant-loop-component l = l.names ≡ map (λ c. c.name) (take l.component-index l.component-items)
