use Rattle.std.proofs.Common.{◌≡◌, drop}
use Rattle.ada_tree.specs.Nodes.{kids_of}
use Rattle.static_values.specs.Entities.{world}
use Rattle.type_definitions.specs.Definitions.{components_faults, more_components, all_of}
use Rattle.type_definitions.proofs.definitions.components.Given as goal

-- the members so far have no faults, and their components are kept
abbrev pub invariant-loop-number : goal.invariant-loop-number
invariant-loop-number g l = record {
  faults : components_faults (world (g.N.Lookup.sight l.names) l.entities) l.at l.number (drop l.number l.member-items)
      ≡ components_faults (world (g.N.Lookup.sight l.names) l.entities) l.at 0 (kids_of l.node);
  made : more_components (world (g.N.Lookup.sight l.names) l.entities) l.at l.number l.components (drop l.number l.member-items)
      ≡ all_of (world (g.N.Lookup.sight l.names) l.entities) l.at (kids_of l.node);
}
