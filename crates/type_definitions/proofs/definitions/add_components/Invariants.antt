use Rattle.std.proofs.Common.{◌≡◌, ◌++◌, drop}
use Rattle.type_definitions.specs.Definitions.{components_of}
use Rattle.type_definitions.proofs.definitions.add_components.Given as goal

-- what is so far, with what is left, is all
abbrev pub invariant-loop-id : goal.invariant-loop-id
invariant-loop-id l = l.components ++ components_of l.subtype (drop l.id-index l.id-items)
    ≡ l.fn.components ++ components_of l.subtype l.id-items
