use Rattle.std.proofs.Common.{◌≡◌, ◌++◌}
use Rattle.ada_types.specs.Declarations.{waiting}
use Rattle.ada_types.proofs.settling.waiting.Given as goal

-- what is so far, with what is left, is all
abbrev pub invariant-loop-entity : goal.invariant-loop-entity
invariant-loop-entity l = l.made.items ++ waiting l.id l.entity-iterator ≡ waiting l.id l.entities
