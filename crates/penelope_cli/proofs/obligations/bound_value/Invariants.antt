use Rattle.std.proofs.Common.{◌≡◌, drop}
use Rattle.penelope_cli.specs.Bindings.{bound_value}
use Rattle.penelope_cli.proofs.obligations.bound_value.Given as goal

-- what is left has the value
abbrev pub invariant-loop-binding : goal.invariant-loop-binding
invariant-loop-binding l = bound_value (drop l.binding-index l.bindings) l.name ≡ bound_value l.bindings l.name
