use Rattle.std.proofs.Common.{◌≡◌, take, map}
use Rattle.penelope_cli.specs.Paths.{variable_of}
use Rattle.penelope_cli.proofs.obligations.variables.Given as goal

-- the names so far are variables
abbrev pub invariant-loop-name : goal.invariant-loop-name
invariant-loop-name l = l.vars.items ≡ map variable_of (take l.name-index l.names)
