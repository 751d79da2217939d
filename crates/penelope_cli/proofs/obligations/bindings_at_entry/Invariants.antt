use Rattle.std.proofs.Common.{◌≡◌, take}
use Rattle.penelope_cli.specs.Bindings.{entry_bindings}
use Rattle.penelope_cli.proofs.obligations.bindings_at_entry.Given as goal

-- the names so far are bound
abbrev pub invariant-loop-name : goal.invariant-loop-name
invariant-loop-name l = l.bindings.items ≡ entry_bindings (take l.name-index l.names)
