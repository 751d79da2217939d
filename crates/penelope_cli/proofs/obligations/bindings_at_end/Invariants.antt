use Rattle.std.proofs.Common.{◌≡◌, drop}
use Rattle.penelope_cli.specs.Bindings.{after_statements, entry_bindings}
use Rattle.penelope_cli.proofs.obligations.bindings_at_end.Given as goal

-- what is left leads to the store at the end
abbrev pub invariant-loop-statement : goal.invariant-loop-statement
invariant-loop-statement l = after_statements (drop l.statement-index l.statements) l.bindings.items ≡ after_statements l.statements (entry_bindings l.names)
