use Rattle.std.proofs.Common.{◌≡◌, drop}
use Rattle.penelope_cli.specs.Bindings.{joined, bound_conclusions}
use Rattle.penelope_cli.specs.Paths.{conjunction}
use Rattle.penelope_cli.proofs.obligations.conclusion.Given as goal

-- the conjunction so far and what is left give the whole
abbrev pub invariant-loop-clause : goal.invariant-loop-clause
invariant-loop-clause l = joined l.goal (bound_conclusions l.bindings (drop l.clause-index l.clauses)) ≡ conjunction (bound_conclusions l.bindings l.clauses)
