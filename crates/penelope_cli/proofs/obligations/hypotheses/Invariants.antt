use Rattle.std.proofs.Common.{◌≡◌, ◌++◌, drop}
use Rattle.penelope_cli.specs.Paths.{hypotheses_of}
use Rattle.penelope_cli.proofs.obligations.hypotheses.Given as goal

-- the terms so far, and those of what is left, are all
abbrev pub invariant-loop-clause : goal.invariant-loop-clause
invariant-loop-clause l = l.terms ++ hypotheses_of (drop l.clause-index l.clauses) ≡ hypotheses_of l.clauses
