use Rattle.std.proofs.Common.{◌≡◌}
use Rattle.ada_names.specs.Sees.{shown_by_all, uses_from, by_use}
use Rattle.scope_rules.specs.Findings.{found_copied}
use Rattle.scope_rules.proofs.scope.Scope.by_use.Given as goal

-- the clauses of the regions that are left complete what is found
abbrev pub invariant-loop-depth : goal.invariant-loop-depth
invariant-loop-depth l = shown_by_all l.self l.place l.name (found_copied l.found) (uses_from l.self l.place l.depth) ≡ by_use l.self l.place l.name
