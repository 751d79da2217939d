use Rattle.std.proofs.Common.{◌≡◌}
use Rattle.ada_names.specs.Sees.{in_term_from, is_in_term}
use Rattle.scope_rules.proofs.scope.Scope.is_in_term.Given as goal

-- the nodes so far don't tell
abbrev pub invariant-loop-depth : goal.invariant-loop-depth
invariant-loop-depth l = in_term_from l.self l.place l.depth ≡ is_in_term l.self l.place
