use Rattle.std.proofs.Common.{◌≡◌, drop}
use Rattle.std.specs.Prelude.{filter_map, slice_get}
use Rattle.ada_names.specs.Entries.{uses_in}
use Rattle.ada_names.specs.Sees.{shown_by_all}
use Rattle.scope_rules.specs.Findings.{found_copied}
use Rattle.scope_rules.proofs.scope.Scope.shown_in.Given as goal

-- the clauses that are left complete what is found
abbrev pub invariant-loop-number : goal.invariant-loop-number
invariant-loop-number l = shown_by_all l.self l.place l.name (found_copied l.found) (filter_map (slice_get l.self) (drop l.number-index l.number-items)) ≡ shown_by_all l.self l.place l.name (found_copied l.before) (uses_in l.self l.region)
