use Rattle.std.proofs.Common.{◌≡◌, length}
use Rattle.ada_names.specs.Sees.{seen_from}
use Rattle.scope_rules.proofs.scope.Scope.directly.Given as goal

-- the regions so far have no visible declaration of the name
abbrev pub invariant-loop-depth : goal.invariant-loop-depth
invariant-loop-depth l = seen_from l.self l.place l.name l.depth ≡ seen_from l.self l.place l.name (length l.place)
