use Rattle.std.proofs.Common.{◌≡◌, drop}
use Rattle.ada_types.specs.Declarations.{ids_faults, declared_ids}
use Rattle.ada_types.proofs.declarations.declare_ids.Given as goal

-- the names so far have their numbers
abbrev pub invariant-loop-place : goal.invariant-loop-place
invariant-loop-place g l = record {
  faults : ids_faults (g.N.Lookup.sight l.names) l.after (drop l.place l.ids) ≡ ids_faults (g.N.Lookup.sight l.names) l.after l.ids;
  made : declared_ids (g.N.Lookup.sight l.names) l.after l.what l.place l.declared (drop l.place l.ids)
      ≡ declared_ids (g.N.Lookup.sight l.names) l.after l.what 0 l.fn.declared l.ids;
}
