use Rattle.std.proofs.Common.{◌≡◌, drop}
use Rattle.term_core.specs.Names.{union}
use Rattle.term_core.proofs.naming.add_names.Given as goal

abbrev pub invariant-loop-name : goal.invariant-loop-name
invariant-loop-name l = union l.names (drop l.name-index l.more) ≡ union l.fn.names l.more
