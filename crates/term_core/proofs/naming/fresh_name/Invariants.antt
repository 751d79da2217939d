use Rattle.std.proofs.Common.{◌≡◌, ◌-◌, length}
use Rattle.term_core.specs.Names.{apart_from, fresh}
use Rattle.term_core.proofs.naming.fresh_name.Given as goal

abbrev pub invariant-loop : goal.invariant-loop
invariant-loop l = apart_from (length l.taken - l.counter) l.taken l.made ≡ fresh l.taken l.name
