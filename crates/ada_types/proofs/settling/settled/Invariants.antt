use Rattle.std.proofs.Common.{◌≡◌, ◌++◌, drop, length}
use Rattle.ada_types.specs.Declarations.{settled}
use Rattle.ada_types.proofs.settling.settled.Given as goal

-- what is so far, with what is left, is all
abbrev pub invariant-loop-number : goal.invariant-loop-number
invariant-loop-number l = record {
  count : length l.made ≡ l.number;
  made : l.made ++ settled l.full l.waiting l.number (drop l.number l.entry-items) ≡ settled l.full l.waiting 0 l.names;
}
