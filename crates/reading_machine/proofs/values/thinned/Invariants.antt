use Rattle.std.proofs.Common.{◌≡◌, map, reverse}
use Rattle.reading_machine.specs.Bare.{bare, lost_with}
use Rattle.reading_machine.proofs.values.thinned.Given as goal

-- the values so far are bare, and what they lost is counted
abbrev pub invariant-loop-value : goal.invariant-loop-value
invariant-loop-value l = record {
  values : l.thinned ≡ map bare (reverse l.yielded);
  lost : l.lost ≡ lost_with l.initial.lost (reverse l.yielded);
}
