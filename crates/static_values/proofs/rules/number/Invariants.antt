use Rattle.std.proofs.Common.{◌≡◌, ◌^◌, ◌-◌, ◌<◌, min, drop}
use Rattle.static_values.specs.Rules.{number_of}
use Rattle.static_values.proofs.rules.number.Given as goal

abbrev pub invariant-loop-digit : goal.invariant-loop-digit
invariant-loop-digit l = record {
  small : l.value < 2 ^ 64;
  same : min (number_of l.value (drop l.digit-index l.text)) (2 ^ 64 - 1) ≡ min (number_of 0 l.text) (2 ^ 64 - 1);
}
