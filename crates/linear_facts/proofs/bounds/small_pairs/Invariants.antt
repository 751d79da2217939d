use Rattle.std.proofs.Common.{◌≡◌, ◌++◌, drop, length}
use Rattle.std.specs.Option.{option_map}
use Rattle.linear_facts.specs.Numbers.{plus_or_minus, small_pairs}
use Rattle.linear_facts.proofs.bounds.small_pairs.Given as goal

-- the numbers so far, and those of what is left
abbrev pub invariant-loop-i : goal.invariant-loop-i
invariant-loop-i l = record {
  number : length l.numbers.items ≡ l.i;
  all : option_map (λ zs. l.numbers.items ++ zs) (small_pairs (plus_or_minus l.minus) (drop l.i l.a) (drop l.i l.b)) ≡ small_pairs (plus_or_minus l.minus) l.a l.b;
}
