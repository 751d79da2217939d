use Rattle.std.proofs.Common.{◌≡◌, ◌++◌, drop, length}
use Rattle.std.specs.Option.{option_map}
use Rattle.linear_facts.specs.Numbers.{scaled_list}
use Rattle.linear_facts.proofs.bounds.scaled_list.Given as goal

abbrev pub invariant-loop-x : goal.invariant-loop-x
invariant-loop-x l = record {
  number : length l.numbers.items ≡ l.x-index;
  all : option_map (λ zs. l.numbers.items ++ zs) (scaled_list l.number (drop l.x-index l.list)) ≡ scaled_list l.number l.list;
}
