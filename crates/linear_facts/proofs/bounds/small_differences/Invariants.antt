use Rattle.std.proofs.Common.{◌≡◌, drop}
use Rattle.linear_facts.specs.Numbers.{small_differences}
use Rattle.linear_facts.proofs.bounds.small_differences.Given as goal

abbrev pub invariant-loop-i : goal.invariant-loop-i
invariant-loop-i l = small_differences (drop l.i l.left) (drop l.i l.right) (drop l.i l.extras) ≡ small_differences l.left l.right l.extras
