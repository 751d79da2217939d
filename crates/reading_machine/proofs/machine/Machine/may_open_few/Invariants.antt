use Rattle.std.proofs.Common.{◌≡◌, ◌≤◌, drop}
use Rattle.std.specs.Prelude.{nat_le}
use Rattle.reading_machine.proofs.machine.Machine.may_open_few.Given as goal
use Rattle.reading_table.specs.Limits.{widest}

-- what is left of the stack decides
abbrev pub invariant-loop-depth : goal.invariant-loop-depth
invariant-loop-depth l = record {
  few : l.count ≤ 65;
  rest : nat_le (widest l.count (drop l.depth l.self.stack)) 64 ≡ nat_le (widest l.parentheses l.self.stack) 64;
}
