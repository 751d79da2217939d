use Rattle.std.proofs.Common.{◌≡◌, ◌≤◌, drop}
use Rattle.reading_machine.specs.Bare.{counts_with, greatest_count}
use Rattle.reading_machine.proofs.values.Values.counts_with.Given as goal

-- what is counted, with what is still to be counted
abbrev pub invariant-loop-depth : goal.invariant-loop-depth
invariant-loop-depth l = record {
  whole : counts_with l.counts (drop l.depth l.self.values) ≡ counts_with l.initial.counts l.self.values;
  tree : l.counts.tree ≤ greatest_count;
  proof : l.counts.proof ≤ greatest_count;
}
