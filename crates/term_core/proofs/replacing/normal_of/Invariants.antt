use Rattle.std.proofs.Common.{◌≡◌, take}
use Rattle.term_core.specs.Substitution.{normal_entries}
use Rattle.term_core.proofs.replacing.normal_of.Given as goal

abbrev pub invariant-loop-entry : goal.invariant-loop-entry
invariant-loop-entry l = l.made.items ≡ normal_entries (take l.entry-index l.entries)
