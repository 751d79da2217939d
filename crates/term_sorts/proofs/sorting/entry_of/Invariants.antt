use Rattle.std.proofs.Common.{◌≡◌, drop}
use Rattle.std.specs.Prelude.{find}
use Rattle.term_core.specs.Opers.{same_operator}
use Rattle.term_sorts.proofs.sorting.entry_of.Given as goal

abbrev pub invariant-loop-entry : goal.invariant-loop-entry
invariant-loop-entry l = find (λ entry. same_operator entry.oper l.oper) (drop l.entry-index l.ops) ≡ find (λ entry. same_operator entry.oper l.oper) l.ops
