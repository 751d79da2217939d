use Rattle.std.proofs.Common.{◌≡◌, take}
use Rattle.term_core.proofs.term.+copy.Given as goal

abbrev pub invariant-copy_operands-loop-term : goal.invariant-copy_operands-loop-term
invariant-copy_operands-loop-term l = l.terms ≡ take l.term-index l.term-items
