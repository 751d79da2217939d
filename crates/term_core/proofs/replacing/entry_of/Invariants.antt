use Rattle.std.proofs.Common.{◌≡◌, take}
use Rattle.term_core.specs.Substitution.{sub_of}
use Rattle.term_core.proofs.replacing.entry_of.Given as goal

abbrev pub invariant-loop-i : goal.invariant-loop-i
invariant-loop-i l = sub_of (take l.i l.entries) l.name ≡ sub_of l.entries l.name
