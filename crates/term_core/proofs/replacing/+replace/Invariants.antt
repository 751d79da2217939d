use Rattle.std.proofs.Common.{◌≡◌, take}
use Rattle.term_core.specs.Substitution.{sub_of}
use Rattle.term_core.proofs.PutLaws.{put_each}
use Rattle.term_core.proofs.replacing.+replace.Given as goal

abbrev pub invariant-loop-part : goal.invariant-loop-part
invariant-loop-part l = (l.entries.items ≡ l.initial.entries.items) × (l.made ≡ put_each (sub_of l.initial.entries.items) (take l.part-index l.part-items))
