use Rattle.std.proofs.Common.{◌≡◌, ℕ, take, nat_eq}
use Rattle.std.specs.HashSet as bag
use Rattle.proof_replay.specs.Carrying.{is_taken}
use Rattle.proof_replay.proofs.passing.numbers.Given as goal

abbrev pub invariant-loop-take : goal.invariant-loop-take
invariant-loop-take l = (j : ℕ) → bag.contains nat_eq l.numbers j ≡ is_taken (take l.take-index l.taken) j
