use Rattle.std.proofs.Common.{◌≡◌, take}
use Rattle.proof_replay.specs.Digests.{digest_of_terms}
use Rattle.proof_replay.proofs.digest.digest.Given as goal

abbrev pub invariant-loop-term : goal.invariant-loop-term
invariant-loop-term l = l.digest ≡ digest_of_terms 7 (take l.term-index l.term-items)
