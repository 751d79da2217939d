use Rattle.std.proofs.Common.{◌≡◌, map, take}
use Rattle.proof_replay.specs.Digests.{mixed, mixed_all, digest_of_term}
use Rattle.proof_replay.proofs.digest.+digest_of_term.Given as goal

abbrev pub invariant-loop-term : goal.invariant-loop-term
invariant-loop-term l = l.digest ≡ mixed_all (mixed (mixed 4 l.kind) l.held) (map digest_of_term (take l.term-index l.term-items))
