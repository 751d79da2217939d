use Rattle.std.proofs.Common.{◌≡◌, fold, take}
use Rattle.proof_replay.specs.Digests.{mixed}
use Rattle.proof_replay.proofs.digest.mixed_text.Given as goal

abbrev pub invariant-loop-byte : goal.invariant-loop-byte
invariant-loop-byte l = l.digest ≡ fold mixed l.fn.digest (take l.byte-index l.text)
