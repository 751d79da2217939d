use Rattle.std.proofs.Common.{◌≡◌, map, take}
use Rattle.proof_replay.specs.Keys.{key_of}
use Rattle.proof_replay.proofs.labels.offered_keys.Given as goal

abbrev pub invariant-loop-obligation : goal.invariant-loop-obligation
invariant-loop-obligation l = map (λ k. k.items) l.offered.items ≡ map key_of (take l.obligation-index l.new)
