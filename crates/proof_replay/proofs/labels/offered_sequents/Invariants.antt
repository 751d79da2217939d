use Rattle.std.proofs.Common.{◌≡◌, map, take}
use Rattle.proof_replay.proofs.labels.offered_sequents.Given as goal

abbrev pub invariant-loop-obligation : goal.invariant-loop-obligation
invariant-loop-obligation l = map (λ s. s.0.now) l.offered.items ≡ map (λ o. o.sequent) (take l.obligation-index l.new)
