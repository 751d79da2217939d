use Rattle.std.proofs.Common.{◌≡◌, map, take}
use Rattle.std.specs.Option.{option_map}
use Rattle.proof_replay.proofs.labels.laid_sequents.Given as goal

abbrev pub invariant-loop-proof : goal.invariant-loop-proof
invariant-loop-proof l = map (option_map (λ s. s.0.now)) l.wanted.items ≡ map (λ p. p.sequent) (take l.proof-index l.proofs)
