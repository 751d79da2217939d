use Rattle.std.proofs.Common.{◌≡◌, map, take, Some}
use Rattle.std.specs.Option.{option_map}
use Rattle.proof_replay.proofs.labels.laid_keys.Given as goal

abbrev pub invariant-loop-proof : goal.invariant-loop-proof
invariant-loop-proof l = map (option_map (λ k. k.items)) l.wanted.items ≡ map (λ p. Some p.key) (take l.proof-index l.proofs)
