use Rattle.std.proofs.Common.{◌≡◌, map, take}
use Rattle.text_read.proofs.fragment.noted_tokens.Given as goal
use Rattle.text_signs.specs.Fragments.{noted_token}

abbrev pub invariant-loop-token : goal.invariant-loop-token
invariant-loop-token l = l.noted ≡ map (noted_token l.source) (take l.token-index l.tokens)
