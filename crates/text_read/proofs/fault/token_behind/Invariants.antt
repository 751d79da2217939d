use Rattle.std.proofs.Common.{◌≡◌, drop}
use Rattle.text_read.proofs.fault.token_behind.Given as goal
use Rattle.text_read.specs.Faults.{token_behind}

-- it is among the tokens that are left
abbrev pub invariant-loop-token : goal.invariant-loop-token
invariant-loop-token l = token_behind l.count (drop l.token-index l.tokens) ≡ token_behind l.fn.count l.tokens
