use Rattle.proof_replay.proofs.KeyLaws.{keys_tell}
use Rattle.proof_replay.proofs.laws.keys_tell_obligations.Goals as goal

pub returns : goal.returns
returns c' = keys_tell
