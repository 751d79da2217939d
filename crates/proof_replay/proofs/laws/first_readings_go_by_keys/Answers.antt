use Rattle.proof_replay.proofs.ReadAnew.{first_takes, takes_first}
use Rattle.proof_replay.proofs.laws.first_readings_go_by_keys.Goals as goal

pub returns : goal.returns
returns c proofs new apart i j p o h g e = (takes_first proofs new apart i j p o h g e, first_takes proofs new apart i j p o h g e)
