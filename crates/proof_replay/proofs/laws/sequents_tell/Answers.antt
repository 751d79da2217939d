use Rattle.proof_replay.specs.Sequents.{sequent_decides}
use Rattle.proof_replay.proofs.laws.sequents_tell.Goals as goal

pub returns : goal.returns
returns c = sequent_decides
