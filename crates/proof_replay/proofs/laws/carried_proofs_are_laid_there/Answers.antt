use Rattle.proof_replay.proofs.ReadAnew.{laid_there}
use Rattle.proof_replay.proofs.laws.carried_proofs_are_laid_there.Goals as goal

pub returns : goal.returns
returns c = laid_there
