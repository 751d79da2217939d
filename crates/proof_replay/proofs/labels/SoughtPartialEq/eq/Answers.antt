use Rattle.std.proofs.lemmas.Bool.Decides.{same_from_decides}
use Rattle.proof_replay.specs.Sequents.{sequent_decides}
use Rattle.proof_replay.proofs.labels.SoughtPartialEq.eq.Goals as goal

pub returns : goal.returns
returns c = same_from_decides _ _ c.same_sequent.ensures (sequent_decides c.args.self.now.0.now c.args.other.now.0.now)
