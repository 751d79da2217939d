use Rattle.proof_replay.proofs.BothPasses.{taken_once}
use Rattle.proof_replay.specs.Carrying.{fits_by_sequent, fits_by_key}
use Rattle.proof_replay.proofs.laws.no_obligation_is_taken_twice.Goals as goal

pub returns : goal.returns
returns c = taken_once fits_by_sequent fits_by_key
