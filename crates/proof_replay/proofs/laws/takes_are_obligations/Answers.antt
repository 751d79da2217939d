use Rattle.std.proofs.lemmas.Option.{slice_get_within}
use Rattle.proof_replay.proofs.BothPasses.{both_long, taken_below}
use Rattle.proof_replay.specs.Carrying.{fits_by_sequent, fits_by_key}
use Rattle.proof_replay.proofs.laws.takes_are_obligations.Goals as goal

pub returns-clause-each : goal.returns-clause-each
returns-clause-each c = both_long fits_by_sequent fits_by_key

pub returns-clause-obligation : goal.returns-clause-obligation
returns-clause-obligation c proofs new i j e = let o = taken_below fits_by_sequent fits_by_key proofs new i j e in slice_get_within new j o.0 o.1
