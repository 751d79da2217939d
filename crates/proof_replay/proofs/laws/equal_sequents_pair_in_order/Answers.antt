use Rattle.std.proofs.Common.{◌∙◌, sym}
use Rattle.proof_replay.proofs.SequentPairs.{pairs_taken, taken_pairs}
use Rattle.proof_replay.proofs.laws.equal_sequents_pair_in_order.Goals as goal

pub returns-clause-exactly : goal.returns-clause-exactly
returns-clause-exactly c proofs new i j p o h g e = (taken_pairs proofs new i j p o h g e, pairs_taken proofs new i j p o h g e)

pub returns-clause-first : goal.returns-clause-first
returns-clause-first c proofs new i j p o h g e a b = pairs_taken proofs new i j p o h g e (a ∙ sym b)
