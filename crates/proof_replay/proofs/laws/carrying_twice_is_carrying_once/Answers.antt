use Rattle.proof_replay.proofs.AgainLaws.{same_in_order, in_order_same, by_sequent_in_order, apart_in_order, settled, again_no_orphans}
use Rattle.proof_replay.proofs.laws.carrying_twice_is_carrying_once.Goals as goal

pub returns-clause-exactly : goal.returns-clause-exactly
returns-clause-exactly c proofs new = (in_order_same proofs new, same_in_order proofs new)

pub returns-clause-by_sequent : goal.returns-clause-by_sequent
returns-clause-by_sequent c proofs new all = same_in_order proofs new (by_sequent_in_order proofs new all)

pub returns-clause-apart : goal.returns-clause-apart
returns-clause-apart c proofs new apart = same_in_order proofs new (apart_in_order proofs new apart)

pub returns-clause-settled : goal.returns-clause-settled
returns-clause-settled c = settled

pub returns-clause-no_orphans : goal.returns-clause-no_orphans
returns-clause-no_orphans c = again_no_orphans
