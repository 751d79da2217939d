use Rattle.proof_replay.proofs.QueueLaws.{none_found}
use Rattle.proof_replay.proofs.passing.next.Goals as goal

pub returns-in-None-Some : goal.returns-in-None-Some
returns-in-None-Some g c = λ l h. rw (c.in-None-Some.is-0, c.in-None-Some.is-1) (c.first_left.ensures l h)

pub returns-in-None-None : goal.returns-in-None-None
returns-in-None-None g c = λ l h. rw (c.in-None-None.is-0, c.in-None-None.is-1) ((none_found l).0, λ q. rw (← (none_found l).1) (h q))
