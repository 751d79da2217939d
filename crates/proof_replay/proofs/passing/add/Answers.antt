use Rattle.std.proofs.Common.{rules}
use Rattle.proof_replay.proofs.QueueLaws.{queued_next, queued_first}
use Rattle.proof_replay.proofs.passing.add.Goals as goal

pub returns-in_ok-push-in-Some : goal.returns-in_ok-push-in-Some
returns-in_ok-push-in-Some g c l =
    queued_next g.met.K.Eq.laws c.args.queues.now (c.get_mut.follows.lender c.push.new.self) c.args.label c.args.number c.in-Some.queue.now c.push.new.self l
    c.in-Some.ensures.value ((c.get_mut.follows.holds c.push.new.self).3 (search rules)) c.in_ok-push-in-Some.ensures.items

pub returns-in_ok-insert-in-None : goal.returns-in_ok-insert-in-None
returns-in_ok-insert-in-None g c l =
    queued_first g.met.K.Eq.laws c.get_mut.follows.lender-at-none c.insert.new.self c.args.queues.now c.args.label c.args.number c.in_ok-queue-in-None.queue l
    c.get_mut.follows.holds-at-none c.in-None.ensures.value c.in_ok-insert-in-None.ensures.updates c.in_ok-queue-in-None.ensures.items
