use Rattle.std.proofs.Common.{refl, ap, ◌∙◌}
use Rattle.std.specs.Iterator.Adapters.{zip_first, zip_second}
use Rattle.std.specs.Slice.Iter.{iter_rest}
use Rattle.proof_replay.proofs.QueueLaws.{passed_turn, passed_end}
use Rattle.proof_replay.specs.Carrying.{untaken, pass}
use Rattle.proof_replay.specs.Queues.{fits_label, left_by}
use Rattle.proof_replay.proofs.passing.pass.Goals as goal

pub loop-label-init : goal.loop-label-init
loop-label-init g c =
    let left = untaken c.args.taken.now c.args.offered.items in
    let made = c.into_iter-label-iterator.ensures.into_iter_gives in
    let ws = ap (λ z. iter_rest (zip_first z)) made ∙ (ap iter_rest c.zip-label-items.ensures.first ∙ c.iter.ensures.rest) in
    let bs = ap (λ z. iter_rest (zip_second z)) made ∙ (ap iter_rest c.zip-label-items.ensures.second ∙ c.iter-2.ensures.rest) in
    (left, (c.in_ok-left.ensures c.args.taken.now c.in_ok-numbers.ensures, rw (c.new-takes.ensures.items, ws, bs) refl))

pub loop-label-preserved : goal.loop-label-preserved
loop-label-preserved g c =
    let eq = g.K.PartialEq.eq in
    let all = pass (fits_label eq) c.args.wanted.now c.args.offered.items c.args.taken.now in
    let left = c.loop-label.invariant.0 in
    let step = c.next-in-loop-label.ensures left c.loop-label.invariant.1.0 in (
      left_by eq c.in-Some.label.now c.in-Some.before.now left,
      (
        step.1,
        passed_turn eq c.loop-label.takes.items c.push.new.self.items all c.loop-label.label-iterator c.next.new.self c.next.result (c.in-Some.label, c.in-Some.before)
            left c.next-in-loop-label.result c.in-Some.is c.next.ensures.steps step.0 c.in_ok-push.ensures.items c.loop-label.invariant.1.1,
      ),
    )

pub returns : goal.returns
returns g c =
    let eq = g.K.PartialEq.eq in
    let all = pass (fits_label eq) c.args.wanted.now c.args.offered.items c.args.taken.now in
    passed_end eq c.loop-label.takes.items all c.loop-label.label-iterator c.next.new.self c.next.result c.loop-label.invariant.0 c.in-None.is c.next.ensures.steps c.loop-label.invariant.1.1
