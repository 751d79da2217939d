use Rattle.std.proofs.Common.{◌≡◌, [], ◌∷◌, length, true, false, ap, sym, ◌∙◌}
use Rattle.proof_replay.proofs.QueueLaws.{one_before, at_the_end, queued_as, none_queued_at_first}
use Rattle.proof_replay.specs.Carrying.{is_taken}
use Rattle.proof_replay.specs.Queues.{left_from}
use Rattle.proof_replay.proofs.passing.queues.Goals as goal

pub loop-label-init : goal.loop-label-init
loop-label-init g c =
    let eq = g.K.PartialEq.eq in
    let labels = c.args.offered.items in
    record {
      front = (at_the_end labels).0;
      queued = λ t h. queued_as eq c.new-queues.result [] (left_from (length labels) t labels) ((at_the_end labels).1 t)
          (none_queued_at_first eq c.new-queues.result c.new-queues.ensures.empty);
    }

pub loop-label-preserved-then-contains : goal.loop-label-preserved-then-contains
loop-label-preserved-then-contains g c =
    let labels = c.args.offered.items in
    let whole = c.loop-label.rest.items in
    let rest = c.pop.new.self.items in
    let n : c.len.result ≡ length rest = c.len.ensures ∙ c.pop.new.self.ok.0 in
    let next = one_before whole rest c.in-Some.label labels c.in-Some.ensures.items c.loop-label.invariant.front in
    record {
      front = next.0;
      queued = λ t h.
          let taken : is_taken t (length rest) ≡ true = ap (is_taken t) (sym n) ∙ (sym (h c.len.result) ∙ (sym c.contains.ensures ∙ c.if-contains.true)) in
          queued_as g.K.PartialEq.eq c.loop-label.queues (left_from (length whole) t labels) (left_from (length rest) t labels) (next.1 t true taken) (c.loop-label.invariant.queued t h);
    }

pub loop-label-preserved : goal.loop-label-preserved
loop-label-preserved g c =
    let labels = c.args.offered.items in
    let whole = c.loop-label.rest.items in
    let rest = c.pop.new.self.items in
    let n : c.len.result ≡ length rest = c.len.ensures ∙ c.pop.new.self.ok.0 in
    let next = one_before whole rest c.in-Some.label labels c.in-Some.ensures.items c.loop-label.invariant.front in
    record {
      front = next.0;
      queued = λ t h.
          let left : is_taken t (length rest) ≡ false = ap (is_taken t) (sym n) ∙ (sym (h c.len.result) ∙ (sym c.contains.ensures ∙ c.if-contains.false)) in
          let after = left_from (length whole) t labels in
          queued_as g.K.PartialEq.eq c.add.new.queues ((c.in-Some.label, c.len.result) ∷ after) (left_from (length rest) t labels)
          (next.1 t false left ∙ ap (λ m. (c.in-Some.label, m) ∷ after) (sym n)) (c.in_ok-add.ensures after (c.loop-label.invariant.queued t h));
    }
