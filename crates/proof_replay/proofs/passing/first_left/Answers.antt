use Rattle.std.proofs.Common.{rules, arith}
use Rattle.std.proofs.lemmas.List.{nil_from_length}
use Rattle.proof_replay.proofs.QueueLaws.{queued_less, stays_queued}
use Rattle.proof_replay.proofs.passing.first_left.Goals as goal

pub returns-in_err-get_mut : goal.returns-in_err-get_mut
returns-in_err-get_mut g c l =
    stays_queued g.met.K.Eq.laws c.get_mut.follows.lender-at-none c.args.left.now c.args.label.now c.from_residual.result l
    c.get_mut.follows.holds-at-none c.in_err-get_mut.ensures.value c.from_residual.ensures

pub returns : goal.returns
returns g c l =
    queued_less g.met.K.Eq.laws c.args.left.now (c.get_mut.follows.lender c.pop.new.self) c.args.label.now c.in_ok-get_mut.field-0.now c.pop.new.self c.pop.result l
    c.in_ok-get_mut.ensures.value ((c.get_mut.follows.holds c.pop.new.self).3 (search rules)) c.pop.ensures.items
    (λ e. nil_from_length _ (let n = rw e at c.pop.ensures.cases in omega (arith, n.0, c.in_ok-get_mut.field-0.now.ok)))
