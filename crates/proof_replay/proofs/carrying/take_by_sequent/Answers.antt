use Rattle.std.proofs.Common.{◌≡◌, map, subst, refl, ap, ◌∙◌}
use Rattle.std.specs.Option.{option_map}
use Rattle.std.specs.Result.{IfOk}
use Rattle.proof_replay.proofs.PassLaws.{labels_find}
use Rattle.proof_replay.specs.Sequents.{same_sequent}
use Rattle.proof_replay.proofs.carrying.take_by_sequent.Goals as goal

pub returns : goal.returns
returns c = subst (λ l. IfOk c.pass.result (λ t. t.items ≡ l))
    (labels_find _ same_sequent (λ s. s.0.now) (λ a b. refl) (λ p. p.sequent) (λ o. o.sequent) _ _ c.args.proofs.now c.args.new.now c.args.taken.now
    (ap (λ ws. map (option_map (λ s. s.0.now)) ws) c.deref.ensures.value ∙ c.in_ok-wanted.ensures) c.in_ok-offered_sequents.ensures)
    c.pass.ensures
