use Rattle.std.proofs.Common.{◌≡◌, Some, map, subst, refl, ap, ◌∙◌}
use Rattle.std.specs.Option.{option_map}
use Rattle.std.specs.Prelude.{bytes_eq}
use Rattle.std.specs.Result.{IfOk}
use Rattle.proof_replay.proofs.PassLaws.{labels_find}
use Rattle.proof_replay.specs.Keys.{key_of}
use Rattle.proof_replay.proofs.carrying.take_by_key.Goals as goal

pub returns : goal.returns
returns c = subst (λ l. IfOk c.pass.result (λ t. t.items ≡ l))
    (labels_find _ bytes_eq (λ v. v.items) (λ a b. refl) (λ p. Some p.key) key_of _ _ c.args.proofs.now c.args.new.now c.args.taken.now
    (ap (λ ws. map (option_map (λ v. v.items)) ws) c.deref.ensures.value ∙ c.in_ok-wanted.ensures) c.in_ok-offered_keys.ensures)
    c.pass.ensures
