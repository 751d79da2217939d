use Rattle.std.proofs.Common.{◌≡◌, Some, ◌∙◌, ap, sym}
use Rattle.proof_replay.proofs.AgainLaws.{all_taken_there, kept_once}
use Rattle.proof_replay.proofs.CarriedLists.{at_carried}
use Rattle.proof_replay.specs.Carrying.{takes}
use Rattle.proof_replay.proofs.laws.carried_keys_are_distinct.Goals as goal

pub returns : goal.returns
returns c proofs new apart i k p q h g e =
    let x = at_carried new (takes proofs new) i p (all_taken_there proofs new) h in
    let y = at_carried new (takes proofs new) k q (all_taken_there proofs new) g in
    let same : x.0 ≡ y.0 = apart x.0 y.0 x.1.0 y.1.0 x.1.1.1.0 y.1.1.1.0 (sym (ap (λ r. r.key) x.1.1.1.1) ∙ (e ∙ ap (λ r. r.key) y.1.1.1.1)) in
    kept_once proofs new i k x.0 x.1.1.0 (y.1.1.0 ∙ ap (λ j. Some (Some j)) (sym same))
