use Rattle.std.proofs.Common.{◌≡◌, Some, ◌⊎◌, inl, inr, ap, ◌∙◌}
use Rattle.proof_replay.proofs.BothPasses.{InFirst, InSecond, in_either}
use Rattle.proof_replay.proofs.Fitting.{laid_says, key_says}
use Rattle.proof_replay.specs.Carrying.{fits_by_sequent, fits_by_key}
use Rattle.proof_replay.specs.Keys.{key_of}
use Rattle.proof_replay.proofs.laws.what_is_taken_fits.Goals as goal

pub returns : goal.returns
returns c proofs new i j p o h g e = by (in_either fits_by_sequent fits_by_key proofs new i j p h e)
  where
    by : InFirst fits_by_sequent fits_by_key proofs new p i j ⊎ InSecond fits_by_sequent fits_by_key proofs new p i j → (p.sequent ≡ Some o.sequent) ⊎ (p.key ≡ key_of o)
    by (inl a) = let s : a.1.0 ≡ o = (let f = a.1.1.0 in cc) in inl (laid_says a.1.0.sequent p a.1.1.1 ∙ ap (λ q. Some q.sequent) s)
    by (inr a) = let s : a.1.0 ≡ o = (let f = a.1.1.0 in cc) in inr (key_says p a.1.0 a.1.1.1.1 ∙ ap key_of s)
