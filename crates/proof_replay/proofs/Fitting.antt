-- What the two tests of carrying say.
use Rattle.std.proofs.Common.{◌≡◌, true, false, Option, Some, None, ap}
use Rattle.std.proofs.lemmas.Slice.Eq.{bytes_eq-Decides}
use Rattle.std.specs.Option.{option_map_or}
use Rattle.term_core.specs.declared.obligation.Obligation.{Obligation}
use Rattle.term_core.specs.declared.sequent.Sequent.{Sequent}
use Rattle.proof_replay.specs.Carrying.{is_laid_on, fits_by_key}
use Rattle.proof_replay.specs.Keys.{key_of}
use Rattle.proof_replay.specs.Sequents.{same_sequent, sequent_decides}
use Rattle.proof_replay.specs.declared.carrying.Laid.{Laid}

pub laid_says : (s : Sequent) (p : Laid) → is_laid_on s p ≡ true → p.sequent ≡ Some s
laid_says s p h = by p.sequent h
  where
    by : (q : Option Sequent) → option_map_or (λ t. same_sequent t s) q false ≡ true → q ≡ Some s
    by None e = cc
    by (Some t) e = ap Some ((sequent_decides t s).0 e)

pub says_laid : (s : Sequent) (p : Laid) → p.sequent ≡ Some s → is_laid_on s p ≡ true
says_laid s p h = by p.sequent h
  where
    by : (q : Option Sequent) → q ≡ Some s → option_map_or (λ t. same_sequent t s) q false ≡ true
    by None e = cc
    by (Some t) e = (sequent_decides t s).1 cc

pub key_says : (p : Laid) (o : Obligation) → fits_by_key p o ≡ true → p.key ≡ key_of o
key_says p o = (bytes_eq-Decides p.key (key_of o)).0

pub says_key : (p : Laid) (o : Obligation) → p.key ≡ key_of o → fits_by_key p o ≡ true
says_key p o = (bytes_eq-Decides p.key (key_of o)).1
