use Rattle.proof_replay.proofs.BothPasses.{first_stays, none_first, no_first, no_second}
use Rattle.proof_replay.proofs.Fitting.{laid_says, says_laid, says_key}
use Rattle.proof_replay.specs.Carrying.{fits_by_sequent, fits_by_key}
use Rattle.proof_replay.proofs.laws.no_proof_is_lost.Goals as goal

pub returns-clause-sequent : goal.returns-clause-sequent
returns-clause-sequent c proofs new i j p o h g s e =
    let r = no_first fits_by_sequent fits_by_key proofs new i j p o h (none_first fits_by_sequent fits_by_key proofs new i p h e) g (says_laid o.sequent p s) in (
      r.0,
      (
        r.1.0,
        (
          r.1.1.0,
          (
            r.1.1.1.0,
            (
              laid_says o.sequent r.1.0 r.1.1.1.1.0,
              first_stays fits_by_sequent fits_by_key proofs new r.0 j r.1.0 r.1.1.1.0 r.1.1.1.1.1,
            ),
          ),
        ),
      ),
    )

pub returns-clause-key : goal.returns-clause-key
returns-clause-key c proofs new i j p o h g s e = let k = no_second fits_by_sequent fits_by_key proofs new i j p o h e g (says_key p o s) in (k.0, k.1.0)
