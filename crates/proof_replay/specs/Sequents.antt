-- Whether two sequents are the same, as they are written: variables with their labels and sorts, hypotheses and goal.
use Rattle.std.proofs.Common.{ap}
use Rattle.std.specs.Bool.{Decides}
use Rattle.std.specs.Cmp.{IsEquivalence, IsPartialEquivalence, partial_equiv_from_equiv}
use Rattle.std.specs.Prelude.{◌≡◌, Bool, true}
use Rattle.term_core.specs.contracts.sequent.Sequent as sequent
use Rattle.term_core.specs.declared.sequent.Sequent.{Sequent}
use Rattle.proof_replay.specs.Digests.{digest_of}
use Rattle.base_kit.specs.Sameness.{same, same_decides, same_is_equality}

abbrev pub same_sequent : Sequent → Sequent → Bool
same_sequent = same sequent.the_row.coded

-- it holds exactly of equal ones, and these have equal digests
pub sequent_decides : (s t : Sequent) → Decides (same_sequent s t) (s ≡ t)
sequent_decides = same_decides sequent.the_row.coded

pub sequent_equality : IsEquivalence same_sequent
sequent_equality = same_is_equality sequent.the_row.coded

pub sequent_per : IsPartialEquivalence same_sequent
sequent_per = partial_equiv_from_equiv sequent_equality

pub equal_digests : (s t : Sequent) → same_sequent s t ≡ true → digest_of s ≡ digest_of t
equal_digests s t e = ap digest_of ((sequent_decides s t).0 e)
