use Rattle.name_laws.proofs.Passing.{found_passed}
use Rattle.name_laws.proofs.laws.renaming_what_a_name_passes_by_changes_no_answer.Goals as goal

pub returns : goal.returns
returns c = λ at new es place parts unused fresh pass. found_passed at new es unused place parts fresh pass
