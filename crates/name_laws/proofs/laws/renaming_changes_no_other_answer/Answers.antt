use Rattle.name_laws.proofs.RenamingParts.{found_same}
use Rattle.name_laws.proofs.laws.renaming_changes_no_other_answer.Goals as goal

pub returns : goal.returns
returns c = λ at new es place parts apart clauses. found_same at new es clauses place parts apart
