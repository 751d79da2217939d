use Rattle.name_laws.proofs.Documents.{sees_what_it_saw}
use Rattle.name_laws.proofs.laws.renaming_what_nothing_sees_changes_no_answer.Goals as goal

pub returns : goal.returns
returns c = λ number rest new doc other parts place is unused fresh pass. sees_what_it_saw number rest new doc other is unused parts place fresh pass
