use Rattle.name_laws.proofs.Documents.{sees_same}
use Rattle.name_laws.proofs.laws.other_names_see_the_same.Goals as goal

pub returns : goal.returns
returns c = λ number rest new doc other parts place is alone apart clauses. sees_same number rest new doc other is alone parts place apart clauses
