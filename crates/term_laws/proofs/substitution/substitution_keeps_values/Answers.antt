use Rattle.term_core.specs.Evaluation.{tables_of, calls}
use Rattle.term_laws.proofs.PutValues.{put_law, subst_law, normal_law}
use Rattle.term_laws.proofs.substitution.substitution_keeps_values.Goals as goal

pub returns-clause-at_once : goal.returns-clause-at_once
returns-clause-at_once c n me t s env inside = put_law (tables_of me) (calls n me) t s env inside

pub returns-clause-one : goal.returns-clause-one
returns-clause-one c n me = subst_law (tables_of me) (calls n me)

pub returns-clause-normal : goal.returns-clause-normal
returns-clause-normal c n me = normal_law (tables_of me) (calls n me)
