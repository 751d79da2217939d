use Rattle.term_core.specs.Evaluation.{tables_of, calls}
use Rattle.term_laws.proofs.Agreement.{agrees}
use Rattle.term_laws.proofs.values.values_depend_on_free_names.Goals as goal

pub returns : goal.returns
returns c n me t e f = agrees (tables_of me) (calls n me) t e f
