use Rattle.term_laws.proofs.Composition.{put_put, subst_unused}
use Rattle.term_laws.proofs.substitution.substitutions_compose.Goals as goal

pub returns-clause-composed : goal.returns-clause-composed
returns-clause-composed c = put_put

pub returns-clause-unused : goal.returns-clause-unused
returns-clause-unused c = subst_unused
