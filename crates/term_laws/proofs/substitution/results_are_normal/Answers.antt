use Rattle.term_laws.proofs.Composition.{normal_normal, normal_put, normal_put_all}
use Rattle.term_laws.proofs.substitution.results_are_normal.Goals as goal

pub returns-clause-normal : goal.returns-clause-normal
returns-clause-normal c = normal_normal

pub returns-clause-put_all : goal.returns-clause-put_all
returns-clause-put_all c = normal_put_all

pub returns-clause-put : goal.returns-clause-put
returns-clause-put c = normal_put
