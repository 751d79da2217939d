use Rattle.term_laws.proofs.Quantifiers.{all_at, all_from, some_at, some_from}
use Rattle.term_laws.proofs.settled.settled_quantifiers.Goals as goal

pub returns-clause-for_all : goal.returns-clause-for_all
returns-clause-for_all c me s x low high body env = (all_at me s x low high body env, all_from me s x low high body env)

pub returns-clause-exists : goal.returns-clause-exists
returns-clause-exists c me s x low high body env = (some_at me s x low high body env, λ h. some_from me s x low high body env h.0 h.1.0 h.1.1.0 h.1.1.1)
