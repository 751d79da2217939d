use Rattle.term_laws.proofs.Meanings.{is_val, holds_from, holds_to, val_agrees, val_subst, val_put}
use Rattle.term_laws.proofs.settled.settled_terms_have_one_value.Goals as goal

pub returns-clause-value : goal.returns-clause-value
returns-clause-value c = is_val

pub returns-clause-truth : goal.returns-clause-truth
returns-clause-truth c me s t env = (holds_to me s t env, holds_from me s t env)

pub returns-clause-agreement : goal.returns-clause-agreement
returns-clause-agreement c = val_agrees

pub returns-clause-substitution : goal.returns-clause-substitution
returns-clause-substitution c = val_subst

pub returns-clause-substitution_at_once : goal.returns-clause-substitution_at_once
returns-clause-substitution_at_once c = val_put
