use Rattle.term_laws.proofs.Meanings.{val_int, val_truth, val_var, val_op, val_if, val_generator, val_unfolded, val_undefined}
use Rattle.term_laws.proofs.settled.settled_values.Goals as goal

pub returns-clause-number : goal.returns-clause-number
returns-clause-number c = val_int

pub returns-clause-truth_value : goal.returns-clause-truth_value
returns-clause-truth_value c = val_truth

pub returns-clause-variable : goal.returns-clause-variable
returns-clause-variable c = val_var

pub returns-clause-operator : goal.returns-clause-operator
returns-clause-operator c = val_op

pub returns-clause-conditional : goal.returns-clause-conditional
returns-clause-conditional c = val_if

pub returns-clause-generator : goal.returns-clause-generator
returns-clause-generator c = val_generator

pub returns-clause-unfolded : goal.returns-clause-unfolded
returns-clause-unfolded c me s f ts env state right = val_unfolded me s f ts env right state

pub returns-clause-undefined : goal.returns-clause-undefined
returns-clause-undefined c = val_undefined
