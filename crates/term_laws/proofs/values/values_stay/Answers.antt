use Rattle.term_laws.proofs.ValueLaws.{value_grows, one_value}
use Rattle.term_laws.proofs.values.values_stay.Goals as goal

pub returns-clause-larger : goal.returns-clause-larger
returns-clause-larger c k n me t env v = value_grows k n me t env v

pub returns-clause-one : goal.returns-clause-one
returns-clause-one c = one_value
