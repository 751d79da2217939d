use Rattle.term_laws.proofs.Settling.{settles, value_without}
use Rattle.term_laws.proofs.settled.terms_settle.Goals as goal

pub returns-clause-settled : goal.returns-clause-settled
returns-clause-settled c me h = record { settle = settles me h }

pub returns-clause-without_equations : goal.returns-clause-without_equations
returns-clause-without_equations c = value_without
