use Rattle.linear_facts.proofs.Soundness.{closing_holds, closing_valid}
use Rattle.linear_facts.proofs.laws.closing_sequents_are_valid.Goals as goal

pub returns-clause-in_each_state : goal.returns-clause-in_each_state
returns-clause-in_each_state c = closing_holds

pub returns-clause-valid : goal.returns-clause-valid
returns-clause-valid c = closing_valid
