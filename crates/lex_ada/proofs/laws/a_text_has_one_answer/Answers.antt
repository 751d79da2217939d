use Rattle.lex_ada.proofs.lexing.Unique.{tokens_once, fault_once, no_fault_with_tokens}
use Rattle.lex_ada.proofs.laws.a_text_has_one_answer.Goals as goal

pub returns-clause-tokens : goal.returns-clause-tokens
returns-clause-tokens c = tokens_once

pub returns-clause-fault : goal.returns-clause-fault
returns-clause-fault c = fault_once

pub returns-clause-either : goal.returns-clause-either
returns-clause-either c = no_fault_with_tokens
