use Rattle.text_read.proofs.Once.{is_answer}
use Rattle.text_read.proofs.laws.a_text_has_one_answer.Goals as goal

pub returns : goal.returns
returns c = is_answer
