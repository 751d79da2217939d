use Rattle.text_read.proofs.Files.{is_file_answer}
use Rattle.text_read.proofs.laws.a_file_has_one_answer.Goals as goal

pub returns : goal.returns
returns c = is_file_answer
