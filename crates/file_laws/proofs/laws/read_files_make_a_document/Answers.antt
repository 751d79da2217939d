use Rattle.file_laws.proofs.Documents.{files_fit}
use Rattle.file_laws.proofs.laws.read_files_make_a_document.Goals as goal

pub returns : goal.returns
returns c = files_fit
