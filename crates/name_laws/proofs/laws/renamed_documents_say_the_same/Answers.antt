use Rattle.name_laws.proofs.Documents.{entries_renamed}
use Rattle.name_laws.proofs.laws.renamed_documents_say_the_same.Goals as goal

pub returns : goal.returns
returns c = λ number rest new doc other is alone. entries_renamed number rest new doc other is alone
