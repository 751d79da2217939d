use Rattle.text_read.specs.Files.{large}
use Rattle.file_laws.proofs.Documents.{text_back}
use Rattle.file_laws.proofs.laws.written_files_are_read_back.Goals as goal

pub returns-clause-text : goal.returns-clause-text
returns-clause-text c root file fits i =
    let law = c.written_files_are_read.ensures in
    let signs = law.tokens root file fits i in
    text_back file signs.tokens signs.fall (law.read root file signs.tokens fits i signs.fall)

pub returns-clause-read : goal.returns-clause-read
returns-clause-read c root file fits i small = record { text = returns-clause-text c root file fits i; small = small }

pub returns-clause-large : goal.returns-clause-large
returns-clause-large c root file fits i more = large (returns-clause-text c root file fits i) more
