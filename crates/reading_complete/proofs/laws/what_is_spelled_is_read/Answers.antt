use Rattle.reading_complete.proofs.Law.{spelled_reads, silent_reads, whole_reads}
use Rattle.reading_complete.proofs.laws.what_is_spelled_is_read.Goals as goal

pub returns-clause-spelled_is_read : goal.returns-clause-spelled_is_read
returns-clause-spelled_is_read c = spelled_reads

pub returns-clause-silent_is_read : goal.returns-clause-silent_is_read
returns-clause-silent_is_read c = silent_reads

pub returns-clause-whole_is_read : goal.returns-clause-whole_is_read
returns-clause-whole_is_read c = whole_reads
