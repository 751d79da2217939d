use Rattle.reading_exact.proofs.Law.{is_read, is_derived, one_reading}
use Rattle.reading_exact.proofs.laws.the_table_reads_the_grammar.Goals as goal

pub returns : goal.returns
returns c = record { read = is_read; derived = is_derived; one = one_reading }
