use Rattle.reading_limits.proofs.Law.{is_read_within, is_derived_within}
use Rattle.reading_limits.proofs.laws.the_table_reads_within_limits.Goals as goal

pub returns : goal.returns
returns c = record { read = is_read_within; derived = is_derived_within }
