use Rattle.reading_table.proofs.Rules.{is_derived, is_read, one_reading}
use Rattle.reading_table.proofs.laws.the_next_token_tells_the_row.Goals as goal

pub returns-clause-derived : goal.returns-clause-derived
returns-clause-derived c = is_derived

pub returns-clause-read : goal.returns-clause-read
returns-clause-read c = is_read

pub returns-clause-one : goal.returns-clause-one
returns-clause-one c = one_reading
