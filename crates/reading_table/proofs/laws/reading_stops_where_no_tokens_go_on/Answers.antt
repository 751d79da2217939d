use Rattle.reading_table.proofs.Rules.{goes_on_before, is_refused, is_not_read}
use Rattle.reading_table.proofs.laws.reading_stops_where_no_tokens_go_on.Goals as goal

pub returns-clause-before : goal.returns-clause-before
returns-clause-before c = goes_on_before

pub returns-clause-refused : goal.returns-clause-refused
returns-clause-refused c = is_refused

pub returns-clause-ended : goal.returns-clause-ended
returns-clause-ended c = is_not_read
