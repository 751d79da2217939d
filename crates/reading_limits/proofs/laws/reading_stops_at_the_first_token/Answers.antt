use Rattle.reading_limits.proofs.Law.{some_text, stops, is_limited}
use Rattle.reading_limits.proofs.laws.reading_stops_at_the_first_token.Goals as goal

pub returns : goal.returns
returns c = record { begins = some_text; stopped = stops; limited = is_limited }
