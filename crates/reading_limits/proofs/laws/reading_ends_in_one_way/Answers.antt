use Rattle.reading_limits.proofs.Once.{stopped_once, limited_once, stopped_or_limited, read_or_stopped, read_or_limited}
use Rattle.reading_limits.proofs.laws.reading_ends_in_one_way.Goals as goal

pub returns : goal.returns
returns c = record { stopped = stopped_once; limited = limited_once; one_reason = stopped_or_limited; not_stopped = read_or_stopped; not_limited = read_or_limited }
