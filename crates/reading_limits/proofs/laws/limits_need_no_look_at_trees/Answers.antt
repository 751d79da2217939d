use Rattle.reading_limits.proofs.Weighing.{weighed_is_within}
use Rattle.reading_limits.proofs.laws.limits_need_no_look_at_trees.Goals as goal

pub returns : goal.returns
returns c = weighed_is_within
