use Rattle.std.proofs.Common.{rules}
use Rattle.std.proofs.lemmas.Int.{wraps}
use Rattle.linear_facts.proofs.lanes.opposite.Goals as goal

pub returns : goal.returns
returns c = search (rules, wraps)
