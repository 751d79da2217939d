use Rattle.linear_facts.proofs.ClosingLaws.{closes_by}
use Rattle.linear_facts.proofs.closing.closes.Goals as goal

pub returns : goal.returns
returns c = closes_by c.args.sequent.now c.args.coeffs.now c.is_closed.result c.is_closed.ensures
