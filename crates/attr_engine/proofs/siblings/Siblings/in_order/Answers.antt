use Rattle.attr_engine.proofs.Done.{turned}
use Rattle.attr_engine.proofs.siblings.Siblings.in_order.Goals as goal

pub returns-clause-results : goal.returns-clause-results
returns-clause-results g c = turned c.args.self.nodes c.args.self.results.items c.reverse.new.self.items c.reverse.ensures.items c.args.self.their_results
