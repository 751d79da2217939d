use Rattle.std.proofs.Common.{rules}
use Rattle.reading_machine.proofs.Wide.{few_within}
use Rattle.reading_machine.specs.Machines.{with_open}
use Rattle.reading_machine.proofs.machine.Machine.feed.Goals as goal

pub returns-then-not-branch-2 : goal.returns-then-not-branch-2
returns-then-not-branch-2 c = (with_open c.feed_within.new.self c.open_after-parentheses.result, (search rules), (search rules))

pub invariant_of-self : goal.invariant_of-self
invariant_of-self c = record { few = few_within c.args.round (with_open c.feed_within.new.self c.open_after-parentheses.result) (search rules) }
