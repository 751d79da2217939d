use Rattle.std.proofs.Common.{rules}
use Rattle.reading_machine.proofs.Known.{same_sought}
use Rattle.reading_machine.proofs.ways.Sought.is.Goals as goal

pub returns : goal.returns
returns c = λ h. same_sought c.args.self c.args.other (search (rules, h)) (search (rules, h)) (c.is.ensures h)
