use Rattle.std.proofs.Common.{rules}
use Rattle.ada_types.proofs.Besides.{beside_of}
use Rattle.ada_types.proofs.declarations.beside.Goals as goal

pub returns : goal.returns
returns c = beside_of c.args.at.now c.pop.new.self.items c.in-Some.last c.in-Some-checked_add.next c.push.new.self.items (search rules) (search rules) (search rules)
