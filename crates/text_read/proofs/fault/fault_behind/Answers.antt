use Rattle.std.proofs.Common.{arith}
use Rattle.text_read.proofs.Lines.{few_lines}
use Rattle.text_read.proofs.fault.fault_behind.Goals as goal

pub overflow_cast-line : goal.overflow_cast-line
overflow_cast-line c = let few = few_lines c.args.source.now in omega (arith, few, c.last_line.ensures, c.requires)
