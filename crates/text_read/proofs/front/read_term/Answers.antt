use Rattle.std.proofs.Common.{refl}
use Rattle.text_read.specs.declared.parts.TheConstants.{TERM}
use Rattle.text_read.proofs.Unique.{one_answers}
use Rattle.text_read.proofs.front.read_term.Goals as goal

pub returns : goal.returns
returns c = one_answers TERM c.args.depth refl c.args.source.now c.args.tokens.now c.args.from c.read_part.result c.read_part.ensures.value c.read_part.ensures.fault
