use Rattle.std.proofs.Common.{refl}
use Rattle.text_read.specs.declared.parts.TheConstants.{TRAIT}
use Rattle.text_read.proofs.Unique.{one_answers}
use Rattle.text_read.proofs.front.read_trait.Goals as goal

pub returns : goal.returns
returns c = one_answers TRAIT c.args.depth refl c.args.source.now c.args.tokens.now c.args.from c.read_part.result c.read_part.ensures.value c.read_part.ensures.fault
