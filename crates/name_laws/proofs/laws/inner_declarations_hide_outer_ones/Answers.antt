use Rattle.std.proofs.Common.{length, arith}
use Rattle.name_laws.proofs.Hiding.{hides}
use Rattle.name_laws.proofs.laws.inner_declarations_hide_outer_ones.Goals as goal

pub returns : goal.returns
returns c = λ es place name e n within here inner. hides es place name e n here inner (length place) within (omega arith)
