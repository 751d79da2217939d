use Rattle.std.proofs.Common.{[]}
use Rattle.ada_names.specs.Collecting.{outermost}
use Rattle.ada_names.specs.Predefined.{predefined}
use Rattle.name_laws.proofs.Fronts.{fronts}
use Rattle.name_laws.proofs.laws.entries_dont_depend_on_what_follows.Goals as goal

pub returns : goal.returns
returns c = λ front whole is. fronts front whole is [] outermost predefined
