use Rattle.name_laws.proofs.Parts.{found_visible}
use Rattle.name_laws.proofs.laws.what_is_found_is_visible.Goals as goal

pub returns : goal.returns
returns c = found_visible
