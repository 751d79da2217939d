use Rattle.ada_names.specs.Collecting.{entries_of}
use Rattle.name_laws.proofs.Parts.{sees_visible}
use Rattle.name_laws.proofs.laws.what_is_seen_is_visible.Goals as goal

pub returns : goal.returns
returns c = λ doc. sees_visible (entries_of doc)
