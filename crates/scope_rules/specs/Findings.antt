-- What code finds, as the definitions say it.
use Rattle.std.specs.Prelude.{◌≡◌, ℕ, List}
use Rattle.base_kit.specs.declared.fault.Code.{Code}
use Rattle.base_kit.specs.declared.fault.Stop.{Stop}
use Rattle.base_kit.specs.declared.fault.Stop.TheVariants as stop
use Rattle.ada_tree.specs.Sights.{fault}
use Rattle.ada_names.specs.Sees as sees
use Rattle.scope_rules.specs.declared.found.Found.{Found}
use Rattle.scope_rules.specs.declared.found.Found.TheVariants as found

-- the entry behind the reference
abbrev pub found_copied : Found → sees.Found
found_copied found.Unseen = sees.unseen
found_copied (found.One e) = sees.one e.now
found_copied found.Several = sees.several

-- the fault of this code at the path, unless memory is wanting
abbrev pub IsFault : Code → List ℕ → Stop → Type 0
IsFault code path (stop.Fault f) = f ≡ fault code path
IsFault code path stop.Memory = Unit {0}
