use Rattle.std.proofs.Common.{◌≡◌, map, drop}
use Rattle.serde_json.specs.View.{view}
use Rattle.edit_script.specs.Values.{each_of, whole_number}
use Rattle.edit_script.proofs.Lists.{goes_on}
use Rattle.edit_script.proofs.values.steps_of.Given as goal

abbrev pub invariant-loop-value : goal.invariant-loop-value
invariant-loop-value l = each_of whole_number (map view l.values) ≡ goes_on whole_number l.steps.items (map view (drop l.value-index l.values))
