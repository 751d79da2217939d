use Rattle.std.proofs.Common.{◌≡◌, map, drop}
use Rattle.serde_json.specs.View.{view}
use Rattle.edit_script.specs.Values.{each_of}
use Rattle.edit_script.specs.Table.{simple_edit_of}
use Rattle.edit_script.proofs.Lists.{goes_on}
use Rattle.edit_script.proofs.line.members_of.Given as goal

abbrev pub invariant-loop-value : goal.invariant-loop-value
invariant-loop-value l = each_of simple_edit_of (map view l.values) ≡ goes_on simple_edit_of l.edits (map view (drop l.value-index l.values))
