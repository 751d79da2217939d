use Rattle.std.proofs.Common.{◌≡◌, ◌≤◌, length, map}
use Rattle.serde_json.specs.View.{members_view}
use Rattle.edit_script.specs.Table.{has_names}
use Rattle.edit_script.proofs.Lists.{named_from}
use Rattle.edit_script.proofs.form.has_names.Given as goal

abbrev pub invariant-loop-name : goal.invariant-loop-name
invariant-loop-name l = (l.count ≤ length l.names) × (has_names (map (λ name. name.now) l.names) (members_view l.members.entries) ≡ named_from l.name-iterator l.names l.count)
