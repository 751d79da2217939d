use Rattle.std.proofs.Common.{◌≡◌, take}
use Rattle.edit_script.proofs.command.+copy.Given as goal

abbrev pub invariant-copy_members-loop-edit : goal.invariant-copy_members-loop-edit
invariant-copy_members-loop-edit l = l.edits ≡ take l.edit-index l.edit-items
