-- How edits are written in definitions, and how many a command makes.
use Rattle.std.specs.Prelude.{ℕ, List, length, sum_by}
use Rattle.edit_script.specs.declared.command.Edit.{Edit}
use Rattle.edit_script.specs.declared.command.Edit.TheOpen.{Edit-F}
use Rattle.edit_script.specs.declared.command.Edit.TheViews.{roll-Edit, out-Edit}
use Rattle.edit_script.specs.declared.command.Command.{Command}
use Rattle.edit_script.specs.declared.command.Command.TheVariants as command
use Rattle.edit_script.specs.declared.command.Line.{Line}

-- the node at the path becomes the text
abbrev pub replace : List ℕ → List ℕ → Edit
replace path text = roll-Edit (Edit-F.Replace path text)

-- the text becomes a list member with the path
abbrev pub insert : List ℕ → List ℕ → Edit
insert path text = roll-Edit (Edit-F.Insert path text)

-- the list member at the path is removed
abbrev pub delete : List ℕ → Edit
delete path = roll-Edit (Edit-F.Delete path)

-- the edits, applied in order
abbrev pub batch : List Edit → Edit
batch edits = roll-Edit (Edit-F.Batch edits)

-- members of a batch count each
abbrev pub edits_in_layer : Edit-F Edit → ℕ
edits_in_layer (Edit-F.Replace path text) = 1
edits_in_layer (Edit-F.Insert path text) = 1
edits_in_layer (Edit-F.Delete path) = 1
edits_in_layer (Edit-F.Batch edits) = length edits

-- how many edits a command makes
abbrev pub edits_in : Command → ℕ
edits_in (command.Edit edit) = edits_in_layer (out-Edit edit)
edits_in (command.Query query) = 0

-- how many edits the commands of these lines make
abbrev pub edits_of : List Line → ℕ
edits_of = sum_by (λ line. edits_in line.command)
