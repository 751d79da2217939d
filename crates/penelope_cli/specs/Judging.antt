-- What is told of items by the first two, as the program finds it.
use Rattle.std.specs.Prelude.{List, [], ◌∷◌}
use Rattle.one_path.specs.declared.procedure.Procedure.{Procedure}
use Rattle.penelope_cli.specs.declared.fresh.Outcome.{Outcome}
use Rattle.penelope_cli.specs.declared.fresh.Outcome.TheVariants.{Text, Faulty}
use Rattle.penelope_cli.specs.declared.items.Item.{Item as TheirItem}
use Rattle.penelope_cli.specs.Faults.{fault_line}
use Rattle.penelope_cli.specs.Fresh.{procedure_report}
use Rattle.penelope_cli.specs.Items.{Item, unsupported_at}

-- an item with its path
abbrev pub placed : TheirItem → Item
placed item = record { path = item.file ∷ item.number ∷ []; node = item.node.now }

-- the first item is this procedure, and these are behind it
abbrev pub judged_before : Procedure → List TheirItem → Outcome
judged_before unit [] = Text (procedure_report unit)
judged_before unit (second ∷ behind) = Faulty (fault_line (unsupported_at (placed second).path))
