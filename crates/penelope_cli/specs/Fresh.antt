-- What a command tells of its sources, from their bytes alone.
use Rattle.std.specs.Prelude.{ℕ, List, [], Option, Some, None, IsNone, Result, Ok, Err}
use Rattle.std.specs.List.{flat_map}
use Rattle.std.specs.Option.{IsSome, option_map_or}
use Rattle.base_kit.specs.declared.fault.Fault.{Fault as AFault}
use Rattle.ada_tree.specs.declared.node.Node.{Node}
use Rattle.ada_tree.specs.Nodes.{kids_of}
use Rattle.ada_tree.specs.Rendering.{file_text}
use Rattle.one_path.specs.declared.procedure.Procedure.{Procedure}
use Rattle.one_path.specs.Form.{form_of}
use Rattle.penelope_cli.specs.declared.fresh.Outcome.{Outcome}
use Rattle.penelope_cli.specs.declared.fresh.Outcome.TheVariants.{Text, Faulty}
use Rattle.penelope_cli.specs.Commands.{Command, check, print}
use Rattle.penelope_cli.specs.Documents.{document_answer}
use Rattle.penelope_cli.specs.Faults.{fault_line}
use Rattle.penelope_cli.specs.Items.{Item, items_in, first_unfit, unsupported_at}
use Rattle.penelope_cli.specs.Paths.{obligations_of}
use Rattle.penelope_cli.specs.Report.{report_of}

-- ---- `check`

abbrev pub procedure_report : Procedure → List ℕ
procedure_report unit = report_of unit.name (obligations_of unit)

-- the report of the procedure that an item is, and no report of any other item
abbrev pub item_report : Item → List ℕ
item_report item = option_map_or procedure_report (form_of item.node) []

-- the fault of the first item that isn't taken, or the reports of all items
abbrev pub checked_by : Option Item → List Item → Outcome
checked_by (Some item) items = Faulty (fault_line (unsupported_at item.path))
checked_by None items = Text (flat_map item_report items)

abbrev pub checked : List Item → Outcome
checked items = checked_by (first_unfit items) items

-- ---- `print`

-- the canonical texts of files, one after another
abbrev pub texts_of : List Node → List ℕ
texts_of files = flat_map (λ file. file_text (Some file)) files

-- ---- both

-- what is told of a document
abbrev pub told_of : Command → Node → Outcome
told_of (check names) root = checked (items_in 0 (kids_of root))
told_of (print names) root = Text (texts_of (kids_of root))

-- or of the fault of its sources
abbrev pub told_by : Command → Result Node AFault → Outcome
told_by command (Ok root) = told_of command root
told_by command (Err fault) = Faulty (fault_line fault)

abbrev pub fresh : Command → List (List ℕ) → Outcome
fresh command sources = told_by command (document_answer sources)

-- ---- which documents a command takes

-- `check` takes those all of whose items it takes, and `print` all
abbrev pub Takes : Command → Node → Type 0
Takes (check names) root = IsNone (first_unfit (items_in 0 (kids_of root)))
Takes (print names) root = Unit {0}

abbrev pub Refuses : Command → Node → Type 0
Refuses (check names) root = IsSome (first_unfit (items_in 0 (kids_of root)))
Refuses (print names) root = ⊥
