-- What is told of items, by the first one.
use Rattle.std.proofs.Common.{◌≡◌, List, [], ◌∷◌, ◌++◌, map, false, ◌∙◌, ap}
use Rattle.std.proofs.lemmas.List.{append-nil}
use Rattle.std.specs.Prelude.{◌||◌, Option, Some, None, if◌then◌else◌}
use Rattle.std.specs.Option.{is_none, option_map_or}
use Rattle.one_path.specs.declared.procedure.Procedure.{Procedure}
use Rattle.one_path.specs.Form.{form_of}
use Rattle.penelope_cli.specs.declared.fresh.Outcome.TheVariants.{Text}
use Rattle.penelope_cli.specs.declared.items.Item.{Item as TheirItem}
use Rattle.penelope_cli.specs.Fresh.{procedure_report, checked_by, checked}
use Rattle.penelope_cli.specs.Judging.{placed, judged_before}

-- the first item is of the form
by_first : (item : TheirItem) (behind : List TheirItem) (unit : Procedure) → form_of item.node.now ≡ Some unit → checked (map placed (item ∷ behind)) ≡ judged_before unit behind
by_first item [] unit e =
    ap (λ (read : Option Procedure). checked_by (if false || is_none read then Some (placed item) else None) (placed item ∷ [])) e
    ∙ ap (λ (read : Option Procedure). Text (option_map_or procedure_report read [] ++ [])) e
    ∙ ap Text (append-nil (procedure_report unit))
by_first item (second ∷ behind) unit e =
    ap (λ (read : Option Procedure). checked_by (if false || is_none read then Some (placed item) else Some (placed second)) (map placed (item ∷ second ∷ behind))) e

pub first_taken : (items behind : List TheirItem) (item : TheirItem) (unit : Procedure) → items ≡ item ∷ behind → form_of item.node.now ≡ Some unit → checked (map placed items) ≡ judged_before unit behind
first_taken items behind item unit n e = ap (λ (xs : List TheirItem). checked (map placed xs)) n ∙ by_first item behind unit e
