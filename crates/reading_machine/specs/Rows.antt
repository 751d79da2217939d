-- The rows of the code, on a side.
use Rattle.std.specs.Prelude.{List, [], ◌∷◌, Bool, Option, None, if◌then◌else◌}
use Rattle.std.specs.Borrow.{Bor}
use Rattle.ada_tree.specs.Choices.{has_side}
use Rattle.ada_tree.specs.declared.operator.Side.{Side}
use Rattle.reading_table.specs.Machine.{or_else}
use Rattle.reading_table.specs.Rows.{Line, Placed, placed}

-- what the first row of the side that leads somewhere leads to
abbrev pub first_lead : (List Placed → Option (List Placed)) → Bool → List (Side × Bor Line) → Option (List Placed)
first_lead leads note [] = None
first_lead leads note (row ∷ rows) = if has_side note row.0 then or_else (leads (placed note row.1.now)) (first_lead leads note rows) else first_lead leads note rows
