-- Tables: lists of rows, which stand in the order of an enum's values where they have a row for each.
use Rattle.std.specs.Prelude.{List, [], ◌∷◌, Bool, Option, Some, None, if◌then◌else◌}

-- what the first row that passes has
abbrev pub first_value : {R V : Type 0} → (R → V) → (R → Bool) → List R → Option V
first_value value test [] = None
first_value value test (row ∷ rows) = if test row then Some (value row) else first_value value test rows
