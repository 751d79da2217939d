-- Components of records: what a name after a dot selects.
use Rattle.std.specs.Prelude.{ℕ, List, bytes_eq, nat_eq, find, Option, Some, None, Bool, true, false, [], ◌∷◌}
use Rattle.std.specs.Map.{lookup}
use Rattle.base_kit.specs.declared.fault.Code.TheVariants as code
use Rattle.static_values.specs.declared.entity.BaseType.{BaseType}
use Rattle.static_values.specs.declared.entity.BaseType.TheVariants as base
use Rattle.static_values.specs.declared.entity.Component.{Component}
use Rattle.static_values.specs.declared.entity.Entity.{Entity}
use Rattle.static_values.specs.declared.entity.Entity.TheVariants as entity
use Rattle.static_values.specs.declared.entity.Shape.{Shape}
use Rattle.static_values.specs.declared.entity.Shape.TheVariants as shape
use Rattle.static_values.specs.declared.entity.Selected.{Selected}
use Rattle.static_values.specs.declared.entity.Selected.TheVariants as selected
use Rattle.static_values.specs.declared.meaning.Meaning.{Meaning}
use Rattle.static_values.specs.Judging.{Rows}
use Rattle.static_values.specs.Entities.{Declared, class_of}
use Rattle.static_values.specs.Rules.{base_type, whole}

-- the first component of this name
abbrev pub component_named : List ℕ → List Component → Option Component
component_named text cs = find (λ c. bytes_eq c.name text) cs

abbrev pub of_component : Declared → Option Component → Selected
of_component es (Some c) = selected.Component (base_type (class_of es c.subtype.base) c.subtype.base)
of_component es None = selected.Missing

abbrev pub of_shape : Declared → List ℕ → Shape → Selected
of_shape es text (shape.Record cs) = of_component es (component_named text cs)
of_shape es text shape.Private = selected.Unjudged
of_shape es text _ = selected.NoRecord

abbrev pub of_entity : Declared → List ℕ → Option Entity → Selected
of_entity es text (Some (entity.Type s sh)) = of_shape es text sh
of_entity es text _ = selected.Unjudged

-- what this name selects of a value of the type
abbrev pub selected_of : Declared → BaseType → List ℕ → Selected
selected_of es (base.Composite id) text = of_entity es text (lookup (nat_eq id) es)
selected_of es base.Unjudged text = selected.Unjudged
selected_of es _ text = selected.NoRecord

abbrev pub is_missing : Selected → Bool
is_missing selected.Missing = true
is_missing _ = false

abbrev pub is_no_record : Selected → Bool
is_no_record selected.NoRecord = true
is_no_record _ = false

-- A record has the component, and what isn't a record has none.
abbrev pub selected_rows : Selected → Rows
selected_rows s = (code.F08, is_missing s) ∷ (code.F09, is_no_record s) ∷ []

abbrev pub selected_type : Selected → BaseType
selected_type (selected.Component b) = b
selected_type _ = base.Unjudged

-- A component isn't static.
abbrev pub selected_meaning : Selected → Meaning
selected_meaning s = whole (selected_type s)
