-- The predefined names: they are declared round everything.
use Rattle.std.specs.Prelude.{ℕ, List, [], ◌∷◌, ◌++◌, Some}
use Rattle.ada_tree.specs.declared.kind.Kind.{Kind}
use Rattle.ada_names.specs.declared.entry.Entry.{Entry}
use Rattle.ada_names.specs.declared.entry.Space.TheVariants as space
use Rattle.ada_names.specs.declared.predefined.TheConstants.{PREDEFINED}
use Rattle.ada_names.specs.Entries.{next_number}

abbrev pub predefined_entry : List Entry → List ℕ → Kind → Entry
predefined_entry es name k = record { space = space.Predefined; kind = k; name = name; place = []; origin = []; region = []; from = []; within = []; number = Some (next_number es) }

-- the rows' names and kinds, after these entries
abbrev pub with_predefined : {R : Type 0} → (R → List ℕ) → (R → Kind) → List R → List Entry → List Entry
with_predefined name k [] es = es
with_predefined name k (row ∷ rows) es = with_predefined name k rows (es ++ predefined_entry es (name row) (k row) ∷ [])

-- their entries, with the numbers from 0 on
abbrev pub predefined : List Entry
predefined = with_predefined (λ row. row.0.now) (λ row. row.1) PREDEFINED []
