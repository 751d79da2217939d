-- A name in a clause that isn't a context clause is a mark.
use Rattle.std.proofs.Common.{◌≡◌, ℕ, List, refl}
use Rattle.ada_tree.specs.declared.kind.Kind.{Kind}
use Rattle.ada_tree.specs.declared.kind.Kind.TheVariants as kind
use Rattle.ada_names.specs.Collecting.{Around, clause_name, mark_in}

pub other_clause : (k : Kind) (path : List ℕ) (a : Around) → (k ≡ kind.With → ⊥) → (k ≡ kind.Use → ⊥) → clause_name k path a ≡ mark_in k kind.Name path a
other_clause kind.With path a no_with no_use = absurd (no_with refl)
other_clause kind.Use path a no_with no_use = absurd (no_use refl)
other_clause _ path a no_with no_use = refl
