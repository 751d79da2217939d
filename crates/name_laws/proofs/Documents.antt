-- A document in which one declaration has a name of its own, and a new one in its place.
use Rattle.std.proofs.Common.{◌≡◌, ℕ, List, [], ◌∷◌, map, false, refl, ap, ◌∙◌}
use Rattle.std.specs.Prelude.{bytes_eq, Contains}
use Rattle.std.specs.List.{AllByRecursion}
use Rattle.std.proofs.lemmas.List.Elements.{All-from_recursion, All-contains}
use Rattle.ada_tree.specs.declared.node.Node.{Node}
use Rattle.ada_names.specs.declared.entry.Entry.{Entry}
use Rattle.ada_names.specs.Predefined.{predefined}
use Rattle.ada_names.specs.Collecting.{outermost, entries_of}
use Rattle.ada_names.specs.Sees.{sight_of, found, sees}
use Rattle.name_laws.specs.Laws.{renamed, Apart, ClausesApart, IsRenamed, IsAlone, IsNew, IsUnused, PassBy}
use Rattle.name_laws.proofs.Along.{along}
use Rattle.name_laws.proofs.RenamingParts.{found_same}
use Rattle.name_laws.proofs.Passing.{found_passed}

module _ (number : ℕ) (rest new : List ℕ) where
  abbrev at : List ℕ
  at = number ∷ rest

  -- the predefined names stand nowhere
  nowhere : AllByRecursion (λ e. bytes_eq e.place at ≡ false) predefined
  nowhere = (refl, (refl, (refl, (refl, (refl, (refl, (refl, (refl, (refl, tt)))))))))

  before : (e : Entry) → Contains predefined e → bytes_eq e.place at ≡ false
  before e has = All-contains (λ (x : Entry). bytes_eq x.place at ≡ false) predefined e (All-from_recursion (λ (x : Entry). bytes_eq x.place at ≡ false) predefined nowhere) has

  pub entries_renamed : (doc other : Node) → IsRenamed new at doc other → IsAlone at new (entries_of doc) → entries_of other ≡ map (renamed at new) (entries_of doc)
  entries_renamed doc other is alone = along at new at doc other is [] outermost predefined refl before alone

  pub sees_same : (doc other : Node) → IsRenamed new at doc other → IsAlone at new (entries_of doc) → (parts : List (List ℕ)) (place : List ℕ) → AllByRecursion (Apart at new (entries_of doc)) parts → ClausesApart at new (entries_of doc) → sees other parts place ≡ sees doc parts place
  sees_same doc other is alone parts place apart clauses =
      ap (λ (es : List Entry). sight_of (found es parts place)) (entries_renamed doc other is alone)
      ∙ ap sight_of (found_same at new (entries_of doc) clauses place parts apart)

  pub sees_what_it_saw : (doc other : Node) → IsRenamed new at doc other → IsUnused at new (entries_of doc) → (parts : List (List ℕ)) (place : List ℕ) → AllByRecursion (IsNew new) parts → PassBy at (entries_of doc) place parts → sees other parts place ≡ sees doc parts place
  sees_what_it_saw doc other is unused parts place fresh pass =
      ap (λ (es : List Entry). sight_of (found es parts place)) (entries_renamed doc other is unused.alone)
      ∙ ap sight_of (found_passed at new (entries_of doc) unused place parts fresh pass)
