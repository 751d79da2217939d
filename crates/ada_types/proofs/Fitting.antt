-- What a declaration adds to the list of type names fits there.
use Rattle.std.proofs.Common.{◌≡◌, ℕ, List, [], ◌∷◌, map, length, Option, Some, None, refl, sym, ◌∙◌, subst}
use Rattle.std.proofs.lemmas.List.{length-map}
use Rattle.ada_tree.specs.declared.kind.Kind.{Kind}
use Rattle.ada_tree.specs.declared.kind.Kind.TheVariants as kind
use Rattle.ada_tree.specs.declared.node.Node.{Node}
use Rattle.ada_tree.specs.Nodes.{kind_of, kids_of, text_of}
use Rattle.ada_names.specs.Places.{◌▸◌}
use Rattle.term_core.specs.declared.names.SortEntry.{SortEntry}
use Rattle.term_core.specs.declared.sort.Sort.{Sort}
use Rattle.term_core.specs.declared.sort.Sort.TheViews.{out-roll-Sort}
use Rattle.term_core.specs.declared.sort.Sort.TheOpen.{Sort-F}
use Rattle.term_core.specs.Sorts.{record_of}
use Rattle.term_core.specs.Entries.{FitsParts, IsRecord}
use Rattle.static_values.specs.declared.entity.Component.{Component}
use Rattle.ada_types.specs.declared.declarations.Addition.{Addition}
use Rattle.static_values.specs.Entities.{World}
use Rattle.type_definitions.specs.Definitions.{all_of, definition_in, enumeration_in, array_in, record_in, component_sort, defined_sort, part_names}
use Rattle.ada_types.specs.Declarations.{MayStand, addition_of, node_addition}

module _ (w : World) where
  module _ (names : List SortEntry) (n : ℕ) where
    record_fits : (cs : List Component) → FitsParts n (map (λ c. c.name) cs) (record_of n (map (component_sort names) cs))
    record_fits [] = tt
    record_fits (c ∷ cs) =
        subst (λ (l : Sort-F Sort). IsRecord n (length (map (λ x. x.name) (c ∷ cs))) l) (sym (out-roll-Sort (Sort-F.Record n (map (component_sort names) (c ∷ cs)))))
        (refl, length-map (c ∷ cs) (component_sort names) ∙ sym (length-map (c ∷ cs) (λ x. x.name)))

    enumeration_fits : (kids : List Node) → FitsParts n (part_names (enumeration_in kids).shape) (defined_sort names (enumeration_in kids) n)
    enumeration_fits kids = tt

    array_fits : (path : List ℕ) (kids : List Node) → FitsParts n (part_names (array_in w path kids).shape) (defined_sort names (array_in w path kids) n)
    array_fits path (d ∷ m ∷ []) = tt
    array_fits path _ = tt

    components_fit : (path : List ℕ) (kids : List Node) → FitsParts n (part_names (record_in w path kids).shape) (defined_sort names (record_in w path kids) n)
    components_fit path (cs ∷ []) = record_fits (all_of w (path ▸ 0) (kids_of cs))
    components_fit path [] = tt
    components_fit path (a ∷ b ∷ ks) = tt

    definition_fits : (path : List ℕ) (d : Node) → FitsParts n (part_names (definition_in w path d).shape) (defined_sort names (definition_in w path d) n)
    definition_fits path d = by (kind_of d) refl
      where
        by : (k : Kind) → kind_of d ≡ k → FitsParts n (part_names (definition_in w path d).shape) (defined_sort names (definition_in w path d) n)
        by kind.Enum e = rw e (enumeration_fits (kids_of d))
        by kind.Range e = rw e tt
        by kind.Arr e = rw e (array_fits path (kids_of d))
        by kind.Rec e = rw e (components_fit path (kids_of d))
        by _ e = rw e tt

  module _ (names : List SortEntry) (doc : Node) (path : List ℕ) where
    addition_fits : (k : Kind) (text : List ℕ) (kids : List Node) → MayStand names (addition_of w names doc path k text kids).entry
    addition_fits kind.TypeDecl text (d ∷ []) = definition_fits names (length names) (path ▸ 0) d
    addition_fits kind.TypeDecl text _ = tt
    addition_fits kind.Private text kids = tt
    addition_fits kind.Subtype text (m ∷ r ∷ []) = tt
    addition_fits kind.Subtype text _ = tt
    addition_fits kind.Obj text (a ∷ b ∷ c ∷ d ∷ []) = tt
    addition_fits kind.Obj text _ = tt
    addition_fits kind.Const text (a ∷ b ∷ c ∷ d ∷ []) = tt
    addition_fits kind.Const text _ = tt
    addition_fits kind.Num text (a ∷ b ∷ []) = tt
    addition_fits kind.Num text _ = tt
    addition_fits kind.Formal text (a ∷ b ∷ []) = tt
    addition_fits kind.Formal text _ = tt
    addition_fits kind.Exc text (a ∷ []) = tt
    addition_fits kind.Exc text _ = tt
    addition_fits _ text kids = tt

    node_fits : (o : Option Node) → MayStand names (node_addition w names doc path o).entry
    node_fits (Some node) = addition_fits (kind_of node) (text_of node) (kids_of node)
    node_fits None = tt

    pub given_fits : (o : Option Node) (a : Addition) → a ≡ node_addition w names doc path o → MayStand names a.entry
    given_fits o a e = subst (λ (x : Addition). MayStand names x.entry) (sym e) (node_fits o)
