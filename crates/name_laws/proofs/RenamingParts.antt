-- A declaration under another name leaves the answers for all marks that have neither name in them.
use Rattle.std.proofs.Common.{◌≡◌, ℕ, List, [], ◌∷◌, map, Bool, ◌&&◌, Option, Some, None, refl, ap, ◌∙◌}
use Rattle.std.specs.Prelude.{if◌then◌else◌}
use Rattle.std.specs.List.{AllByRecursion}
use Rattle.ada_tree.specs.declared.kind.Kind.TheVariants as kind
use Rattle.ada_tree.specs.Kinds.{is_kind}
use Rattle.ada_names.specs.declared.entry.Entry.{Entry}
use Rattle.ada_names.specs.declared.entry.Space.TheVariants as space
use Rattle.ada_names.specs.Places.{◌▸◌, has_ended, is_in}
use Rattle.ada_names.specs.Sees.{only, unit_of, is_in_trait, earlier_unit, shown, Found, unseen, one, several, or_else, named, selected, type_shown, selected_in_trait, found}
use Rattle.name_laws.specs.Laws.{renamed, Apart, ClausesApart}
use Rattle.name_laws.proofs.Renaming.{entry_of_same, first_same, named_same}

module _ (at new : List ℕ) (es : List Entry) (clauses : ClausesApart at new es) (place : List ℕ) where
  abbrev after : List Entry
  after = map (renamed at new) es

  module _ (prefix name : List ℕ) (apart_prefix : Apart at new es prefix) (apart_name : Apart at new es name) where
    shown_same : (pack : Entry) → shown after place name pack ≡ shown es place name pack
    shown_same pack = ap (only (λ e. is_in (pack.place ▸ 0) e.place && has_ended e.from place)) (first_same at new es name apart_name space.Names pack.place)

    selected_same : (g : Found) → selected after place name g ≡ selected es place name g
    selected_same unseen = refl
    selected_same several = refl
    selected_same (one e) = ap (λ (o : Option Entry). if is_kind e.kind kind.Pack then or_else o unseen else unseen) (shown_same e)

    type_same : (o : Option Entry) → type_shown after place name o ≡ type_shown es place name o
    type_same None = refl
    type_same (Some pack) = ap (λ (o : Option Entry). if is_kind pack.kind kind.Pack then or_else (only (λ e. is_kind e.kind kind.TypeDecl) o) unseen else unseen) (shown_same pack)

    in_trait_same : (g : Found) → selected_in_trait after place prefix name g ≡ selected_in_trait es place prefix name g
    in_trait_same unseen = ap (λ (o : Option Entry). type_shown after place name (only (λ e. has_ended e.from place) o)) (first_same at new es prefix apart_prefix space.Names []) ∙ type_same (earlier_unit es place prefix)
    in_trait_same (one e) = refl
    in_trait_same several = refl

    pair_same : found after (prefix ∷ name ∷ []) place ≡ found es (prefix ∷ name ∷ []) place
    pair_same =
        ap (λ (t : Bool). if t then selected_in_trait after place prefix name (named after place prefix) else selected after place name (named after place prefix)) (entry_of_same at new es kind.Trait (unit_of place))
        ∙ ap (λ (g : Found). if is_in_trait es place then selected_in_trait after place prefix name g else selected after place name g) (named_same at new es clauses place prefix apart_prefix)
        ∙ ap (λ (g : Found). if is_in_trait es place then g else selected after place name (named es place prefix)) (in_trait_same (named es place prefix))
        ∙ ap (λ (g : Found). if is_in_trait es place then selected_in_trait es place prefix name (named es place prefix) else g) (selected_same (named es place prefix))

  pub found_same : (parts : List (List ℕ)) → AllByRecursion (Apart at new es) parts → found after parts place ≡ found es parts place
  found_same [] apart = refl
  found_same (name ∷ []) apart = named_same at new es clauses place name apart.0
  found_same (prefix ∷ name ∷ []) apart = pair_same prefix name apart.0 apart.1.0
  found_same (a ∷ b ∷ c ∷ more) apart = refl
