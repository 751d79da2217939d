-- What the parts of a mark see is visible.
use Rattle.std.proofs.Common.{◌≡◌, ℕ, List, [], ◌∷◌, Bool, true, false, Option, Some, None, refl, sym, ap, ◌∙◌}
use Rattle.std.specs.Prelude.{if◌then◌else◌}
use Rattle.ada_tree.specs.declared.kind.Kind.TheVariants as kind
use Rattle.ada_tree.specs.declared.doc.DeclId.{DeclId}
use Rattle.ada_tree.specs.Kinds.{is_kind}
use Rattle.ada_tree.specs.Sights.{declared, nothing}
use Rattle.ada_names.specs.declared.entry.Entry.{Entry}
use Rattle.ada_names.specs.declared.entry.Space.TheVariants as space
use Rattle.ada_names.specs.Places.{has_ended}
use Rattle.ada_names.specs.Entries.{first_of}
use Rattle.ada_names.specs.Sees.{only, is_in_trait, earlier_unit, shown, Found, unseen, one, several, or_else, named, selected, type_shown, selected_in_trait, found, sight_of, sees_among}
use Rattle.name_laws.specs.Laws.{VisibleAs, alone, of_package, type_of_package, IsVisible, EndsIn}
use Rattle.name_laws.proofs.Seeing.{only_is, first_name, visible_name, shown_shows, named_visible}

module _ (es : List Entry) (place prefix name : List ℕ) (e : Entry) where
  abbrev Goal : Type 0
  Goal = VisibleAs es place (prefix ∷ name ∷ []) e

  selected_visible : (f : Found) → named es place prefix ≡ f → selected es place name f ≡ one e → Goal
  selected_visible unseen is h = absurd cc
  selected_visible several is h = absurd cc
  selected_visible (one pack) is h = by (is_kind pack.kind kind.Pack) refl h
    where
      by_shown : is_kind pack.kind kind.Pack ≡ true → (o : Option Entry) → shown es place name pack ≡ o → or_else o unseen ≡ one e → Goal
      by_shown is_pack (Some x) shows h =
          let equal : x ≡ e = cc in
          of_package prefix name pack e (named_visible es place prefix pack is) is_pack (shown_shows es place name pack e (shows ∙ ap (λ (y : Entry). Some y) equal))
      by_shown is_pack None shows h = absurd cc

      by : (t : Bool) → is_kind pack.kind kind.Pack ≡ t → (if t then or_else (shown es place name pack) unseen else unseen) ≡ one e → Goal
      by true is_pack h = by_shown is_pack (shown es place name pack) refl h
      by false is_pack h = absurd cc

  type_visible : is_in_trait es place ≡ true → (o : Option Entry) → earlier_unit es place prefix ≡ o → type_shown es place name o ≡ one e → Goal
  type_visible trait None is h = absurd cc
  type_visible trait (Some pack) is h = by (is_kind pack.kind kind.Pack) refl h
    where
      by_shown : is_kind pack.kind kind.Pack ≡ true → (o : Option Entry) → only (λ x. is_kind x.kind kind.TypeDecl) (shown es place name pack) ≡ o → or_else o unseen ≡ one e → Goal
      by_shown is_pack (Some x) shows h =
          let equal : x ≡ e = cc in
          let parts : (shown es place name pack ≡ Some e) × (is_kind e.kind kind.TypeDecl ≡ true) = only_is _ (shown es place name pack) e (shows ∙ ap (λ (y : Entry). Some y) equal) in
          let unit : (first_of es space.Names [] prefix ≡ Some pack) × (has_ended pack.from place ≡ true) = only_is _ (first_of es space.Names [] prefix) pack is in
          type_of_package prefix name pack e trait unit.0 unit.1 is_pack (shown_shows es place name pack e parts.0) parts.1
      by_shown is_pack None shows h = absurd cc

      by : (t : Bool) → is_kind pack.kind kind.Pack ≡ t → (if t then or_else (only (λ x. is_kind x.kind kind.TypeDecl) (shown es place name pack)) unseen else unseen) ≡ one e → Goal
      by true is_pack h = by_shown is_pack (only (λ x. is_kind x.kind kind.TypeDecl) (shown es place name pack)) refl h
      by false is_pack h = absurd cc

  in_trait_visible : is_in_trait es place ≡ true → (f : Found) → selected_in_trait es place prefix name f ≡ one e → Goal
  in_trait_visible trait unseen h = type_visible trait (earlier_unit es place prefix) refl h
  in_trait_visible trait (one x) h = absurd cc
  in_trait_visible trait several h = absurd cc

  pair_visible : found es (prefix ∷ name ∷ []) place ≡ one e → Goal
  pair_visible = by (is_in_trait es place) refl
    where
      by : (t : Bool) → is_in_trait es place ≡ t → (if t then selected_in_trait es place prefix name (named es place prefix) else selected es place name (named es place prefix)) ≡ one e → Goal
      by true trait h = in_trait_visible trait (named es place prefix) h
      by false trait h = selected_visible (named es place prefix) refl h

pub found_visible : (es : List Entry) (parts : List (List ℕ)) (place : List ℕ) (e : Entry) → found es parts place ≡ one e → VisibleAs es place parts e
found_visible es [] place e h = absurd cc
found_visible es (name ∷ []) place e h = alone name e (named_visible es place name e h)
found_visible es (prefix ∷ name ∷ []) place e h = pair_visible es place prefix name e h
found_visible es (a ∷ b ∷ c ∷ more) place e h = absurd cc

pub sees_visible : (es : List Entry) (parts : List (List ℕ)) (place : List ℕ) (id : DeclId) → sees_among es parts place ≡ declared id → IsVisible es place parts id
sees_visible es parts place id = by (found es parts place) refl
  where
    by_number : (e : Entry) → found es parts place ≡ one e → (o : Option DeclId) → e.number ≡ o → (elim o [ Some n ↦ declared n | None ↦ nothing ]) ≡ declared id → IsVisible es place parts id
    by_number e is (Some n) number h =
        let equal : n ≡ id = cc in
        record { declaration = e; number = number ∙ ap (λ (m : DeclId). Some m) equal; visible = found_visible es parts place e is }
    by_number e is None number h = absurd cc

    by : (f : Found) → found es parts place ≡ f → sight_of f ≡ declared id → IsVisible es place parts id
    by unseen is h = absurd cc
    by (one e) is h = by_number e is e.number refl h
    by several is h = absurd cc

pub last_name : (es : List Entry) (place : List ℕ) (parts : List (List ℕ)) (e : Entry) → VisibleAs es place parts e → EndsIn parts e.name
last_name es place parts e (alone name x visible) = ([], ap (λ (n : List ℕ). n ∷ []) (sym (visible_name es place name x visible)))
last_name es place parts e (of_package prefix name pack x visible is_pack shows) = (prefix ∷ [], ap (λ (n : List ℕ). prefix ∷ n ∷ []) (sym (first_name es space.Names pack.place name x shows.first)))
last_name es place parts e (type_of_package prefix name pack x trait first ended is_pack shows is_type) = (prefix ∷ [], ap (λ (n : List ℕ). prefix ∷ n ∷ []) (sym (first_name es space.Names pack.place name x shows.first)))
