-- What is seen is visible.
use Rattle.std.proofs.Common.{◌≡◌, ℕ, zero, suc, ◌≤◌, List, [], ◌∷◌, take, length, Bool, true, false, ◌&&◌, ◌||◌, cond, Option, Some, None, refl, sym, ap, ◌∙◌, arith}
use Rattle.std.specs.Prelude.{Contains, bytes_eq, if◌then◌else◌, is_none}
use Rattle.std.specs.Option.{option_or}
use Rattle.std.proofs.lemmas.Bool.{and_parts}
use lib.Pointwise.{bytes_decides}
use Rattle.std.proofs.lemmas.List.Elements.{Contains-append_left, Contains-append_right, Contains-push}
use Rattle.ada_tree.specs.declared.kind.Kind.TheVariants as kind
use Rattle.ada_names.specs.declared.entry.Entry.{Entry}
use Rattle.ada_names.specs.declared.entry.Space.{Space}
use Rattle.ada_names.specs.declared.entry.Space.TheVariants as space
use Rattle.ada_names.specs.Places.{◌▸◌, has_ended, is_in}
use Rattle.ada_names.specs.Entries.{is_space, is_of, first_of, entry_at}
use Rattle.ada_names.specs.Sees.{only, is_visible, is_in_context, region_of, in_region, library_unit, earlier_unit, predefined_name, seen_from, is_entry_of, directly, shown, used_package, shown_by, uses_from, Found, unseen, one, several, joined, shown_by_all, by_use, or_else, plainly, is_in_term, is_value, operator_named, object_first, named}
use Rattle.name_laws.specs.Laws.{Shows, Visible, in_region_round, in_library, named_by_with, by_use_of, operator_before}
use Rattle.name_laws.specs.Laws as laws

pub only_is : (test : Entry → Bool) (o : Option Entry) (e : Entry) → only test o ≡ Some e → (o ≡ Some e) × (test e ≡ true)
only_is test None e h = absurd cc
only_is test (Some x) e h = by (test x) refl h
  where
    by : (t : Bool) → test x ≡ t → (if t then Some x else None) ≡ Some e → (Some x ≡ Some e) × (test e ≡ true)
    by true is same = (same, let equal : x ≡ e = cc in sym (ap test equal) ∙ is)
    by false is same = absurd cc

-- ---- what is found has the name that was looked up

pub is_name : (s : Space) (r name : List ℕ) (e : Entry) → is_of s r name e ≡ true → bytes_eq e.name name ≡ true
is_name s r name e h =
    let parts : (is_space e.space s ≡ true) × ((bytes_eq e.region r && bytes_eq e.name name) ≡ true) = and_parts (is_space e.space s) (bytes_eq e.region r && bytes_eq e.name name) h in
    (and_parts (bytes_eq e.region r) (bytes_eq e.name name) parts.1).1

pub first_name : (es : List Entry) (s : Space) (r name : List ℕ) (e : Entry) → first_of es s r name ≡ Some e → e.name ≡ name
first_name [] s r name e h = absurd cc
first_name (x ∷ es) s r name e h = by (is_of s r name x) refl h (first_name es s r name e)
  where
    by : (t : Bool) → is_of s r name x ≡ t → cond t (Some x) (first_of es s r name) ≡ Some e → (first_of es s r name ≡ Some e → e.name ≡ name) → e.name ≡ name
    by true is h further = let equal : x ≡ e = cc in sym (ap (λ (y : Entry). y.name) equal) ∙ (bytes_decides x.name name).0 (is_name s r name x is)
    by false is h further = further h

pub visible_name : (es : List Entry) (place name : List ℕ) (e : Entry) → Visible es place name e → e.name ≡ name
visible_name es place name e (in_region_round n within first visible) = first_name es space.Names (region_of es (take (suc n) place)) name e first
visible_name es place name e (in_library first visible context) = first_name es space.Names [] name e first
visible_name es place name e (named_by_with first ended) = first_name es space.Names [] name e first
visible_name es place name e (laws.predefined_name first) = first_name es space.Predefined [] name e first
visible_name es place name e (by_use_of clause pack here ended used shows) = first_name es space.Names pack.place name e shows.first
visible_name es place name e (operator_before first ended) = first_name es space.Operators [] name e first

-- ---- what packages show

pub shown_shows : (es : List Entry) (place name : List ℕ) (pack e : Entry) → shown es place name pack ≡ Some e → Shows es place name pack e
shown_shows es place name pack e h =
    let parts : (first_of es space.Names pack.place name ≡ Some e) × ((is_in (pack.place ▸ 0) e.place && has_ended e.from place) ≡ true) = only_is _ (first_of es space.Names pack.place name) e h in
    let both : (is_in (pack.place ▸ 0) e.place ≡ true) × (has_ended e.from place ≡ true) = and_parts (is_in (pack.place ▸ 0) e.place) (has_ended e.from place) parts.1 in
    record { first = parts.0; in_visible_part = both.0; ended = both.1 }

module _ (es : List Entry) (place name : List ℕ) where
  -- ---- direct visibility

  outermost_seen : (e : Entry) → option_or (library_unit es place name) (predefined_name es place name) ≡ Some e → Visible es place name e
  outermost_seen e = by (library_unit es place name) refl
    where
      by : (o : Option Entry) → library_unit es place name ≡ o → option_or o (predefined_name es place name) ≡ Some e → Visible es place name e
      by (Some x) is same =
          let parts : (first_of es space.Names [] name ≡ Some e) × ((is_visible place e && is_in_context es place e) ≡ true) = only_is _ (first_of es space.Names [] name) e (is ∙ same) in
          let both : (is_visible place e ≡ true) × (is_in_context es place e ≡ true) = and_parts (is_visible place e) (is_in_context es place e) parts.1 in
          in_library parts.0 both.0 both.1
      by None is same = laws.predefined_name (only_is _ (first_of es space.Predefined [] name) e same).0

  seen_visible : (d : ℕ) (e : Entry) → d ≤ length place → seen_from es place name d ≡ Some e → Visible es place name e
  seen_visible zero e within h = outermost_seen e h
  seen_visible (suc n) e within h = by (in_region es place name (region_of es (take (suc n) place))) refl (seen_visible n e) h
    where
      by : (o : Option Entry) → in_region es place name (region_of es (take (suc n) place)) ≡ o → (n ≤ length place → seen_from es place name n ≡ Some e → Visible es place name e) → option_or o (seen_from es place name n) ≡ Some e → Visible es place name e
      by (Some x) is further same =
          let parts : (first_of es space.Names (region_of es (take (suc n) place)) name ≡ Some e) × (is_visible place e ≡ true) = only_is (is_visible place) (first_of es space.Names (region_of es (take (suc n) place)) name) e (is ∙ same) in
          in_region_round n (omega arith) parts.0 parts.1
      by None is further same = further (omega arith) same

  directly_visible : (e : Entry) → directly es place name ≡ Some e → Visible es place name e
  directly_visible e h = seen_visible (length place) e (omega arith) h

  earlier_visible : (e : Entry) → earlier_unit es place name ≡ Some e → Visible es place name e
  earlier_visible e h =
      let parts : (first_of es space.Names [] name ≡ Some e) × (has_ended e.from place ≡ true) = only_is _ (first_of es space.Names [] name) e h in
      named_by_with parts.0 parts.1

  -- ---- use clauses

  abbrev Within : List Entry → Type 0
  Within clauses = (c : Entry) → Contains clauses c → Contains (uses_from es place (length place)) c

  clause_shows : (clause e : Entry) → Contains (uses_from es place (length place)) clause → shown_by es place name clause ≡ Some e → Visible es place name e
  clause_shows clause e here = by (used_package es clause) refl
    where
      by_end : (pack : Entry) → used_package es clause ≡ Some pack → (t : Bool) → has_ended clause.from place ≡ t → (if t then shown es place name pack else None) ≡ Some e → Visible es place name e
      by_end pack is true ended h = by_use_of clause pack here ended is (shown_shows es place name pack e h)
      by_end pack is false ended h = absurd cc

      by : (o : Option Entry) → used_package es clause ≡ o → (elim o [ Some pack ↦ if has_ended clause.from place then shown es place name pack else None | None ↦ None ]) ≡ Some e → Visible es place name e
      by (Some pack) is h = by_end pack is (has_ended clause.from place) refl h
      by None is h = absurd cc

  joined_shows : (clause e : Entry) (found : Found) → Contains (uses_from es place (length place)) clause → ((d : Entry) → found ≡ one d → Visible es place name d) → joined found (shown_by es place name clause) ≡ one e → Visible es place name e
  joined_shows clause e found here before = by found refl (shown_by es place name clause) refl
    where
      by_same : (d : Entry) → found ≡ one d → (t : Bool) → (if t then one d else several) ≡ one e → Visible es place name e
      by_same d is true h = before e (is ∙ h)
      by_same d is false h = absurd cc

      by : (f : Found) → found ≡ f → (o : Option Entry) → shown_by es place name clause ≡ o → joined f o ≡ one e → Visible es place name e
      by f is None shows h = before e (is ∙ h)
      by unseen is (Some x) shows h = let equal : x ≡ e = cc in clause_shows clause e here (shows ∙ ap (λ (y : Entry). Some y) equal)
      by (one d) is (Some x) shows h = by_same d is (bytes_eq d.place x.place) h
      by several is (Some x) shows h = absurd cc

  all_show : (clauses : List Entry) (found : Found) (e : Entry) → Within clauses → ((d : Entry) → found ≡ one d → Visible es place name d) → shown_by_all es place name found clauses ≡ one e → Visible es place name e
  all_show [] found e within before h = before e h
  all_show (clause ∷ clauses) found e within before h =
      all_show clauses (joined found (shown_by es place name clause)) e (λ c has. within c (Contains-append_right (clause ∷ []) clauses c has)) (λ d. joined_shows clause d found (within clause (Contains-append_left (clause ∷ []) clauses clause (Contains-push [] clause))) before) h

  plainly_visible : (e : Entry) → plainly es place name ≡ one e → Visible es place name e
  plainly_visible e = by (is_entry_of kind.With (entry_at es place))
    where
      named_there : (o : Option Entry) → earlier_unit es place name ≡ o → or_else o unseen ≡ one e → Visible es place name e
      named_there (Some x) is h = let equal : x ≡ e = cc in earlier_visible e (is ∙ ap (λ (y : Entry). Some y) equal)
      named_there None is h = absurd cc

      seen_there : (o : Option Entry) → directly es place name ≡ o → or_else o (by_use es place name) ≡ one e → Visible es place name e
      seen_there (Some x) is h = let equal : x ≡ e = cc in directly_visible e (is ∙ ap (λ (y : Entry). Some y) equal)
      seen_there None is h = all_show (uses_from es place (length place)) unseen e (λ c has. has) (λ d no. absurd cc) h

      by : (t : Bool) → (if t then or_else (earlier_unit es place name) unseen else or_else (directly es place name) (by_use es place name)) ≡ one e → Visible es place name e
      by true h = named_there (earlier_unit es place name) refl h
      by false h = seen_there (directly es place name) refl h

  -- ---- terms

  operator_visible : (e : Entry) (o : Option Entry) (found : Found) → operator_named es place name ≡ o → (found ≡ one e → Visible es place name e) → or_else o found ≡ one e → Visible es place name e
  operator_visible e (Some x) found is plain h =
      let equal : x ≡ e = cc in
      let parts : (first_of es space.Operators [] name ≡ Some e) × (has_ended e.from place ≡ true) = only_is _ (first_of es space.Operators [] name) e (is ∙ ap (λ (y : Entry). Some y) equal) in
      operator_before parts.0 parts.1
  operator_visible e None found is plain h = plain h

  object_visible : (e : Entry) (found : Found) → (found ≡ one e → Visible es place name e) → object_first (operator_named es place name) found ≡ one e → Visible es place name e
  object_visible e (one x) plain h = by (is_value x.kind || is_none x.number) h
    where
      by : (t : Bool) → (if t then one x else or_else (operator_named es place name) (one x)) ≡ one e → Visible es place name e
      by true h = plain h
      by false h = operator_visible e (operator_named es place name) (one x) refl plain h
  object_visible e unseen plain h = operator_visible e (operator_named es place name) unseen refl plain h
  object_visible e several plain h = operator_visible e (operator_named es place name) several refl plain h

  pub named_visible : (e : Entry) → named es place name ≡ one e → Visible es place name e
  named_visible e = by (is_in_term es place)
    where
      by : (t : Bool) → (if t then object_first (operator_named es place name) (plainly es place name) else plainly es place name) ≡ one e → Visible es place name e
      by true h = object_visible e (plainly es place name) (plainly_visible e) h
      by false h = plainly_visible e h
