-- A declaration under another name leaves the answers for all other names.
use Rattle.std.proofs.Common.{◌≡◌, ℕ, zero, suc, List, [], ◌∷◌, ◌++◌, map, take, length, Bool, true, false, ◌&&◌, ◌||◌, cond, Option, Some, None, option_map, refl, sym, ap, ◌∙◌}
use Rattle.std.specs.Prelude.{bytes_eq, not, is_some, if◌then◌else◌}
use Rattle.std.specs.List.{AllByRecursion}
use Rattle.std.specs.Option.{option_or}
use Rattle.std.proofs.lemmas.Bool.{and_parts}
use Rattle.ada_tree.specs.declared.kind.Kind.{Kind}
use Rattle.ada_tree.specs.declared.kind.Kind.TheVariants as kind
use Rattle.ada_tree.specs.Kinds.{is_kind}
use Rattle.ada_names.specs.declared.entry.Entry.{Entry}
use Rattle.ada_names.specs.declared.entry.Space.{Space}
use Rattle.ada_names.specs.declared.entry.Space.TheVariants as space
use Rattle.ada_names.specs.Places.{◌▸◌, has_ended, is_in}
use Rattle.ada_names.specs.Entries.{is_space, is_of, is_at, first_of, entry_at, is_use_in, uses_in}
use Rattle.ada_names.specs.Sees.{only, is_visible, region_of, in_region, unit_of, declaration_unit, is_known_in, is_in_context, library_unit, earlier_unit, is_entry_of, is_in_trait, predefined_name, seen_from, directly, shown, used_package, shown_by, uses_from, Found, unseen, joined, shown_by_all, by_use, or_else, plainly, term_at, or_further, in_term_from, is_in_term, operator_named, object_first, named}
use Rattle.name_laws.specs.Laws.{renamed, Apart, IsApart, ClausesApart}
use Rattle.name_laws.proofs.Seeing.{is_name, first_name}

-- what each `use` clause has, those round a place have
module _ (Q : Entry → Type 0) (es : List Entry) (clauses : AllByRecursion (λ u. is_space u.space space.Uses ≡ true → Q u) es) where
  clauses_in : (r : List ℕ) → AllByRecursion Q (uses_in es r)
  clauses_in r = go es clauses
    where
      go : (xs : List Entry) → AllByRecursion (λ u. is_space u.space space.Uses ≡ true → Q u) xs → AllByRecursion Q (uses_in xs r)
      go [] h = tt
      go (x ∷ xs) h = by (is_use_in r x) refl (go xs h.1)
        where
          by : (t : Bool) → is_use_in r x ≡ t → AllByRecursion Q (uses_in xs r) → AllByRecursion Q (cond t (x ∷ uses_in xs r) (uses_in xs r))
          by true is further = (h.0 (and_parts (is_space x.space space.Uses) (bytes_eq x.region r) is).0, further)
          by false is further = further

  both_all : (xs ys : List Entry) → AllByRecursion Q xs → AllByRecursion Q ys → AllByRecursion Q (xs ++ ys)
  both_all [] ys h g = g
  both_all (x ∷ xs) ys h g = (h.0, both_all xs ys h.1 g)

  pub clauses_from : (place : List ℕ) (n : ℕ) → AllByRecursion Q (uses_from es place n)
  clauses_from place zero = clauses_in (declaration_unit es (unit_of place))
  clauses_from place (suc n) = both_all (uses_in es (region_of es (take (suc n) place))) (uses_from es place n) (clauses_in (region_of es (take (suc n) place))) (clauses_from place n)

module _ (at new : List ℕ) where
  abbrev f : Entry → Entry
  f e = renamed at new e

  -- what doesn't speak of the name
  pub keeps : {A : Type 0} (p : Entry → A) → ((e : Entry) → p (record e { name = new }) ≡ p e) → (e : Entry) → p (f e) ≡ p e
  keeps p h e = by (bytes_eq e.place at)
    where
      by : (t : Bool) → p (if t then record e { name = new } else e) ≡ p e
      by true = h e
      by false = refl

  pub fixed_place : (e : Entry) → bytes_eq e.place at ≡ false → f e ≡ e
  fixed_place e h = by (bytes_eq e.place at) h
    where
      by : (t : Bool) → t ≡ false → (if t then record e { name = new } else e) ≡ e
      by true h = absurd cc
      by false h = refl

  at_same : (p : List ℕ) (es : List Entry) → entry_at (map f es) p ≡ option_map f (entry_at es p)
  at_same p [] = refl
  at_same p (x ∷ es) = ap (λ (t : Bool). cond t (Some (f x)) (entry_at (map f es) p)) (keeps (λ (e : Entry). is_at p e) (λ e. refl) x) ∙ by (is_at p x) (at_same p es)
    where
      by : (t : Bool) → entry_at (map f es) p ≡ option_map f (entry_at es p) → cond t (Some (f x)) (entry_at (map f es) p) ≡ option_map f (cond t (Some x) (entry_at es p))
      by true h = refl
      by false h = h

  -- what is asked of an entry at a place, but for its name
  asked : {A : Type 0} (q : Option Entry → A) → ((e : Entry) → q (Some (record e { name = new })) ≡ q (Some e)) → (p : List ℕ) (es : List Entry) → q (entry_at (map f es) p) ≡ q (entry_at es p)
  asked q h p es = ap q (at_same p es) ∙ by (entry_at es p)
    where
      by : (o : Option Entry) → q (option_map f o) ≡ q o
      by (Some e) = keeps (λ (x : Entry). q (Some x)) h e
      by None = refl

  module _ (es : List Entry) where
    pub region_same : (q : List ℕ) → region_of (map f es) q ≡ region_of es q
    region_same q = asked (λ (o : Option Entry). elim o [ Some e ↦ if is_kind e.kind kind.Body then e.origin else q | None ↦ q ]) (λ e. refl) q es

    pub entry_of_same : (k : Kind) (p : List ℕ) → is_entry_of k (entry_at (map f es) p) ≡ is_entry_of k (entry_at es p)
    entry_of_same k p = asked (is_entry_of k) (λ e. refl) p es

    pub unit_same : (unit : List ℕ) → declaration_unit (map f es) unit ≡ declaration_unit es unit
    unit_same unit =
        ap (λ (o : Option Entry). R (option_or o (entry_at (map f es) (unit ▸ 1 ▸ 0)))) (at_same (unit ▸ 1) es)
        ∙ ap (λ (o : Option Entry). R (option_or (option_map f (entry_at es (unit ▸ 1))) o)) (at_same (unit ▸ 1 ▸ 0) es)
        ∙ by (entry_at es (unit ▸ 1)) (entry_at es (unit ▸ 1 ▸ 0))
      where
        R : Option Entry → List ℕ
        R o = elim o [ Some e ↦ unit_of e.origin | None ↦ unit ]

        by : (a b : Option Entry) → R (option_or (option_map f a) (option_map f b)) ≡ R (option_or a b)
        by (Some e) b = keeps (λ (x : Entry). unit_of x.origin) (λ e. refl) e
        by None (Some e) = keeps (λ (x : Entry). unit_of x.origin) (λ e. refl) e
        by None None = refl

    pub term_same : (place : List ℕ) (n : ℕ) → in_term_from (map f es) place n ≡ in_term_from es place n
    term_same place zero = refl
    term_same place (suc n) =
        ap (λ (o : Option Bool). or_further o (in_term_from (map f es) place n)) (asked (term_at place) (λ e. refl) (take (suc n) place) es)
        ∙ ap (or_further (term_at place (entry_at es (take (suc n) place)))) (term_same place n)

  -- ---- look-ups of another name

  module _ (es : List Entry) (name : List ℕ) (apart : Apart at new es name) where
    test_same : (s : Space) (r : List ℕ) (e : Entry) → IsApart at name e → is_of s r name (f e) ≡ is_of s r name e
    test_same s r e h = by (bytes_eq e.place at) h
      where
        by : (t : Bool) → (t && bytes_eq e.name name) ≡ false → is_of s r name (if t then record e { name = new } else e) ≡ is_of s r name e
        by true h = ap (λ (b : Bool). is_space e.space s && (bytes_eq e.region r && b)) (apart.new_name ∙ sym h)
        by false h = refl

    fixed_name : (e : Entry) → IsApart at name e → bytes_eq e.name name ≡ true → f e ≡ e
    fixed_name e h is = by (bytes_eq e.place at) h
      where
        by : (t : Bool) → (t && bytes_eq e.name name) ≡ false → (if t then record e { name = new } else e) ≡ e
        by true h = absurd (let no : true ≡ false = sym is ∙ h in cc)
        by false h = refl

    pub first_same : (s : Space) (r : List ℕ) → first_of (map f es) s r name ≡ first_of es s r name
    first_same s r = go es apart.old_name
      where
        go : (xs : List Entry) → AllByRecursion (IsApart at name) xs → first_of (map f xs) s r name ≡ first_of xs s r name
        go [] h = refl
        go (x ∷ xs) h = ap (λ (t : Bool). cond t (Some (f x)) (first_of (map f xs) s r name)) (test_same s r x h.0) ∙ by (is_of s r name x) refl (go xs h.1)
          where
            by : (t : Bool) → is_of s r name x ≡ t → first_of (map f xs) s r name ≡ first_of xs s r name → cond t (Some (f x)) (first_of (map f xs) s r name) ≡ cond t (Some x) (first_of xs s r name)
            by true is further = ap (λ (e : Entry). Some e) (fixed_name x h.0 (is_name s r name x is))
            by false is further = further

    module _ (place : List ℕ) where
      known_same : (e : Entry) → e.name ≡ name → (unit : List ℕ) → is_known_in (map f es) e unit ≡ is_known_in es e unit
      known_same e is unit =
          ap (λ (n : List ℕ). bytes_eq (unit_of e.place) unit || is_some (first_of (map f es) space.Withs unit n)) is
          ∙ ap (λ (o : Option Entry). bytes_eq (unit_of e.place) unit || is_some o) (first_same space.Withs unit)
          ∙ ap (λ (n : List ℕ). bytes_eq (unit_of e.place) unit || is_some (first_of es space.Withs unit n)) (sym is)

      context_same : (e : Entry) → e.name ≡ name → is_in_context (map f es) place e ≡ is_in_context es place e
      context_same e is =
          ap (λ (unit : List ℕ). is_known_in (map f es) e (unit_of place) || is_known_in (map f es) e unit) (unit_same es (unit_of place))
          ∙ ap (λ (b : Bool). b || is_known_in (map f es) e (declaration_unit es (unit_of place))) (known_same e is (unit_of place))
          ∙ ap (λ (b : Bool). is_known_in es e (unit_of place) || b) (known_same e is (declaration_unit es (unit_of place)))

      library_same : library_unit (map f es) place name ≡ library_unit es place name
      library_same = ap (only (λ e. is_visible place e && is_in_context (map f es) place e)) (first_same space.Names []) ∙ by (first_of es space.Names [] name) refl
        where
          by : (o : Option Entry) → first_of es space.Names [] name ≡ o → only (λ e. is_visible place e && is_in_context (map f es) place e) o ≡ only (λ e. is_visible place e && is_in_context es place e) o
          by (Some e) is = ap (λ (b : Bool). if is_visible place e && b then Some e else None) (context_same e (first_name es space.Names [] name e is))
          by None is = refl

      predefined_same : predefined_name (map f es) place name ≡ predefined_name es place name
      predefined_same =
          ap (λ (t : Bool). only (λ e. not t || is_kind e.kind kind.Enum) (first_of (map f es) space.Predefined [] name)) (entry_of_same es kind.Trait (unit_of place))
          ∙ ap (only (λ e. not (is_in_trait es place) || is_kind e.kind kind.Enum)) (first_same space.Predefined [])

      seen_same : (n : ℕ) → seen_from (map f es) place name n ≡ seen_from es place name n
      seen_same zero = ap (λ (o : Option Entry). option_or o (predefined_name (map f es) place name)) library_same ∙ ap (option_or (library_unit es place name)) predefined_same
      seen_same (suc n) =
          ap (λ (q : List ℕ). option_or (in_region (map f es) place name q) (seen_from (map f es) place name n)) (region_same es (take (suc n) place))
          ∙ ap (λ (o : Option Entry). option_or (only (is_visible place) o) (seen_from (map f es) place name n)) (first_same space.Names (region_of es (take (suc n) place)))
          ∙ ap (option_or (in_region es place name (region_of es (take (suc n) place)))) (seen_same n)

      directly_same : directly (map f es) place name ≡ directly es place name
      directly_same = seen_same (length place)

      earlier_same : earlier_unit (map f es) place name ≡ earlier_unit es place name
      earlier_same = ap (only (λ e. has_ended e.from place)) (first_same space.Names [])

  -- ---- use clauses

  -- the names of `use` clauses stand elsewhere
  abbrev pub UsesElsewhere : List Entry → Type 0
  UsesElsewhere es = AllByRecursion (λ u. is_space u.space space.Uses ≡ true → bytes_eq u.place at ≡ false) es

  uses_same : (es : List Entry) → UsesElsewhere es → (r : List ℕ) → uses_in (map f es) r ≡ uses_in es r
  uses_same [] h r = refl
  uses_same (x ∷ xs) h r = ap (λ (t : Bool). cond t (f x ∷ uses_in (map f xs) r) (uses_in (map f xs) r)) (keeps (is_use_in r) (λ e. refl) x) ∙ by (is_use_in r x) refl (uses_same xs h.1 r)
    where
      by : (t : Bool) → is_use_in r x ≡ t → uses_in (map f xs) r ≡ uses_in xs r → cond t (f x ∷ uses_in (map f xs) r) (uses_in (map f xs) r) ≡ cond t (x ∷ uses_in xs r) (uses_in xs r)
      by true is further = ap (λ (y : Entry). y ∷ uses_in (map f xs) r) (fixed_place x (h.0 (and_parts (is_space x.space space.Uses) (bytes_eq x.region r) is).0)) ∙ ap (λ (ys : List Entry). x ∷ ys) further
      by false is further = further

  pub uses_from_same : (es : List Entry) → UsesElsewhere es → (place : List ℕ) (n : ℕ) → uses_from (map f es) place n ≡ uses_from es place n
  uses_from_same es h place zero = ap (uses_in (map f es)) (unit_same es (unit_of place)) ∙ uses_same es h (declaration_unit es (unit_of place))
  uses_from_same es h place (suc n) =
      ap (λ (q : List ℕ). uses_in (map f es) q ++ uses_from (map f es) place n) (region_same es (take (suc n) place))
      ∙ ap (λ (us : List Entry). us ++ uses_from (map f es) place n) (uses_same es h (region_of es (take (suc n) place)))
      ∙ ap (λ (us : List Entry). uses_in es (region_of es (take (suc n) place)) ++ us) (uses_from_same es h place n)

  module _ (es : List Entry) (clauses : ClausesApart at new es) where
    abbrev Q : Entry → Type 0
    Q u = (bytes_eq u.place at ≡ false) × Apart at new es u.name

    elsewhere : (xs : List Entry) → AllByRecursion (λ u. is_space u.space space.Uses ≡ true → Q u) xs → UsesElsewhere xs
    elsewhere [] h = tt
    elsewhere (x ∷ xs) h = (λ is. (h.0 is).0, elsewhere xs h.1)

    module _ (place name : List ℕ) (apart : Apart at new es name) where
      shown_by_same : (u : Entry) → Q u → shown_by (map f es) place name u ≡ shown_by es place name u
      shown_by_same u q = ap S (ap (only (λ e. is_kind e.kind kind.Pack)) (directly_same es u.name q.1 u.place)) ∙ by (used_package es u)
        where
          S : Option Entry → Option Entry
          S o = elim o [ Some pack ↦ if has_ended u.from place then shown (map f es) place name pack else None | None ↦ None ]

          by : (o : Option Entry) → S o ≡ (elim o [ Some pack ↦ if has_ended u.from place then shown es place name pack else None | None ↦ None ])
          by (Some pack) = ap (λ (o : Option Entry). if has_ended u.from place then only (λ e. is_in (pack.place ▸ 0) e.place && has_ended e.from place) o else None) (first_same es name apart space.Names pack.place)
          by None = refl

      all_same : (cs : List Entry) → AllByRecursion Q cs → (found : Found) → shown_by_all (map f es) place name found cs ≡ shown_by_all es place name found cs
      all_same [] h found = refl
      all_same (c ∷ cs) h found = ap (λ (o : Option Entry). shown_by_all (map f es) place name (joined found o) cs) (shown_by_same c h.0) ∙ all_same cs h.1 (joined found (shown_by es place name c))

      use_same : by_use (map f es) place name ≡ by_use es place name
      use_same = ap (shown_by_all (map f es) place name unseen) (uses_from_same es (elsewhere es clauses) place (length place)) ∙ all_same (uses_from es place (length place)) (clauses_from Q es clauses place (length place)) unseen

      plainly_same : plainly (map f es) place name ≡ plainly es place name
      plainly_same =
          ap (λ (t : Bool). if t then or_else (earlier_unit (map f es) place name) unseen else or_else (directly (map f es) place name) (by_use (map f es) place name)) (entry_of_same es kind.With place)
          ∙ ap (λ (o : Option Entry). if is_entry_of kind.With (entry_at es place) then or_else o unseen else or_else (directly (map f es) place name) (by_use (map f es) place name)) (earlier_same es name apart place)
          ∙ ap (λ (o : Option Entry). if is_entry_of kind.With (entry_at es place) then or_else (earlier_unit es place name) unseen else or_else o (by_use (map f es) place name)) (directly_same es name apart place)
          ∙ ap (λ (g : Found). if is_entry_of kind.With (entry_at es place) then or_else (earlier_unit es place name) unseen else or_else (directly es place name) g) use_same

      pub named_same : named (map f es) place name ≡ named es place name
      named_same =
          ap (λ (t : Bool). if t then object_first (operator_named (map f es) place name) (plainly (map f es) place name) else plainly (map f es) place name) (term_same es place (length place))
          ∙ ap (λ (o : Option Entry). if is_in_term es place then object_first (only (λ e. has_ended e.from place) o) (plainly (map f es) place name) else plainly (map f es) place name) (first_same es name apart space.Operators [])
          ∙ ap (λ (g : Found). if is_in_term es place then object_first (operator_named es place name) g else g) plainly_same
