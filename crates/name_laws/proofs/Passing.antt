-- A declaration that a name doesn't see, under another name: the name sees what it saw.
use Rattle.std.proofs.Common.{◌≡◌, ℕ, zero, suc, List, [], ◌∷◌, map, take, length, Bool, true, false, ◌&&◌, ◌||◌, cond, Option, Some, None, refl, sym, ap, subst, ◌∙◌}
use Rattle.std.specs.Prelude.{bytes_eq, not, is_some, is_none, Contains, if◌then◌else◌}
use Rattle.std.specs.List.{AllByRecursion}
use Rattle.std.specs.Option.{option_or}
use Rattle.std.proofs.lemmas.Bool.{and_parts}
use lib.Pointwise.{bytes_decides}
use Rattle.ada_tree.specs.declared.kind.Kind.TheVariants as kind
use Rattle.ada_tree.specs.Kinds.{is_kind}
use Rattle.ada_names.specs.declared.entry.Entry.{Entry}
use Rattle.ada_names.specs.declared.entry.Space.{Space}
use Rattle.ada_names.specs.declared.entry.Space.TheVariants as space
use Rattle.ada_names.specs.Places.{◌▸◌, has_ended, is_in}
use Rattle.ada_names.specs.Entries.{is_space, is_of, first_of, entry_at}
use Rattle.ada_names.specs.Sees.{only, is_visible, region_of, in_region, unit_of, declaration_unit, is_known_in, is_in_context, library_unit, earlier_unit, is_entry_of, is_in_trait, predefined_name, seen_from, directly, shown, used_package, shown_by, uses_from, Found, unseen, one, several, joined, shown_by_all, by_use, or_else, plainly, is_in_term, is_value, operator_named, object_first, named, selected, type_shown, selected_in_trait, found}
use Rattle.name_laws.specs.Laws.{renamed, IsNot, IsOther, PassesBy, PrefixPassesBy, PassBy, IsNew, IsUnused}
use Rattle.name_laws.proofs.Seeing.{is_name}
use Rattle.name_laws.proofs.Renaming.{entry_of_same, region_same, unit_same, term_same, UsesElsewhere, uses_from_same, clauses_from}
use Rattle.name_laws.proofs.Retold.{head_in, tail_in}

-- ---- what passes two tests

only_swap : (p q : Entry → Bool) (o : Option Entry) → only p (only q o) ≡ only q (only p o)
only_swap p q None = refl
only_swap p q (Some e) = by (p e) (q e) refl refl
  where
    by : (t u : Bool) → p e ≡ t → q e ≡ u → only p (if u then Some e else None) ≡ only q (if t then Some e else None)
    by true true is_p is_q = ap (λ (b : Bool). if b then Some e else None) (is_p ∙ sym is_q)
    by true false is_p is_q = sym (ap (λ (b : Bool). if b then Some e else None) is_q)
    by false true is_p is_q = ap (λ (b : Bool). if b then Some e else None) is_p
    by false false is_p is_q = refl

only_tested : (p q : Entry → Bool) (o : Option Entry) → ((e : Entry) → o ≡ Some e → p e ≡ q e) → only p o ≡ only q o
only_tested p q None h = refl
only_tested p q (Some e) h = ap (λ (b : Bool). if b then Some e else None) (h e refl)

and_false : (a b : Bool) → (a && (b && false)) ≡ false
and_false true true = refl
and_false true false = refl
and_false false b = refl

module _ (at new : List ℕ) where
  abbrev f : Entry → Entry
  f e = renamed at new e

  abbrev other : Entry → Bool
  other e = not (bytes_eq e.place at)

  passed : (o : Option Entry) → IsNot at o → only other o ≡ o
  passed None h = refl
  passed (Some e) h = ap (λ (b : Bool). if not b then Some e else None) h

  passed_or : (o : Option Entry) → IsOther at (or_else o unseen) → or_else (only other o) unseen ≡ or_else o unseen
  passed_or None h = refl
  passed_or (Some e) h = ap (λ (o : Option Entry). or_else o unseen) (passed (Some e) h)

  operator_passed : (o : Option Entry) (plain : Found) → IsOther at (object_first o plain) → object_first (only other o) plain ≡ object_first o plain
  operator_passed None plain h = refl
  operator_passed (Some e) unseen h = ap (λ (o : Option Entry). or_else o unseen) (passed (Some e) h)
  operator_passed (Some e) several h = ap (λ (o : Option Entry). or_else o several) (passed (Some e) h)
  operator_passed (Some e) (one x) h = by (is_value x.kind || is_none x.number) h
    where
      by : (t : Bool) → IsOther at (if t then one x else one e) → (if t then one x else or_else (only other (Some e)) (one x)) ≡ (if t then one x else one e)
      by true h = refl
      by false h = ap (λ (o : Option Entry). or_else o (one x)) (passed (Some e) h)

  first_passed_or : (a b after : Option Entry) → IsNot at (option_or a b) → (IsNot at b → after ≡ b) → option_or (only other a) after ≡ option_or a b
  first_passed_or None b after h further = further h
  first_passed_or (Some e) b after h further = ap (λ (o : Option Entry). option_or o after) (passed (Some e) h)

  -- ---- look-ups

  -- under its new name it passes no test of another name
  renamed_fails : (s : Space) (r name : List ℕ) (x : Entry) → bytes_eq new name ≡ false → is_of s r name (record x { name = new }) ≡ false
  renamed_fails s r name x fresh = ap (λ (b : Bool). is_space x.space s && (bytes_eq x.region r && b)) fresh ∙ and_false (is_space x.space s) (bytes_eq x.region r)

  abbrev Alone : List Entry → Type 0
  Alone xs = (d e : Entry) → Contains xs d → Contains xs e → bytes_eq d.place at ≡ true → bytes_eq e.place at ≡ false → (bytes_eq d.region e.region && bytes_eq d.name e.name) ≡ false

  -- what passes a test has its region and its name
  region_is : (s : Space) (r name : List ℕ) (x : Entry) → is_of s r name x ≡ true → x.region ≡ r
  region_is s r name x is = (bytes_decides x.region r).0 (and_parts (bytes_eq x.region r) (bytes_eq x.name name) (and_parts (is_space x.space s) (bytes_eq x.region r && bytes_eq x.name name) is).1).0

  name_is : (s : Space) (r name : List ℕ) (x : Entry) → is_of s r name x ≡ true → x.name ≡ name
  name_is s r name x is = (bytes_decides x.name name).0 (is_name s r name x is)

  both_true : (a b : Bool) → a ≡ true → b ≡ true → (a && b) ≡ true
  both_true true b h g = g
  both_true false b h g = absurd cc

  two_are_alike : (s : Space) (r name : List ℕ) (x y : Entry) → is_of s r name x ≡ true → is_of s r name y ≡ true → (bytes_eq x.region y.region && bytes_eq x.name y.name) ≡ true
  two_are_alike s r name x y is_x is_y =
      both_true (bytes_eq x.region y.region) (bytes_eq x.name y.name)
      ((bytes_decides x.region y.region).1 (region_is s r name x is_x ∙ sym (region_is s r name y is_y)))
      ((bytes_decides x.name y.name).1 (name_is s r name x is_x ∙ sym (name_is s r name y is_y)))

  module _ (name : List ℕ) (fresh : bytes_eq new name ≡ false) where
    module _ (s : Space) (r : List ℕ) where
      -- after the entry nothing has its name
      none_further : (x : Entry) → is_of s r name x ≡ true → (xs : List Entry) → ((e : Entry) → Contains xs e → bytes_eq e.place at ≡ false → (bytes_eq x.region e.region && bytes_eq x.name e.name) ≡ false) → first_of (map f xs) s r name ≡ None
      none_further x is [] h = refl
      none_further x is (y ∷ ys) h = ap (λ (b : Bool). cond b (Some (f y)) (first_of (map f ys) s r name)) (fails (bytes_eq y.place at) refl) ∙ none_further x is ys (λ e has. h e (tail_in y ys e has))
        where
          unlike : (b : Bool) → is_of s r name y ≡ b → bytes_eq y.place at ≡ false → is_of s r name y ≡ false
          unlike false test elsewhere = test
          unlike true test elsewhere = cc (h y (head_in y ys) elsewhere, two_are_alike s r name x y is test)

          fails : (t : Bool) → bytes_eq y.place at ≡ t → is_of s r name (if t then record y { name = new } else y) ≡ false
          fails true there = renamed_fails s r name y fresh
          fails false there = unlike (is_of s r name y) refl there

      first_among : (xs : List Entry) → Alone xs → first_of (map f xs) s r name ≡ only other (first_of xs s r name)
      first_among [] alone = refl
      first_among (x ∷ xs) alone = by (bytes_eq x.place at) refl (first_among xs (λ d e has_d has_e. alone d e (tail_in x xs d has_d) (tail_in x xs e has_e)))
        where
          here : (b : Bool) → is_of s r name x ≡ b → bytes_eq x.place at ≡ true → first_of (map f xs) s r name ≡ only other (first_of xs s r name) → first_of (map f xs) s r name ≡ only other (cond b (Some x) (first_of xs s r name))
          here true is there further = none_further x is xs (λ e has elsewhere. alone x e (head_in x xs) (tail_in x xs e has) there elsewhere) ∙ sym (ap (λ (b : Bool). if not b then Some x else None) there)
          here false is there further = further

          elsewhere : (b : Bool) → bytes_eq x.place at ≡ false → first_of (map f xs) s r name ≡ only other (first_of xs s r name) → cond b (Some x) (first_of (map f xs) s r name) ≡ only other (cond b (Some x) (first_of xs s r name))
          elsewhere true there further = sym (ap (λ (b : Bool). if not b then Some x else None) there)
          elsewhere false there further = further

          by : (t : Bool) → bytes_eq x.place at ≡ t → first_of (map f xs) s r name ≡ only other (first_of xs s r name) → cond (is_of s r name (if t then record x { name = new } else x)) (Some (if t then record x { name = new } else x)) (first_of (map f xs) s r name) ≡ only other (cond (is_of s r name x) (Some x) (first_of xs s r name))
          by true there further = ap (λ (b : Bool). cond b (Some (record x { name = new })) (first_of (map f xs) s r name)) (renamed_fails s r name x fresh) ∙ here (is_of s r name x) refl there further
          by false there further = elsewhere (is_of s r name x) there further

  module _ (es : List Entry) (unused : IsUnused at new es) where
    abbrev after : List Entry
    after = map f es

    -- a `with` clause names what it named
    withs_among : (xs : List Entry) → ((e : Entry) → Contains xs e → bytes_eq e.place at ≡ true → is_space e.space space.Withs ≡ false) → (r name : List ℕ) → is_some (first_of (map f xs) space.Withs r name) ≡ is_some (first_of xs space.Withs r name)
    withs_among [] h r name = refl
    withs_among (x ∷ xs) h r name = ap (λ (b : Bool). is_some (cond b (Some (f x)) (first_of (map f xs) space.Withs r name))) (tested (bytes_eq x.place at) refl) ∙ by (is_of space.Withs r name x) (withs_among xs (λ e has. h e (tail_in x xs e has)) r name)
      where
        tested : (t : Bool) → bytes_eq x.place at ≡ t → is_of space.Withs r name (if t then record x { name = new } else x) ≡ is_of space.Withs r name x
        tested true there = ap (λ (b : Bool). b && (bytes_eq x.region r && bytes_eq new name)) (h x (head_in x xs) there) ∙ sym (ap (λ (b : Bool). b && (bytes_eq x.region r && bytes_eq x.name name)) (h x (head_in x xs) there))
        tested false there = refl

        by : (t : Bool) → is_some (first_of (map f xs) space.Withs r name) ≡ is_some (first_of xs space.Withs r name) → is_some (cond t (Some (f x)) (first_of (map f xs) space.Withs r name)) ≡ is_some (cond t (Some x) (first_of xs space.Withs r name))
        by true further = refl
        by false further = further

    known_same : (e : Entry) (unit : List ℕ) → is_known_in after e unit ≡ is_known_in es e unit
    known_same e unit = ap (λ (b : Bool). bytes_eq (unit_of e.place) unit || b) (withs_among es (λ x has there. (unused.no_mention x has there).0) unit e.name)

    context_same : (place : List ℕ) (e : Entry) → is_in_context after place e ≡ is_in_context es place e
    context_same place e =
        ap (λ (unit : List ℕ). is_known_in after e (unit_of place) || is_known_in after e unit) (unit_same at new es (unit_of place))
        ∙ ap (λ (b : Bool). b || is_known_in after e (declaration_unit es (unit_of place))) (known_same e (unit_of place))
        ∙ ap (λ (b : Bool). is_known_in es e (unit_of place) || b) (known_same e (declaration_unit es (unit_of place)))

    uses_elsewhere : UsesElsewhere at new es
    uses_elsewhere = go es unused.no_mention
      where
        turned : (x : Entry) (t : Bool) → bytes_eq x.place at ≡ t → (bytes_eq x.place at ≡ true → (is_space x.space space.Withs ≡ false) × (is_space x.space space.Uses ≡ false)) → is_space x.space space.Uses ≡ true → bytes_eq x.place at ≡ false
        turned x false there h is = there
        turned x true there h is = cc ((h there).1, is)

        go : (xs : List Entry) → ((e : Entry) → Contains xs e → bytes_eq e.place at ≡ true → (is_space e.space space.Withs ≡ false) × (is_space e.space space.Uses ≡ false)) → UsesElsewhere at new xs
        go [] h = tt
        go (x ∷ xs) h = (turned x (bytes_eq x.place at) refl (h x (head_in x xs)), go xs (λ e has. h e (tail_in x xs e has)))

    module _ (name : List ℕ) (fresh : bytes_eq new name ≡ false) where
      first_passed : (s : Space) (r : List ℕ) → first_of after s r name ≡ only other (first_of es s r name)
      first_passed s r = first_among name fresh s r es unused.alone.alone

      -- what is found under a test of the place alone
      tested_passed : (test : Entry → Bool) (s : Space) (r : List ℕ) → only test (first_of after s r name) ≡ only other (only test (first_of es s r name))
      tested_passed test s r = ap (only test) (first_passed s r) ∙ only_swap test other (first_of es s r name)

      pub shown_passed : (place : List ℕ) (pack : Entry) → shown after place name pack ≡ only other (shown es place name pack)
      shown_passed place pack = tested_passed (λ e. is_in (pack.place ▸ 0) e.place && has_ended e.from place) space.Names pack.place

      pub earlier_passed : (place : List ℕ) → earlier_unit after place name ≡ only other (earlier_unit es place name)
      earlier_passed place = tested_passed (λ e. has_ended e.from place) space.Names []

      module _ (place : List ℕ) where
        library_passed : library_unit after place name ≡ only other (library_unit es place name)
        library_passed =
            only_tested (λ e. is_visible place e && is_in_context after place e) (λ e. is_visible place e && is_in_context es place e) (first_of after space.Names [] name) (λ e is. ap (λ (b : Bool). is_visible place e && b) (context_same place e))
            ∙ tested_passed (λ e. is_visible place e && is_in_context es place e) space.Names []

        predefined_passed : predefined_name after place name ≡ only other (predefined_name es place name)
        predefined_passed =
            ap (λ (t : Bool). only (λ e. not t || is_kind e.kind kind.Enum) (first_of after space.Predefined [] name)) (entry_of_same at new es kind.Trait (unit_of place))
            ∙ tested_passed (λ e. not (is_in_trait es place) || is_kind e.kind kind.Enum) space.Predefined []

        seen_passed : (n : ℕ) → IsNot at (seen_from es place name n) → seen_from after place name n ≡ seen_from es place name n
        seen_passed zero h =
            ap (λ (o : Option Entry). option_or o (predefined_name after place name)) library_passed
            ∙ first_passed_or (library_unit es place name) (predefined_name es place name) (predefined_name after place name) h (λ g. predefined_passed ∙ passed (predefined_name es place name) g)
        seen_passed (suc n) h =
            ap (λ (q : List ℕ). option_or (in_region after place name q) (seen_from after place name n)) (region_same at new es (take (suc n) place))
            ∙ ap (λ (o : Option Entry). option_or o (seen_from after place name n)) (tested_passed (is_visible place) space.Names (region_of es (take (suc n) place)))
            ∙ first_passed_or (in_region es place name (region_of es (take (suc n) place))) (seen_from es place name n) (seen_from after place name n) h (seen_passed n)

        directly_passed : IsNot at (directly es place name) → directly after place name ≡ directly es place name
        directly_passed h = seen_passed (length place) h

    -- ---- use clauses

    abbrev Q : Entry → Type 0
    Q u = (bytes_eq new u.name ≡ false) × IsNot at (directly es u.place u.name)

    each_use : AllByRecursion (λ u. is_space u.space space.Uses ≡ true → Q u) es
    each_use = go es (λ u has is. (unused.alone.fresh u has, unused.clauses u has is))
      where
        go : (xs : List Entry) → ((u : Entry) → Contains xs u → is_space u.space space.Uses ≡ true → Q u) → AllByRecursion (λ u. is_space u.space space.Uses ≡ true → Q u) xs
        go [] h = tt
        go (x ∷ xs) h = (h x (head_in x xs), go xs (λ u has. h u (tail_in x xs u has)))

    -- one other declaration is found, or none
    abbrev OneOther : Found → Type 0
    OneOther (one e) = bytes_eq e.place at ≡ false
    OneOther unseen = Unit {0}
    OneOther several = ⊥

    -- what was found before another clause wasn't the entry either
    other_before : (acc : Found) (o : Option Entry) → OneOther (joined acc o) → OneOther acc
    other_before acc None h = h
    other_before unseen (Some e) h = tt
    other_before (one d) (Some e) h = by (bytes_eq d.place e.place) h
      where
        by : (t : Bool) → OneOther (if t then one d else several) → bytes_eq d.place at ≡ false
        by true h = h
        by false h = absurd h
    other_before several (Some e) h = absurd h

    other_shown : (acc : Found) (e : Entry) → OneOther (joined acc (Some e)) → bytes_eq e.place at ≡ false
    other_shown unseen e h = h
    other_shown (one d) e h = by (bytes_eq d.place e.place) refl h
      where
        by : (t : Bool) → bytes_eq d.place e.place ≡ t → OneOther (if t then one d else several) → bytes_eq e.place at ≡ false
        by true is h = subst (λ (p : List ℕ). bytes_eq p at ≡ false) ((bytes_decides d.place e.place).0 is) h
        by false is h = absurd h
    other_shown several e h = absurd h

    module _ (place name : List ℕ) (fresh : bytes_eq new name ≡ false) where
      shown_by_passed : (u : Entry) → Q u → shown_by after place name u ≡ only other (shown_by es place name u)
      shown_by_passed u q = ap S (ap (only (λ e. is_kind e.kind kind.Pack)) (directly_passed u.name q.0 u.place q.1)) ∙ by (used_package es u)
        where
          S : Option Entry → Option Entry
          S o = elim o [ Some pack ↦ if has_ended u.from place then shown after place name pack else None | None ↦ None ]

          ended : (t : Bool) (pack : Entry) → (if t then shown after place name pack else None) ≡ only other (if t then shown es place name pack else None)
          ended true pack = shown_passed name fresh place pack
          ended false pack = refl

          by : (o : Option Entry) → S o ≡ only other (elim o [ Some pack ↦ if has_ended u.from place then shown es place name pack else None | None ↦ None ])
          by (Some pack) = ended (has_ended u.from place) pack
          by None = refl

      abbrev NotShown : List Entry → Type 0
      NotShown cs = AllByRecursion (λ c. IsNot at (shown_by es place name c)) cs

      all_before : (cs : List Entry) (acc : Found) → OneOther (shown_by_all es place name acc cs) → OneOther acc
      all_before [] acc h = h
      all_before (c ∷ cs) acc h = other_before acc (shown_by es place name c) (all_before cs (joined acc (shown_by es place name c)) h)

      one_passed : (acc : Found) (o : Option Entry) → OneOther (joined acc o) → IsNot at o
      one_passed acc None h = tt
      one_passed acc (Some e) h = other_shown acc e h

      none_found : (cs : List Entry) (acc : Found) → OneOther (shown_by_all es place name acc cs) → NotShown cs
      none_found [] acc h = tt
      none_found (c ∷ cs) acc h = (one_passed acc (shown_by es place name c) (all_before cs (joined acc (shown_by es place name c)) h), none_found cs (joined acc (shown_by es place name c)) h)

      none_in : (cs : List Entry) → ((c : Entry) → Contains cs c → IsNot at (shown_by es place name c)) → NotShown cs
      none_in [] h = tt
      none_in (c ∷ cs) h = (h c (head_in c cs), none_in cs (λ d has. h d (tail_in c cs d has)))

      none_shown : IsOther at (by_use es place name) → (by_use es place name ≡ several → (c : Entry) → Contains (uses_from es place (length place)) c → IsNot at (shown_by es place name c)) → NotShown (uses_from es place (length place))
      none_shown = by (by_use es place name) refl
        where
          by : (g : Found) → by_use es place name ≡ g → IsOther at g → (g ≡ several → (c : Entry) → Contains (uses_from es place (length place)) c → IsNot at (shown_by es place name c)) → NotShown (uses_from es place (length place))
          by unseen is h used = none_found (uses_from es place (length place)) unseen (subst OneOther (sym is) tt)
          by (one e) is h used = none_found (uses_from es place (length place)) unseen (subst OneOther (sym is) h)
          by several is h used = none_in (uses_from es place (length place)) (used refl)

      all_passed : (cs : List Entry) → AllByRecursion Q cs → NotShown cs → (acc : Found) → shown_by_all after place name acc cs ≡ shown_by_all es place name acc cs
      all_passed [] h none acc = refl
      all_passed (c ∷ cs) h none acc =
          ap (λ (o : Option Entry). shown_by_all after place name (joined acc o) cs) (shown_by_passed c h.0 ∙ passed (shown_by es place name c) none.0)
          ∙ all_passed cs h.1 none.1 (joined acc (shown_by es place name c))

      use_passed : NotShown (uses_from es place (length place)) → by_use after place name ≡ by_use es place name
      use_passed none = ap (shown_by_all after place name unseen) (uses_from_same at new es uses_elsewhere place (length place)) ∙ all_passed (uses_from es place (length place)) (clauses_from Q es each_use place (length place)) none unseen

      abbrev Used : Found → Type 0
      Used g = g ≡ several → (c : Entry) → Contains (uses_from es place (length place)) c → IsNot at (shown_by es place name c)

      plainly_passed : IsOther at (plainly es place name) → Used (plainly es place name) → plainly after place name ≡ plainly es place name
      plainly_passed h used =
          ap (λ (t : Bool). if t then or_else (earlier_unit after place name) unseen else or_else (directly after place name) (by_use after place name)) (entry_of_same at new es kind.With place)
          ∙ by (is_entry_of kind.With (entry_at es place)) h used
        where
          by_place : (o : Option Entry) → directly es place name ≡ o → IsOther at (or_else o (by_use es place name)) → Used (or_else o (by_use es place name)) → or_else (directly after place name) (by_use after place name) ≡ or_else o (by_use es place name)
          by_place (Some e) is h used = ap (λ (o : Option Entry). or_else o (by_use after place name)) (directly_passed name fresh place (subst (IsNot at) (sym is) h) ∙ is)
          by_place None is h used = ap (λ (o : Option Entry). or_else o (by_use after place name)) (directly_passed name fresh place (subst (IsNot at) (sym is) tt) ∙ is) ∙ use_passed (none_shown h used)

          by : (t : Bool) → IsOther at (if t then or_else (earlier_unit es place name) unseen else or_else (directly es place name) (by_use es place name)) → Used (if t then or_else (earlier_unit es place name) unseen else or_else (directly es place name) (by_use es place name)) → (if t then or_else (earlier_unit after place name) unseen else or_else (directly after place name) (by_use after place name)) ≡ (if t then or_else (earlier_unit es place name) unseen else or_else (directly es place name) (by_use es place name))
          by true h used = ap (λ (o : Option Entry). or_else o unseen) (earlier_passed name fresh place) ∙ passed_or (earlier_unit es place name) h
          by false h used = by_place (directly es place name) refl h used

      pub named_passed : PassesBy at es place name → named after place name ≡ named es place name
      named_passed passes =
          ap (λ (t : Bool). if t then object_first (operator_named after place name) (plainly after place name) else plainly after place name) (term_same at new es place (length place))
          ∙ ap (λ (g : Found). if is_in_term es place then object_first (operator_named after place name) g else g) (plainly_passed passes.meant passes.used)
          ∙ by (is_in_term es place) passes.seen
        where
          by : (t : Bool) → IsOther at (if t then object_first (operator_named es place name) (plainly es place name) else plainly es place name) → (if t then object_first (operator_named after place name) (plainly es place name) else plainly es place name) ≡ (if t then object_first (operator_named es place name) (plainly es place name) else plainly es place name)
          by true h =
              ap (λ (o : Option Entry). object_first o (plainly es place name)) (tested_passed name fresh (λ e. has_ended e.from place) space.Operators [])
              ∙ operator_passed (operator_named es place name) (plainly es place name) h
          by false h = refl

    -- ---- marks

    module _ (place prefix name : List ℕ) (fresh_prefix : bytes_eq new prefix ≡ false) (fresh : bytes_eq new name ≡ false) where
      selected_passed : (g : Found) → IsOther at (selected es place name g) → selected after place name g ≡ selected es place name g
      selected_passed unseen h = refl
      selected_passed several h = refl
      selected_passed (one e) h = by (is_kind e.kind kind.Pack) h
        where
          by : (t : Bool) → IsOther at (if t then or_else (shown es place name e) unseen else unseen) → (if t then or_else (shown after place name e) unseen else unseen) ≡ (if t then or_else (shown es place name e) unseen else unseen)
          by true h = ap (λ (o : Option Entry). or_else o unseen) (shown_passed name fresh place e) ∙ passed_or (shown es place name e) h
          by false h = refl

      type_passed : (o : Option Entry) → IsOther at (type_shown es place name o) → type_shown after place name o ≡ type_shown es place name o
      type_passed None h = refl
      type_passed (Some pack) h = by (is_kind pack.kind kind.Pack) h
        where
          T : Entry → Bool
          T e = is_kind e.kind kind.TypeDecl

          by : (t : Bool) → IsOther at (if t then or_else (only T (shown es place name pack)) unseen else unseen) → (if t then or_else (only T (shown after place name pack)) unseen else unseen) ≡ (if t then or_else (only T (shown es place name pack)) unseen else unseen)
          by true h =
              ap (λ (o : Option Entry). or_else (only T o) unseen) (shown_passed name fresh place pack)
              ∙ ap (λ (o : Option Entry). or_else o unseen) (only_swap T other (shown es place name pack))
              ∙ passed_or (only T (shown es place name pack)) h
          by false h = refl

      in_trait_passed : IsNot at (earlier_unit es place prefix) → (g : Found) → IsOther at (selected_in_trait es place prefix name g) → selected_in_trait after place prefix name g ≡ selected_in_trait es place prefix name g
      in_trait_passed before unseen h = ap (type_shown after place name) (earlier_passed prefix fresh_prefix place ∙ passed (earlier_unit es place prefix) before) ∙ type_passed (earlier_unit es place prefix) h
      in_trait_passed before (one e) h = refl
      in_trait_passed before several h = refl

      pair_passed : PrefixPassesBy at es place prefix → IsOther at (found es (prefix ∷ name ∷ []) place) → found after (prefix ∷ name ∷ []) place ≡ found es (prefix ∷ name ∷ []) place
      pair_passed passes h =
          ap (λ (t : Bool). if t then selected_in_trait after place prefix name (named after place prefix) else selected after place name (named after place prefix)) (entry_of_same at new es kind.Trait (unit_of place))
          ∙ ap (λ (g : Found). if is_in_trait es place then selected_in_trait after place prefix name g else selected after place name g) (named_passed place prefix fresh_prefix passes.prefix)
          ∙ by (is_in_trait es place) refl h
        where
          by : (t : Bool) → is_in_trait es place ≡ t → IsOther at (if t then selected_in_trait es place prefix name (named es place prefix) else selected es place name (named es place prefix)) → (if t then selected_in_trait after place prefix name (named es place prefix) else selected after place name (named es place prefix)) ≡ (if t then selected_in_trait es place prefix name (named es place prefix) else selected es place name (named es place prefix))
          by true is h = in_trait_passed (passes.earlier is) (named es place prefix) h
          by false is h = selected_passed (named es place prefix) h

    pub found_passed : (place : List ℕ) (parts : List (List ℕ)) → AllByRecursion (IsNew new) parts → PassBy at es place parts → found after parts place ≡ found es parts place
    found_passed place [] fresh pass = refl
    found_passed place (name ∷ []) fresh pass = named_passed place name fresh.0 pass
    found_passed place (prefix ∷ name ∷ []) fresh pass = pair_passed place prefix name fresh.0 fresh.1.0 pass.0 pass.1
    found_passed place (a ∷ b ∷ c ∷ more) fresh pass = refl
