-- What a node says after entries of which one has another name.
use Rattle.std.proofs.Common.{◌≡◌, ℕ, ◌+◌, List, [], ◌∷◌, map, Bool, true, false, ◌&&◌, cond, Option, Some, None, refl, sym, ap, ◌∙◌, subst}
use Rattle.std.specs.Prelude.{bytes_eq, Contains, count_by, if◌then◌else◌}
use Rattle.std.proofs.lemmas.Bool.{and_parts, and_right, false_from_ne_true}
use Rattle.std.proofs.lemmas.List.Elements.{Contains-append_left, Contains-append_right, Contains-push}
use Rattle.std.proofs.lemmas.List.Sums.{sum_by-cons}
use lib.Pointwise.{bytes_decides}
use Rattle.ada_tree.specs.declared.kind.Kind.{Kind}
use Rattle.ada_tree.specs.declared.doc.DeclId.{DeclId}
use Rattle.ada_names.specs.declared.entry.Entry.{Entry}
use Rattle.ada_names.specs.declared.entry.Space.{Space}
use Rattle.ada_names.specs.declared.entry.Space.TheVariants as space
use Rattle.ada_names.specs.Entries.{is_space, is_of, first_of, is_own, completes, space_of, is_numbered, next_number, entry_as, entry}
use Rattle.ada_names.specs.Collecting.{Saying, silent, says, said}
use Rattle.name_laws.specs.Laws.{renamed}
use Rattle.name_laws.proofs.Renaming.{keeps}

-- ---- lists

pub head_in : (x : Entry) (xs : List Entry) → Contains (x ∷ xs) x
head_in x xs = Contains-append_left (x ∷ []) xs x (Contains-push [] x)

pub tail_in : (x : Entry) (xs : List Entry) (y : Entry) → Contains xs y → Contains (x ∷ xs) y
tail_in x xs y has = Contains-append_right (x ∷ []) xs y has

-- ---- equal texts

pub turned : (xs ys : List ℕ) → bytes_eq xs ys ≡ false → bytes_eq ys xs ≡ false
turned xs ys h = false_from_ne_true (bytes_eq ys xs) (λ t. let other : bytes_eq xs ys ≡ true = (bytes_decides xs ys).1 (sym ((bytes_decides ys xs).0 t)) in cc)

-- ---- an entry by what it completes

abbrev pub completed_by : Kind → List ℕ → List ℕ → Option Entry → Option Entry
completed_by k region place o = elim o [ Some e ↦ if completes e.kind k region place then Some e else None | None ↦ None ]

abbrev pub entry_by : Kind → List ℕ → List ℕ → List ℕ → List ℕ → List ℕ → DeclId → Option Entry → Entry
entry_by k name place region from within next o = elim o [ Some e ↦ entry_as space.Completions k name place e.origin region from within e.number | None ↦ entry_as (space_of k) k name place place region from within (if is_numbered k then Some next else None) ]

pub kept_field : (q : Entry → List ℕ) (k : Kind) (name place region from within : List ℕ) (next : DeclId) (v : List ℕ) → ((s : Space) (origin : List ℕ) (n : Option DeclId) → q (entry_as s k name place origin region from within n) ≡ v) → (o : Option Entry) → q (entry_by k name place region from within next o) ≡ v
kept_field q k name place region from within next v h None = h (space_of k) place (if is_numbered k then Some next else None)
kept_field q k name place region from within next v h (Some e) = h space.Completions e.origin e.number

-- where it stands
pub said_place : (text path : List ℕ) (es : List Entry) (s : Saying) (e : Entry) → said text path es s ≡ Some e → e.place ≡ path
said_place text path es silent e h = absurd cc
said_place text path es (says k region from within) e h =
    let equal : entry es k text path region from within ≡ e = cc in
    sym (ap (λ (x : Entry). x.place) equal) ∙ kept_field (λ x. x.place) k text path region from within (next_number es) path (λ s origin n. refl) (completed_by k region path (first_of es space.Names region text))

module _ (at new : List ℕ) where
  abbrev f : Entry → Entry
  f e = renamed at new e

  -- ---- numbers

  count_same : (es : List Entry) → count_by is_own (map f es) ≡ count_by is_own es
  count_same [] = refl
  count_same (x ∷ es) =
      sum_by-cons (λ (e : Entry). cond (is_own e) 1 0) (f x) (map f es)
      ∙ ap (λ (t : Bool). cond t 1 0 + count_by is_own (map f es)) (keeps at new (λ (e : Entry). is_own e) (λ e. refl) x)
      ∙ ap (λ (n : ℕ). cond (is_own x) 1 0 + n) (count_same es)
      ∙ sym (sum_by-cons (λ (e : Entry). cond (is_own e) 1 0) x es)

  abbrev id_of : ℕ → DeclId
  id_of n = record { 0 = n }

  next_same : (es : List Entry) → next_number (map f es) ≡ next_number es
  next_same es = ap id_of (count_same es)

  -- ---- look-ups of what the entry at the path isn't

  abbrev Elsewhere : List Entry → List ℕ → List ℕ → Type 0
  Elsewhere es region name = (x : Entry) → Contains es x → bytes_eq x.place at ≡ true → (bytes_eq x.region region && bytes_eq x.name name) ≡ false

  module _ (s : Space) (region name : List ℕ) (other : bytes_eq new name ≡ false) where
    test_after : (x : Entry) → (bytes_eq x.place at ≡ true → (bytes_eq x.region region && bytes_eq x.name name) ≡ false) → is_of s region name (f x) ≡ is_of s region name x
    test_after x h = by (bytes_eq x.place at) refl
      where
        by : (t : Bool) → bytes_eq x.place at ≡ t → is_of s region name (if t then record x { name = new } else x) ≡ is_of s region name x
        by true is = ap (λ (b : Bool). is_space x.space s && b) (and_right (bytes_eq x.region region) (bytes_eq new name) other ∙ sym (h is))
        by false is = refl

    found_after : (x : Entry) → (bytes_eq x.place at ≡ true → (bytes_eq x.region region && bytes_eq x.name name) ≡ false) → is_of s region name x ≡ true → f x ≡ x
    found_after x h is = by (bytes_eq x.place at) refl
      where
        by : (t : Bool) → bytes_eq x.place at ≡ t → (if t then record x { name = new } else x) ≡ x
        by true there =
            let same : (bytes_eq x.region region && bytes_eq x.name name) ≡ true = (and_parts (is_space x.space s) (bytes_eq x.region region && bytes_eq x.name name) is).1 in
            let differ : (bytes_eq x.region region && bytes_eq x.name name) ≡ false = h there in
            absurd cc
        by false there = refl

    first_after : (xs : List Entry) → Elsewhere xs region name → first_of (map f xs) s region name ≡ first_of xs s region name
    first_after [] h = refl
    first_after (x ∷ xs) h =
        ap (λ (t : Bool). cond t (Some (f x)) (first_of (map f xs) s region name)) (test_after x (h x (head_in x xs)))
        ∙ by (is_of s region name x) refl (first_after xs (λ y has. h y (tail_in x xs y has)))
      where
        by : (t : Bool) → is_of s region name x ≡ t → first_of (map f xs) s region name ≡ first_of xs s region name → cond t (Some (f x)) (first_of (map f xs) s region name) ≡ cond t (Some x) (first_of xs s region name)
        by true is further = ap (λ (e : Entry). Some e) (found_after x (h x (head_in x xs)) is)
        by false is further = further

  -- ---- what is said elsewhere

  entry_after : (es : List Entry) (k : Kind) (text path region from within : List ℕ) → bytes_eq new text ≡ false → Elsewhere es region text → entry (map f es) k text path region from within ≡ entry es k text path region from within
  entry_after es k text path region from within other h =
      ap (λ (o : Option Entry). entry_by k text path region from within (next_number (map f es)) (completed_by k region path o)) (first_after space.Names region text other es h)
      ∙ ap (λ (n : DeclId). entry_by k text path region from within n (completed_by k region path (first_of es space.Names region text))) (next_same es)

  pub said_after : (text path : List ℕ) (es : List Entry) (s : Saying) → ((e : Entry) → said text path es s ≡ Some e → (bytes_eq new e.name ≡ false) × Elsewhere es e.region e.name) → said text path (map f es) s ≡ said text path es s
  said_after text path es silent h = refl
  said_after text path es (says k region from within) h =
      let o : Option Entry = completed_by k region path (first_of es space.Names region text) in
      let e : Entry = entry es k text path region from within in
      let its_region : e.region ≡ region = kept_field (λ x. x.region) k text path region from within (next_number es) region (λ s origin n. refl) o in
      let its_name : e.name ≡ text = kept_field (λ x. x.name) k text path region from within (next_number es) text (λ s origin n. refl) o in
      let P : List ℕ → Type 0 = λ name. (bytes_eq new name ≡ false) × Elsewhere es e.region name in
      let Q : List ℕ → Type 0 = λ r. (bytes_eq new text ≡ false) × Elsewhere es r text in
      let both : Q region = subst Q its_region (subst P its_name (h e refl)) in
      ap (λ (x : Entry). Some x) (entry_after es k text path region from within both.0 both.1)

  -- ---- what is said at the path

  pub nothing_there : (s : Space) (region name : List ℕ) (xs : List Entry) → ((x : Entry) → Contains xs x → (bytes_eq x.region region && bytes_eq x.name name) ≡ false) → first_of xs s region name ≡ None
  nothing_there s region name [] h = refl
  nothing_there s region name (x ∷ xs) h =
      ap (λ (t : Bool). cond t (Some x) (first_of xs s region name)) (and_right (is_space x.space s) (bytes_eq x.region region && bytes_eq x.name name) (h x (head_in x xs)))
      ∙ nothing_there s region name xs (λ y has. h y (tail_in x xs y has))

  -- it is the same under the new name, where no entry so far has its region and name, and none the new one
  pub said_here : (old : List ℕ) (es : List Entry) (k : Kind) (region from within : List ℕ) → ((x : Entry) → Contains es x → (bytes_eq x.region region && bytes_eq x.name old) ≡ false) → ((x : Entry) → Contains es x → bytes_eq x.name new ≡ false) → entry es k new at region from within ≡ f (entry es k old at region from within)
  said_here old es k region from within alone fresh =
      let none_new : first_of es space.Names region new ≡ None = nothing_there space.Names region new es (λ x has. and_right (bytes_eq x.region region) (bytes_eq x.name new) (fresh x has)) in
      let none_old : first_of es space.Names region old ≡ None = nothing_there space.Names region old es alone in
      let made : Entry = entry_as (space_of k) k old at at region from within (if is_numbered k then Some (next_number es) else None) in
      ap (λ (o : Option Entry). entry_by k new at region from within (next_number es) (completed_by k region at o)) none_new
      ∙ sym (ap (λ (t : Bool). if t then record made { name = new } else made) ((bytes_decides at at).1 refl))
      ∙ sym (ap (λ (o : Option Entry). f (entry_by k old at region from within (next_number es) (completed_by k region at o))) none_old)
