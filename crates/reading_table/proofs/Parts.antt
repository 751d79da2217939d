-- What a test of the table's entries says of each part.
use Rattle.std.proofs.Common.{◌≡◌, ℕ, zero, suc, ◌+◌, ◌<◌, List, [], ◌∷◌, refl, sym, ◌∙◌, ap, subst, Option, Some, None, Bool, true, false, ◌&&◌, map, length, arith, eqb-true}
use Rattle.std.specs.Prelude.{slice_get, nat_eq, option_map}
use Rattle.std.specs.List.{list_all}
use Rattle.std.proofs.lemmas.Bool.{and_parts}
use Rattle.std.proofs.lemmas.Option.{slice_get-map, slice_get_cases}
use Rattle.std.proofs.Common.{inl, inr}
use denote.Struct.Field.{Field}
use denote.Enum.Enum.{Sum, tag}
use denote.Enum.Declared.{rowss, tag_of}
use denote.Enum.Bare.{tag_one}
use Rattle.reading_table.specs.declared.rule.Rule.{Rule}
use Rattle.reading_table.specs.contracts.rule.Rule.{the_type}
use Rattle.reading_table.specs.Rows.{entries, Entry, Part, entry_of}

-- ---- each rule has an entry, and it is its own

tag_below : (parts : List (List Field)) (a : Sum (rowss parts)) → tag (rowss parts) a < length parts
tag_below [] a = absurd a
tag_below (p ∷ parts) (inl x) = omega arith
tag_below (p ∷ parts) (inr y) = omega (arith, tag_below parts y)

-- the rules stand in the table in their own order
abbrev numbers_from : ℕ → List Entry → List Bool
numbers_from n [] = []
numbers_from n (e ∷ es) = nat_eq (tag_of the_type e.0) n ∷ numbers_from (suc n) es

in_order : list_all (λ b. b) (numbers_from 0 entries) ≡ true
in_order = refl

as_many : length the_type.parts ≡ length entries
as_many = refl

numbered : (n i : ℕ) (es : List Entry) (e : Entry) → list_all (λ b. b) (numbers_from n es) ≡ true → slice_get es i ≡ Some e → tag_of the_type e.0 ≡ n + i
numbered n zero [] e h g = absurd cc
numbered n (suc i) [] e h g = absurd cc
numbered n zero (x ∷ es) e h g =
    let parts = and_parts (nat_eq (tag_of the_type x.0) n) (list_all (λ b. b) (numbers_from (suc n) es)) h in
    let z : x ≡ e = cc in
    let t : tag_of the_type x.0 ≡ n = eqb-true (tag_of the_type x.0) n parts.0 in
    ap (λ (e : Entry). tag_of the_type e.0) (sym z) ∙ t ∙ omega arith
numbered n (suc i) (x ∷ es) e h g =
    let parts = and_parts (nat_eq (tag_of the_type x.0) n) (list_all (λ b. b) (numbers_from (suc n) es)) h in
    let r : tag_of the_type e.0 ≡ suc n + i = numbered (suc n) i es e parts.1 g in
    r ∙ omega arith

pub record OwnEntry (r : Rule) : Type 0 where
  pub entry : Entry
  pub found : entry_of r ≡ Some entry
  pub own : entry.0 ≡ r

pub own_entry : (r : Rule) → OwnEntry r
own_entry r = by (entry_of r) refl
  where
    by : (o : Option Entry) → entry_of r ≡ o → OwnEntry r
    by (Some e) f = record { entry = e; found = f; own = tag_one the_type tt e.0 r (numbered 0 (tag_of the_type r) entries e in_order f ∙ omega arith) }
    by None f =
        let below : tag_of the_type r < length entries = subst (λ n. tag_of the_type r < n) as_many (tag_below the_type.parts (the_type.to r)) in
        absurd (elim ((slice_get_cases entries (tag_of the_type r)).1) [ inl x ↦ (let z : Some x.0 ≡ None = sym x.2 ∙ f in cc) | inr y ↦ omega (arith, y.0) ])

-- ---- what is tested of all entries, on both sides

abbrev pub tests : (Part → Bool) → Bool
tests test = list_all (λ (e : Entry). test (false, e.0) && test (true, e.0)) entries

tested : (f : Entry → Bool) (es : List Entry) (i : ℕ) (e : Entry) → list_all f es ≡ true → slice_get es i ≡ Some e → f e ≡ true
tested f [] zero e h g = absurd cc
tested f [] (suc i) e h g = absurd cc
tested f (x ∷ es) zero e h g = let z : x ≡ e = cc in ap f (sym z) ∙ (and_parts (f x) (list_all f es) h).0
tested f (x ∷ es) (suc i) e h g = tested f es i e (and_parts (f x) (list_all f es) h).1 g

pub of_each_part : (test : Part → Bool) → tests test ≡ true → (p : Part) → test p ≡ true
of_each_part test h p =
    let o = own_entry p.1 in
    let both = tested (λ (e : Entry). test (false, e.0) && test (true, e.0)) entries (tag_of the_type p.1) o.entry h o.found in
    at_side p.0 p.1 (subst (λ r. (test (false, r) && test (true, r)) ≡ true) o.own both)
  where
    at_side : (note : Bool) (r : Rule) → (test (false, r) && test (true, r)) ≡ true → test (note, r) ≡ true
    at_side false r h = (and_parts (test (false, r)) (test (true, r)) h).0
    at_side true r h = (and_parts (test (false, r)) (test (true, r)) h).1

-- two computations that agree on all entries agree on each part
mapped : {A B : Type 0} → (f : A → B) (xs : List A) (i : ℕ) (x : A) → slice_get xs i ≡ Some x → slice_get (map f xs) i ≡ Some (f x)
mapped f xs i x g = slice_get-map f xs i ∙ ap (option_map f) g

pub agree_on_each_part : {A : Type 0} → (f g : Part → A) → ((note : Bool) → map (λ (e : Entry). f (note, e.0)) entries ≡ map (λ (e : Entry). g (note, e.0)) entries) → (note : Bool) (r : Rule) → f (note, r) ≡ g (note, r)
agree_on_each_part f g h note r =
    let o = own_entry r in
    let i = tag_of the_type r in
    let z : Some (f (note, o.entry.0)) ≡ Some (g (note, o.entry.0)) =
    sym (mapped (λ (e : Entry). f (note, e.0)) entries i o.entry o.found) ∙ ap (λ es. slice_get es i) (h note) ∙ mapped (λ (e : Entry). g (note, e.0)) entries i o.entry o.found in
    let same : f (note, o.entry.0) ≡ g (note, o.entry.0) = cc in
    subst (λ r. f (note, r) ≡ g (note, r)) o.own same
