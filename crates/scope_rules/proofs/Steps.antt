-- One step outward: from a node above a place to the next one.
use Rattle.std.proofs.Common.{◌≡◌, ℕ, zero, suc, ◌+◌, ◌-◌, ◌<◌, ◌≤◌, List, [], ◌∷◌, ◌++◌, take, length, Bool, true, false, ◌&&◌, ◌||◌, Option, Some, None, refl, sym, ap, ◌∙◌, cond, le-leb, drop, get_or, arith}
use Rattle.std.proofs.lemmas.Bool.{lt-leb}
use Rattle.std.proofs.lemmas.List.{drop_more}
use Rattle.std.specs.List.{cons_option}
use Rattle.std.specs.Option.{option_or}
use Rattle.ada_names.specs.declared.entry.Entry.{Entry}
use Rattle.std.specs.Prelude.{nat_le, filter_map, find, slice_get}
use Rattle.ada_names.specs.declared.entry.Space.TheVariants as space
use Rattle.ada_names.specs.Repeats.{is_object_at, hides_from}
use Rattle.ada_names.specs.Entries.{entry_at, uses_in, first_of}
use Rattle.ada_names.specs.Sees.{region_of, in_region, seen_from, term_at, in_term_from, or_further, uses_from, Found, joined, shown_by, shown_by_all}

one_less : (n : ℕ) → suc n - 1 ≡ n
one_less n = omega arith

-- `for depth in (0..n).rev()` has at its head the number of nodes that are left, and inside one less
again : (n : ℕ) → suc n - 1 + 1 ≡ suc n
again n = omega arith

-- ---- direct visibility

pub seen_further : (es : List Entry) (place name : List ℕ) (depth : ℕ) → 0 < depth → in_region es place name (region_of es (take (depth - 1 + 1) place)) ≡ None → seen_from es place name depth ≡ seen_from es place name (depth - 1)
seen_further es place name zero h none = absurd (omega arith)
seen_further es place name (suc n) h none =
    ap (λ (m : ℕ). option_or (in_region es place name (region_of es (take m place))) (seen_from es place name n)) (sym (again n))
    ∙ ap (λ (o : Option Entry). option_or o (seen_from es place name n)) none
    ∙ ap (seen_from es place name) (sym (one_less n))

pub seen_here : (es : List Entry) (place name : List ℕ) (depth : ℕ) (e : Entry) → 0 < depth → in_region es place name (region_of es (take (depth - 1 + 1) place)) ≡ Some e → seen_from es place name depth ≡ Some e
seen_here es place name zero e h some = absurd (omega arith)
seen_here es place name (suc n) e h some =
    ap (λ (m : ℕ). option_or (in_region es place name (region_of es (take m place))) (seen_from es place name n)) (sym (again n))
    ∙ ap (λ (o : Option Entry). option_or o (seen_from es place name n)) some

-- ---- terms

pub term_further : (es : List Entry) (place : List ℕ) (depth : ℕ) → 0 < depth → term_at place (entry_at es (take (depth - 1 + 1) place)) ≡ None → in_term_from es place depth ≡ in_term_from es place (depth - 1)
term_further es place zero h none = absurd (omega arith)
term_further es place (suc n) h none =
    ap (λ (m : ℕ). or_further (term_at place (entry_at es (take m place))) (in_term_from es place n)) (sym (again n))
    ∙ ap (λ (o : Option Bool). or_further o (in_term_from es place n)) none
    ∙ ap (in_term_from es place) (sym (one_less n))

pub term_here : (es : List Entry) (place : List ℕ) (depth : ℕ) (b : Bool) → 0 < depth → term_at place (entry_at es (take (depth - 1 + 1) place)) ≡ Some b → in_term_from es place depth ≡ b
term_here es place zero b h some = absurd (omega arith)
term_here es place (suc n) b h some =
    ap (λ (m : ℕ). or_further (term_at place (entry_at es (take m place))) (in_term_from es place n)) (sym (again n))
    ∙ ap (λ (o : Option Bool). or_further o (in_term_from es place n)) some

-- ---- use clauses

pub shown_by_both : (es : List Entry) (place name : List ℕ) (first second : List Entry) (found : Found) → shown_by_all es place name found (first ++ second) ≡ shown_by_all es place name (shown_by_all es place name found first) second
shown_by_both es place name [] second found = refl
shown_by_both es place name (clause ∷ first) second found = shown_by_both es place name first second (joined found (shown_by es place name clause))

after_one : (es : List Entry) (place name : List ℕ) (found : Found) (clause : Option Entry) (rest : List Entry) → shown_by_all es place name found (cons_option clause rest) ≡ shown_by_all es place name (shown_by_all es place name found (cons_option clause [])) rest
after_one es place name found None rest = refl
after_one es place name found (Some e) rest = refl

-- the next of the clauses with these indexes
pub next_clause : (es : List Entry) (place name : List ℕ) (found : Found) (numbers : List ℕ) (i : ℕ) → i < length numbers → shown_by_all es place name found (filter_map (slice_get es) (drop i numbers)) ≡ shown_by_all es place name (shown_by_all es place name found (cons_option (slice_get es (get_or numbers i 0)) [])) (filter_map (slice_get es) (drop (i + 1) numbers))
next_clause es place name found numbers i h = ap (λ (ns : List ℕ). shown_by_all es place name found (filter_map (slice_get es) ns)) (drop_more numbers i 0 h) ∙ after_one es place name found (slice_get es (get_or numbers i 0)) (filter_map (slice_get es) (drop (i + 1) numbers))

pub used_further : (es : List Entry) (place name : List ℕ) (found : Found) (depth : ℕ) → 0 < depth → shown_by_all es place name found (uses_from es place depth) ≡ shown_by_all es place name (shown_by_all es place name found (uses_in es (region_of es (take (depth - 1 + 1) place)))) (uses_from es place (depth - 1))
used_further es place name found zero h = absurd (omega arith)
used_further es place name found (suc n) h =
    shown_by_both es place name (uses_in es (region_of es (take (suc n) place))) (uses_from es place n) found
    ∙ ap (λ (m : ℕ). shown_by_all es place name (shown_by_all es place name found (uses_in es (region_of es (take m place)))) (uses_from es place n)) (sym (again n))
    ∙ ap (λ (m : ℕ). shown_by_all es place name (shown_by_all es place name found (uses_in es (region_of es (take (suc n - 1 + 1) place)))) (uses_from es place m)) (sym (one_less n))

-- ---- clauses

-- The first of those that pass a test passes another one too: so it is the first of those that pass both.
pub first_of_both : (test other : Entry → Bool) (es : List Entry) (e : Entry) → find test es ≡ Some e → other e ≡ true → find (λ x. test x && other x) es ≡ Some e
first_of_both test other [] e h t = h
first_of_both test other (x ∷ es) e h t = by (test x) h (first_of_both test other es e)
  where
    by : (b : Bool) → cond b (Some x) (find test es) ≡ Some e → (find test es ≡ Some e → other e ≡ true → find (λ y. test y && other y) es ≡ Some e) → cond (b && other x) (Some x) (find (λ y. test y && other y) es) ≡ Some e
    by true h further = let equal : x ≡ e = cc in ap (λ (b : Bool). cond b (Some x) (find (λ y. test y && other y) es)) (ap other equal ∙ t) ∙ h
    by false h further = further h t

-- ---- hidden objects

module _ (es : List Entry) (e : Entry) where
  pub hides_done : (depth : ℕ) → depth ≤ length e.within → hides_from es e depth ≡ false
  hides_done zero h = refl
  hides_done (suc n) h = ap (λ (b : Bool). b && (is_object_at e.place (first_of es space.Names (take n e.region) e.name) || hides_from es e n)) (lt-leb (length e.within) n (omega arith))

  pub hides_here : (depth : ℕ) → length e.within < depth → is_object_at e.place (first_of es space.Names (take (depth - 1) e.region) e.name) ≡ true → hides_from es e depth ≡ true
  hides_here zero h t = absurd (omega arith)
  hides_here (suc n) h t =
      let inside : nat_le (length e.within) n ≡ true = le-leb (length e.within) n (omega arith) in
      let same : suc n - 1 ≡ n = one_less n in
      ap (λ (b : Bool). b && (is_object_at e.place (first_of es space.Names (take n e.region) e.name) || hides_from es e n)) inside
      ∙ ap (λ (m : ℕ). is_object_at e.place (first_of es space.Names (take m e.region) e.name) || hides_from es e n) (sym same)
      ∙ ap (λ (b : Bool). b || hides_from es e n) t

  pub hides_further : (depth : ℕ) → length e.within < depth → is_object_at e.place (first_of es space.Names (take (depth - 1) e.region) e.name) ≡ false → hides_from es e depth ≡ hides_from es e (depth - 1)
  hides_further zero h t = absurd (omega arith)
  hides_further (suc n) h t =
      let inside : nat_le (length e.within) n ≡ true = le-leb (length e.within) n (omega arith) in
      let same : suc n - 1 ≡ n = one_less n in
      ap (λ (b : Bool). b && (is_object_at e.place (first_of es space.Names (take n e.region) e.name) || hides_from es e n)) inside
      ∙ ap (λ (m : ℕ). is_object_at e.place (first_of es space.Names (take m e.region) e.name) || hides_from es e n) (sym same)
      ∙ ap (λ (b : Bool). b || hides_from es e n) t
      ∙ ap (hides_from es e) (sym same)
