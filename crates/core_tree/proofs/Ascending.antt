-- Each number once: ascending where they stand in order, and the same numbers.
use Rattle.std.proofs.Common.{◌≡◌, ℕ, suc, ◌≤◌, List, [], ◌∷◌, map, Bool, true, false, ◌||◌, ◌==◌, nat_eq, nat_lt, Option, Some, None, refl, ap, sym, subst, ◌∙◌, arith}
use Rattle.std.specs.Prelude.{if◌then◌else◌, IsSorted, IsPermutation}
use Rattle.std.specs.Ordering.{nat_cmp}
use Rattle.std.specs.List.{list_any}
use Rattle.std.specs.List.Sorted.{IsNonDecreasingBy}
use Rattle.std.proofs.lemmas.List.Sorted.{IsNonDecreasingBy-from_sort, list_any-IsPermutation}
use Rattle.ada_tree.specs.declared.doc.DeclId.{DeclId}
use Rattle.core_tree.specs.Trees.{Stmt}
use Rattle.core_tree.specs.Marks.{in_stmt, has, rises, AreMentioned}
use Rattle.core_tree.specs.Once.{is_last, once, with_stmt, IsSame}
use Rattle.core_tree.proofs.Called.{of_stmt}

-- ---- in order

-- none is below the one before
abbrev climbs : ℕ → List ℕ → Type 0
climbs l [] = Unit {0}
climbs l (n ∷ ns) = (l ≤ n) × climbs n ns

climbs_on : (l : ℕ) (ns : List ℕ) → IsNonDecreasingBy (λ x. x) (l ∷ ns) → climbs l ns
climbs_on l [] h = tt
climbs_on l (n ∷ ns) h = (h 0 1 l (omega arith) (omega arith), climbs_on n ns (λ i j d p q. h (suc i) (suc j) d (omega arith) (omega arith)))

above : (l n : ℕ) → l ≤ n → nat_eq l n ≡ false → nat_lt l n ≡ true
above l n h e = grind arith

step_rises : (l n : ℕ) (ns : List ℕ) (t : Bool) → nat_eq l n ≡ t → l ≤ n → rises (n ∷ once (Some n) ns) ≡ true
    → rises (l ∷ (if t then once (Some n) ns else n ∷ once (Some n) ns)) ≡ true
step_rises l n ns true e h r = let same : n ≡ l = grind arith in subst (λ (m : ℕ). rises (m ∷ once (Some n) ns) ≡ true) same r
step_rises l n ns false e h r = let up : nat_lt l n ≡ true = above l n h e in rw up r

rises_after : (l : ℕ) (ns : List ℕ) → climbs l ns → rises (l ∷ once (Some l) ns) ≡ true
rises_after l [] h = refl
rises_after l (n ∷ ns) h = step_rises l n ns (nat_eq l n) refl h.0 (rises_after n ns h.1)

rises_once : (ns : List ℕ) → IsNonDecreasingBy (λ x. x) ns → rises (once None ns) ≡ true
rises_once [] h = refl
rises_once (n ∷ ns) h = rises_after n ns (climbs_on n ns h)

pub once_rises : (ms ns : List ℕ) → IsSorted nat_cmp ns → ms ≡ once None ns → rises ms ≡ true
once_rises ms ns h e = rw e (rises_once ns (IsNonDecreasingBy-from_sort (λ (x : ℕ). x) ns h))

-- ---- the same

has_any : (ns : List ℕ) (u : ℕ) → has ns u ≡ list_any (λ (m : ℕ). m == u) ns
has_any [] u = refl
has_any (n ∷ ns) u = ap (λ (b : Bool). n == u || b) (has_any ns u)

twice : (a x y : Bool) → (a || x) ≡ (a || y) → (a || x) ≡ (a || (a || y))
twice true x y h = refl
twice false x y h = h

step_has : (l n : ℕ) (ns : List ℕ) (u : ℕ) (t : Bool) → nat_eq l n ≡ t → (nat_eq n u || has (once (Some n) ns) u) ≡ (nat_eq n u || has ns u)
    → (nat_eq l u || has (if t then once (Some n) ns else n ∷ once (Some n) ns) u) ≡ (nat_eq l u || (n == u || has ns u))
step_has l n ns u true e h =
    let same : n ≡ l = grind arith in
    subst (λ (m : ℕ). (nat_eq m u || has (once (Some n) ns) u) ≡ (nat_eq m u || (n == u || has ns u))) same (twice (nat_eq n u) (has (once (Some n) ns) u) (has ns u) h)
step_has l n ns u false e h = ap (λ (b : Bool). nat_eq l u || b) h

has_once : (last : Option ℕ) (ns : List ℕ) (u : ℕ) → (is_last last u || has (once last ns) u) ≡ (is_last last u || has ns u)
has_once last [] u = refl
has_once None (n ∷ ns) u = has_once (Some n) ns u
has_once (Some l) (n ∷ ns) u = step_has l n ns u (nat_eq l n) refl (has_once (Some n) ns u)

pub same_once : (ls ms ns : List ℕ) → IsPermutation ls ns → ms ≡ once None ns → IsSame ms ls
same_once ls ms ns h e = λ u. ap (λ (xs : List ℕ). has xs u) e ∙ has_once None ns u ∙ has_any ns u ∙ sym (list_any-IsPermutation (λ (m : ℕ). m == u) ls ns h) ∙ sym (has_any ls u)

-- ---- of a body

pub mentioned : (ids : List DeclId) (us : List ℕ) (s : Stmt) → us ≡ with_stmt [] s → rises (map (λ (id : DeclId). id.0) ids) ≡ true → IsSame (map (λ (id : DeclId). id.0) ids) us → AreMentioned (in_stmt s) ids
mentioned ids us s e r h = record {
  ascending = r;
  called = λ u. h u ∙ ap (λ (xs : List ℕ). has xs u) (e ∙ of_stmt [] s);
}
