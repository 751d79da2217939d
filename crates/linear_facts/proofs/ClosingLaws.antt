-- What the code asks holds exactly where the coefficients close the sequent.
use Rattle.std.proofs.Common.{◌≡◌, ◌↔◌, ℕ, suc, ◌+◌, ◌*◌, ◌^◌, ◌≤◌, ◌<◌, ℤ, pos, ◌+ℤ◌, ◌-ℤ◌, ◌*ℤ◌, ◌<ℤ◌, List, [], ◌∷◌, ◌++◌, length, Bool, true, false, not, ◌&&◌, ◌||◌, if◌then◌else◌, Option, Some, None, refl, sym, ◌∙◌, IsTrue, ap, subst, arith, lit≤, leb-true, le-leb, length-append}
use Rattle.std.specs.Prelude.{unsigned_abs, nat_le, nat_lt, int_lt, is_some, count_by}
use Rattle.std.specs.Int.{int_wrap}
use Rattle.std.specs.List.{list_all, list_any}
use Rattle.std.specs.Ordering.{int_eq}
use Rattle.std.proofs.lemmas.List.Sums.{sum_by-cons}
use Rattle.std.proofs.lemmas.Bool.{and_parts, and_from, ltb-true, lt-ltb}
use Rattle.std.proofs.lemmas.Bool.Decides.{Decides-int_eq}
use Rattle.std.proofs.lemmas.Int.{ints, int_wrap_fits, fits_signed_from_abs}
use Rattle.std.proofs.Math.IntN.{*ℤ-zero}
use mir.Syntax.{w128}
use Rattle.term_core.specs.declared.term.Term.{Term}
use Rattle.term_core.specs.declared.sequent.Sequent.{Sequent}
use Rattle.term_core.specs.Operations.{is_zero}
use Rattle.linear_facts.specs.declared.limits.TheConstants.{MOST_COEFFICIENT, MOST_NUMBER}
use Rattle.linear_facts.specs.Closing.{each_may_weigh, weighed, weights_from, weights, total, IsBounded, Closes}
use Rattle.linear_facts.specs.Facts.{Fact, at_most, below, equal_to, form_of, apart_in, fact_at, left_of, right_of, extra_of}
use Rattle.linear_facts.specs.Forms.{Part, atom, constant, number, form, taken_apart}
use Rattle.linear_facts.specs.Asked.{fit_at, is_right, is_atom_right, is_contradiction, atoms_of, atoms_in, all_atoms, keeps_rules, is_closed}
use Rattle.linear_facts.specs.Lanes.{same_part}
use Rattle.linear_facts.specs.Numbers.{number_at, fact_number_at, size_at, fact_size, fits_at}
use Rattle.linear_facts.proofs.SumLaws.{fact_form, same_part_is}
use Rattle.linear_facts.proofs.ShapeLaws.{Every}
use Rattle.linear_facts.proofs.BoundLaws.{every_append, every_left, every_right, every_all, all_every, SmallAt, WithinFact, small_two, both_found, found, finds, size_two, size_bounds, abs_product, at_most_literal, below_most, none_of, absent, no_size}

-- ---- a fact within its bounds at a part

some_of : {A : Type 0} (o : Option A) → is_some o ≡ true → (x : A) × (o ≡ Some x)
some_of (Some x) e = (x, refl)
some_of None e = absurd cc

is_there : {A : Type 0} (o : Option A) (x : A) → o ≡ Some x → is_some o ≡ true
is_there o x e = ap is_some e

extra_small : (fact : Fact) (p : Part) → unsigned_abs (number (extra_of fact) p) ≤ 1
extra_small (at_most a b) p = below_most _ _ _ (at_most_literal (pos 0) p) (lit≤ tt)
extra_small (below a b) p = at_most_literal (pos 1) p
extra_small (equal_to a b) p = below_most _ _ _ (at_most_literal (pos 0) p) (lit≤ tt)

by_number : (p : Part) (fact : Fact) (z : ℤ) → fact_number_at p fact ≡ Some z → WithinFact p fact
by_number p fact z e =
    let r = small_two (λ x y. x -ℤ y +ℤ number (extra_of fact) p) (number_at p (left_of fact)) (number_at p (right_of fact)) z e in
    let a = found p (left_of fact) r.0 r.1.1.0 in
    let b = found p (right_of fact) r.1.0 r.1.1.1.0 in
    (subst (λ z. unsigned_abs z ≤ MOST_NUMBER) ((λ i. a.0 i -ℤ b.0 i +ℤ number (extra_of fact) p) ∙ fact_form fact p) r.1.1.1.1.1, (a.1, b.1))

one_more : (a b c : ℤ) (x y : ℕ) → unsigned_abs a ≤ x → unsigned_abs b ≤ y → unsigned_abs c ≤ 1 → unsigned_abs (a -ℤ b +ℤ c) ≤ x + y + 1
one_more a b c x y h k l = omega (arith, ints)

by_size : (p : Part) (fact : Fact) (m : ℕ) → fact_size fact ≡ Some m → WithinFact p fact
by_size p fact m e =
    let r = size_two (λ x y. x + y + 1) (size_at (left_of fact)) (size_at (right_of fact)) m e in
    let a = (size_bounds (left_of fact) r.0 r.1.1.0).1 p in
    let b = (size_bounds (right_of fact) r.1.0 r.1.1.1.0).1 p in
    let k = one_more (form (left_of fact) p) (form (right_of fact) p) (number (extra_of fact) p) r.0 r.1.0 a.0 b.0 (extra_small fact p) in
    (subst (λ z. unsigned_abs z ≤ MOST_NUMBER) (fact_form fact p) (below_most _ _ _ k r.1.1.1.1.1), (a.1, b.1))

pub within_from : (p : Part) (fact : Fact) → fits_at p fact ≡ true → WithinFact p fact
within_from p fact e = by_test (is_some (fact_size fact)) refl
  where
    by_test : (b : Bool) → is_some (fact_size fact) ≡ b → WithinFact p fact
    by_test true s = let m = some_of (fact_size fact) s in by_size p fact m.0 m.1
    by_test false s = let z = some_of (fact_number_at p fact) (sym (ap (λ b. b || is_some (fact_number_at p fact)) s) ∙ e) in by_number p fact z.0 z.1

or_right : (a b : Bool) → b ≡ true → (a || b) ≡ true
or_right true b e = refl
or_right false b e = e

pub within_to : (p : Part) (fact : Fact) → ((q : Part) → WithinFact q fact) → fits_at p fact ≡ true
within_to p fact w =
    let a = finds p (left_of fact) (λ q. (w q).1.0) in
    let b = finds p (right_of fact) (λ q. (w q).1.1) in
    let f : form_of fact p ≡ a.0 -ℤ b.0 +ℤ number (extra_of fact) p = sym (fact_form fact p) ∙ (λ i. sym (found p (left_of fact) a.0 a.1).0 i -ℤ sym (found p (right_of fact) b.0 b.1).0 i +ℤ number (extra_of fact) p) in
    or_right (is_some (fact_size fact)) _ (is_there (fact_number_at p fact) _ (both_found (λ x y. x -ℤ y +ℤ number (extra_of fact) p) (number_at p (left_of fact)) (number_at p (right_of fact)) a.0 b.0 a.1 b.1
    (subst (λ z. unsigned_abs z ≤ MOST_NUMBER) f (w p).0)))

-- ---- bounds at all parts

apart_is : (fact : Fact) → apart_in fact ≡ taken_apart (left_of fact) ++ taken_apart (right_of fact)
apart_is (at_most a b) = refl
apart_is (below a b) = refl
apart_is (equal_to a b) = refl

pub bounded_from : (fact : Fact) → ((p : Part) → WithinFact p fact) → IsBounded fact
bounded_from fact w = (
  λ p. (w p).0,
  λ k d l p. every_all (λ t. SmallAt p (form t)) (apart_in fact)
      (subst (Every (λ t. SmallAt p (form t))) (sym (apart_is fact)) (every_append _ (taken_apart (left_of fact)) (taken_apart (right_of fact)) (w p).1.0 (w p).1.1)) k d l,
)

pub bounded_to : (fact : Fact) → IsBounded fact → (p : Part) → WithinFact p fact
bounded_to fact h p =
    let e = subst (Every (λ t. SmallAt p (form t))) (apart_is fact) (all_every (λ t. SmallAt p (form t)) (apart_in fact) (λ k d l. h.1 k d l p)) in
    (h.0 p, (every_left _ (taken_apart (left_of fact)) (taken_apart (right_of fact)) e, every_right _ (taken_apart (left_of fact)) (taken_apart (right_of fact)) e))

-- ---- the weights are few and small

few_first : (c : ℤ) (o : Option Fact) → length (weighed c o) ≤ (if not (is_zero c) then 1 else 0)
few_first c None = omega arith
few_first c (Some fact) = by_test (is_zero c)
  where
    by_test : (b : Bool) → length {A = ℤ × Fact} (if b then [] else (c, fact) ∷ []) ≤ (if not b then 1 else 0)
    by_test true = lit≤ tt
    by_test false = lit≤ tt

together : (xs ys : List (ℤ × Fact)) (m n : ℕ) → length xs ≤ m → length ys ≤ n → length (xs ++ ys) ≤ m + n
together xs ys m n h k = grind (arith, length-append)

count_first : (c : ℤ) (cs : List ℤ) → count_by (λ c. not (is_zero c)) (c ∷ cs) ≡ (if not (is_zero c) then 1 else 0) + count_by (λ c. not (is_zero c)) cs
count_first c cs = sum_by-cons (λ c. if not (is_zero c) then 1 else 0) c cs

pub few_weights : (sequent : Sequent) (i : ℕ) (cs : List ℤ) → length (weights_from sequent i cs) ≤ count_by (λ c. not (is_zero c)) cs
few_weights sequent i [] = lit≤ tt
few_weights sequent i (c ∷ cs) = subst (λ n. length (weights_from sequent i (c ∷ cs)) ≤ n) (sym (count_first c cs))
    (together (weighed c (fact_at sequent i)) (weights_from sequent (suc i) cs) _ _ (few_first c (fact_at sequent i)) (few_weights sequent (suc i) cs))

abbrev SmallWeight : ℤ × Fact → Type 0
SmallWeight w = unsigned_abs w.0 ≤ MOST_COEFFICIENT

small_first : (c : ℤ) (o : Option Fact) → unsigned_abs c ≤ MOST_COEFFICIENT → Every SmallWeight (weighed c o)
small_first c None h = tt
small_first c (Some fact) h = by_test (is_zero c)
  where
    by_test : (b : Bool) → Every SmallWeight (if b then [] else (c, fact) ∷ [])
    by_test true = tt
    by_test false = (h, tt)

small_weights : (sequent : Sequent) (i : ℕ) (cs : List ℤ) → Every (λ c. unsigned_abs c ≤ MOST_COEFFICIENT) cs → Every SmallWeight (weights_from sequent i cs)
small_weights sequent i [] h = tt
small_weights sequent i (c ∷ cs) h = every_append SmallWeight (weighed c (fact_at sequent i)) (weights_from sequent (suc i) cs) (small_first c (fact_at sequent i) h.0) (small_weights sequent (suc i) cs h.1)

-- ---- so their sum fits 128 bits

next_size : (a b : ℤ) (n : ℕ) → unsigned_abs a ≤ 1000000000000000000000000000 → unsigned_abs b ≤ n * 1000000000000000000000000000 → unsigned_abs (a +ℤ b) ≤ suc n * 1000000000000000000000000000
next_size a b n h k = omega (arith, ints)

no_total : (p : Part) → unsigned_abs (number (pos 0) p) ≤ 0
no_total (atom t) = lit≤ tt
no_total constant = lit≤ tt

total_size : (p : Part) (ws : List (ℤ × Fact)) → Every SmallWeight ws → Every (λ w. WithinFact p w.1) ws → unsigned_abs (total ws p) ≤ length ws * 1000000000000000000000000000
total_size p [] h k = no_total p
total_size p (w ∷ ws) h k = next_size (w.0 *ℤ form_of w.1 p) (total ws p) (length ws)
    (abs_product w.0 (form_of w.1 p) MOST_COEFFICIENT MOST_NUMBER h.0 k.0.0) (total_size p ws h.1 k.1)

below_wrap : (m n : ℕ) → m ≤ n * 1000000000000000000000000000 → n < 2 ^ 32 → m < 2 ^ 127
below_wrap m n h k = omega arith

pub total_fits : (p : Part) (sequent : Sequent) (cs : List ℤ) → Every (λ c. unsigned_abs c ≤ MOST_COEFFICIENT) cs → count_by (λ c. not (is_zero c)) cs < 2 ^ 32 → Every (λ w. WithinFact p w.1) (weights sequent cs)
    → int_wrap w128 (total (weights sequent cs) p) ≡ total (weights sequent cs) p
total_fits p sequent cs given few within =
    let ws = weights sequent cs in
    int_wrap_fits w128 (total ws p) (fits_signed_from_abs w128 (total ws p)
    (below_wrap (unsigned_abs (total ws p)) (length ws) (total_size p ws (small_weights sequent 0 cs given) within) (lt_of_le (length ws) _ (2 ^ 32) (few_weights sequent 0 cs) few)))
  where
    lt_of_le : (a b c : ℕ) → a ≤ b → b < c → a < c
    lt_of_le a b c h k = omega arith

-- ---- parts that occur, and parts that don't

-- where an atom of the list is the part, the part passes a test that all of the list pass
found_right : (right : Part → Bool) (p : Part) (ts : List Term) → list_any (λ t. same_part (atom t) p) ts ≡ true → list_all (λ t. right (atom t)) ts ≡ true → right p ≡ true
found_right right p [] e h = absurd cc
found_right right p (t ∷ ts) e h = by_test (same_part (atom t) p) refl (λ k. found_right right p ts k (and_parts (right (atom t)) (list_all (λ t. right (atom t)) ts) h).1)
  where
    by_test : (b : Bool) → same_part (atom t) p ≡ b → (list_any (λ t. same_part (atom t) p) ts ≡ true → right p ≡ true) → right p ≡ true
    by_test true s k = ap right (sym (same_part_is (atom t) p s)) ∙ (and_parts (right (atom t)) (list_all (λ t. right (atom t)) ts) h).0
    by_test false s k = k (sym (ap (λ b. b || list_any (λ t. same_part (atom t) p) ts) s) ∙ e)

absent_fact : (u : Term) (fact : Fact) → list_any (λ t. same_part (atom t) (atom u)) (atoms_in fact) ≡ false → (form_of fact (atom u) ≡ pos 0) × WithinFact (atom u) fact
absent_fact u fact e =
    let r = none_of (atom u) (atoms_of (left_of fact)) (atoms_of (right_of fact)) e in
    let a = absent u (left_of fact) r.0 in
    let b = absent u (right_of fact) r.1 in
    let f : form_of fact (atom u) ≡ pos 0 = sym (fact_form fact (atom u)) ∙ (λ i. a.0 i -ℤ b.0 i +ℤ pos 0) in
    (f, (no_size _ f, (a.1, b.1)))

absent_all : (u : Term) (ws : List (ℤ × Fact)) → list_any (λ t. same_part (atom t) (atom u)) (all_atoms ws) ≡ false → (total ws (atom u) ≡ pos 0) × Every (λ w. WithinFact (atom u) w.1) ws
absent_all u [] e = (refl, tt)
absent_all u (w ∷ ws) e =
    let r = none_of (atom u) (atoms_in w.1) (all_atoms ws) e in
    let a = absent_fact u w.1 r.0 in
    let b = absent_all u ws r.1 in
    ((λ i. w.0 *ℤ a.0 i +ℤ b.0 i) ∙ ap (λ z. z +ℤ pos 0) (*ℤ-zero w.0), (a.1, b.1))

-- ---- all weights

fit_every : (p : Part) (ws : List (ℤ × Fact)) → fit_at ws p ≡ true → Every (λ w. WithinFact p w.1) ws
fit_every p [] e = tt
fit_every p (w ∷ ws) e = let r = and_parts (fits_at p w.1) (fit_at ws p) e in (within_from p w.1 r.0, fit_every p ws r.1)

every_fits : (p : Part) (ws : List (ℤ × Fact)) → Every (λ w. IsBounded w.1) ws → fit_at ws p ≡ true
every_fits p [] h = refl
every_fits p (w ∷ ws) h = and_from (fits_at p w.1) (fit_at ws p) (within_to p w.1 (bounded_to w.1 h.0)) (every_fits p ws h.1)

bounded_every : (ws : List (ℤ × Fact)) → ((p : Part) → Every (λ w. WithinFact p w.1) ws) → Every (λ w. IsBounded w.1) ws
bounded_every [] h = tt
bounded_every (w ∷ ws) h = (bounded_from w.1 (λ p. (h p).0), bounded_every ws (λ p. (h p).1))

given_every : (cs : List ℤ) → list_all (λ c. nat_le (unsigned_abs c) MOST_COEFFICIENT) cs ≡ true → Every (λ c. unsigned_abs c ≤ MOST_COEFFICIENT) cs
given_every [] e = tt
given_every (c ∷ cs) e = let r = and_parts (nat_le (unsigned_abs c) MOST_COEFFICIENT) (list_all (λ c. nat_le (unsigned_abs c) MOST_COEFFICIENT) cs) e in (leb-true (unsigned_abs c) MOST_COEFFICIENT r.0, given_every cs r.1)

every_given : (cs : List ℤ) → Every (λ c. unsigned_abs c ≤ MOST_COEFFICIENT) cs → list_all (λ c. nat_le (unsigned_abs c) MOST_COEFFICIENT) cs ≡ true
every_given [] h = refl
every_given (c ∷ cs) h = and_from (nat_le (unsigned_abs c) MOST_COEFFICIENT) _ (le-leb (unsigned_abs c) MOST_COEFFICIENT h.0) (every_given cs h.1)

-- ---- the answer

abbrev IsRight : List (ℤ × Fact) → Part → Type 0
IsRight ws p = Every (λ w. WithinFact p w.1) ws × (int_wrap w128 (total ws p) ≡ pos 0)

right_from : (ws : List (ℤ × Fact)) (p : Part) → is_right ws p ≡ true → IsRight ws p
right_from ws p e =
    let r = and_parts (fit_at ws p) (int_eq (int_wrap w128 (total ws p)) (pos 0)) e in
    (fit_every p ws r.0, (Decides-int_eq (int_wrap w128 (total ws p)) (pos 0)).0 r.1)

-- at every atom: the sum is 0, and all is within the bounds
each_atom : (sequent : Sequent) (cs : List ℤ) (given : Every (λ c. unsigned_abs c ≤ MOST_COEFFICIENT) cs) (few : count_by (λ c. not (is_zero c)) cs < 2 ^ 32)
    → list_all (is_atom_right (weights sequent cs)) (all_atoms (weights sequent cs)) ≡ true → (u : Term) → (total (weights sequent cs) (atom u) ≡ pos 0) × Every (λ w. WithinFact (atom u) w.1) (weights sequent cs)
each_atom sequent cs given few e u = by_test (list_any (λ t. same_part (atom t) (atom u)) (all_atoms (weights sequent cs))) refl
  where
    by_test : (b : Bool) → list_any (λ t. same_part (atom t) (atom u)) (all_atoms (weights sequent cs)) ≡ b → (total (weights sequent cs) (atom u) ≡ pos 0) × Every (λ w. WithinFact (atom u) w.1) (weights sequent cs)
    by_test true s =
        let r = right_from (weights sequent cs) (atom u) (found_right (is_right (weights sequent cs)) (atom u) (all_atoms (weights sequent cs)) s e) in
        (sym (total_fits (atom u) sequent cs given few r.0) ∙ r.1, r.0)
    by_test false s = absent_all u (weights sequent cs) s

positive_from : (z : ℤ) → int_lt (pos 0) z ≡ true → pos 0 <ℤ z
positive_from z e = grind (arith, ints)

positive_to : (z : ℤ) → pos 0 <ℤ z → int_lt (pos 0) z ≡ true
positive_to z h = grind (arith, ints)

pub closes_from : (sequent : Sequent) (cs : List ℤ) → is_closed sequent cs ≡ true → Closes sequent cs
closes_from sequent cs e =
    let ws = weights sequent cs in
    let r = and_parts (keeps_rules sequent cs && is_contradiction ws) (list_all (is_atom_right ws) (all_atoms ws)) e in
    let q = and_parts (keeps_rules sequent cs) (is_contradiction ws) r.0 in
    let k = and_parts (each_may_weigh sequent 0 cs && list_all (λ c. nat_le (unsigned_abs c) MOST_COEFFICIENT) cs) (nat_lt (count_by (λ c. not (is_zero c)) cs) (2 ^ 32)) q.0 in
    let a = and_parts (each_may_weigh sequent 0 cs) (list_all (λ c. nat_le (unsigned_abs c) MOST_COEFFICIENT) cs) k.0 in
    let c = and_parts (fit_at ws constant) (int_lt (pos 0) (int_wrap w128 (total ws constant))) q.1 in
    let given = given_every cs a.1 in
    let few = ltb-true (count_by (λ c. not (is_zero c)) cs) (2 ^ 32) k.1 in
    let at_constant = fit_every constant ws c.0 in
    let atoms = each_atom sequent cs given few r.1 in
    record {
      allowed = a.0;
      given = every_all (λ c. unsigned_abs c ≤ MOST_COEFFICIENT) cs given;
      few = few;
      bounded = every_all (λ w. IsBounded w.1) ws (bounded_every ws (each_part ws at_constant (λ u. (atoms u).1)));
      no_atom = λ u. (atoms u).0;
      positive = positive_from (total ws constant) (ap (int_lt (pos 0)) (sym (total_fits constant sequent cs given few at_constant)) ∙ c.1);
    }
  where
    each_part : (ws : List (ℤ × Fact)) → Every (λ w. WithinFact constant w.1) ws → ((u : Term) → Every (λ w. WithinFact (atom u) w.1) ws) → (p : Part) → Every (λ w. WithinFact p w.1) ws
    each_part ws c a (atom u) = a u
    each_part ws c a constant = c

pub closes_to : (sequent : Sequent) (cs : List ℤ) → Closes sequent cs → is_closed sequent cs ≡ true
closes_to sequent cs h =
    let ws = weights sequent cs in
    let given = all_every (λ c. unsigned_abs c ≤ MOST_COEFFICIENT) cs h.given in
    let bounded = all_every (λ w. IsBounded w.1) ws h.bounded in
    let within = λ (p : Part). all_within p ws bounded in
    let fits = λ (p : Part). total_fits p sequent cs given h.few (within p) in
    and_from (keeps_rules sequent cs && is_contradiction ws) (list_all (is_atom_right ws) (all_atoms ws))
    (and_from (keeps_rules sequent cs) (is_contradiction ws)
    (and_from (each_may_weigh sequent 0 cs && list_all (λ c. nat_le (unsigned_abs c) MOST_COEFFICIENT) cs) (nat_lt (count_by (λ c. not (is_zero c)) cs) (2 ^ 32))
    (and_from (each_may_weigh sequent 0 cs) (list_all (λ c. nat_le (unsigned_abs c) MOST_COEFFICIENT) cs) h.allowed (every_given cs given))
    (lt-ltb (count_by (λ c. not (is_zero c)) cs) (2 ^ 32) h.few))
    (and_from (fit_at ws constant) (int_lt (pos 0) (int_wrap w128 (total ws constant))) (every_fits constant ws bounded)
    (ap (int_lt (pos 0)) (fits constant) ∙ positive_to (total ws constant) h.positive)))
    (all_right (all_atoms ws) (λ u. and_from (fit_at ws (atom u)) (int_eq (int_wrap w128 (total ws (atom u))) (pos 0)) (every_fits (atom u) ws bounded)
    (ap (λ z. int_eq z (pos 0)) (fits (atom u) ∙ h.no_atom u))))
  where
    all_within : (p : Part) (ws : List (ℤ × Fact)) → Every (λ w. IsBounded w.1) ws → Every (λ w. WithinFact p w.1) ws
    all_within p [] b = tt
    all_within p (w ∷ ws) b = (bounded_to w.1 b.0 p, all_within p ws b.1)

    all_right : (ts : List Term) → ((u : Term) → is_atom_right (weights sequent cs) u ≡ true) → list_all (is_atom_right (weights sequent cs)) ts ≡ true
    all_right [] e = refl
    all_right (t ∷ ts) e = λ i. e t i && all_right ts e i

pub closes_by : (sequent : Sequent) (cs : List ℤ) (b : Bool) → b ≡ is_closed sequent cs → IsTrue b ↔ Closes sequent cs
closes_by sequent cs b e = (λ h. closes_from sequent cs (sym e ∙ h), λ h. e ∙ closes_to sequent cs h)
