-- Two sorts are the same exactly where the test says so.
use Rattle.std.proofs.Common.{◌≡◌, ℕ, ℤ, List, [], ◌∷◌, map, Bool, true, false, ◌&&◌, eqb, IsTrue, ◌↔◌, refl, sym, ◌∙◌, ap, subst}
use Rattle.std.specs.Ordering.{int_eq}
use Rattle.std.proofs.lemmas.Bool.{and_parts, eqb-true, eq-eqb}
use Rattle.std.proofs.lemmas.Bool.Decides.{Decides-int_eq}
use Rattle.term_core.specs.declared.sort.Sort.{Sort}
use Rattle.term_core.specs.declared.sort.Sort.TheOpen.{Sort-F}
use Rattle.term_core.specs.declared.sort.Sort.TheViews.{out-Sort, roll-Sort, roll-out-Sort, out-roll-Sort}
use Rattle.term_core.specs.declared.sort.Sort.TheFolds.{fold-roll-Sort, ind-Sort, map-Sort}
use Rattle.term_core.specs.Sorts.{whole, truths, array, record_of, generated, each_same, same_layer, same_sort}
use Rattle.term_core.specs.Terms.{range}

abbrev pub EachSort : (Sort → Type 0) → List Sort → Type 0
EachSort P [] = Unit {0}
EachSort P (s ∷ ss) = P s × EachSort P ss

-- what shows P of every sort
pub record SortCases (P : Sort → Type 0) : Type 0 where
  pub at_whole : P whole
  pub at_range : (l h : ℤ) → P (range l h)
  pub at_truths : P truths
  pub at_array : (l h : ℤ) (s : Sort) → P s → P (array l h s)
  pub at_record : (n : ℕ) (ss : List Sort) → EachSort P ss → P (record_of n ss)
  pub at_generated : (n : ℕ) → P (generated n)

each_shown : (P : Sort → Type 0) (es : List ((s : Sort) × P s)) → EachSort P (map (λ e. e.0) es)
each_shown P [] = tt
each_shown P (e ∷ es) = (e.1, each_shown P es)

pub by_sort : (P : Sort → Type 0) → SortCases P → (s : Sort) → P s
by_sort P c = ind-Sort P (λ x y is. subst (λ x. P (roll-Sort x)) is (layer y))
  where
    layer : (y : Sort-F ((s : Sort) × P s)) → P (roll-Sort (map-Sort ((s : Sort) × P s) Sort (λ e. e.0) y))
    layer Sort-F.Whole = c.at_whole
    layer (Sort-F.Range l h) = c.at_range l h
    layer Sort-F.Truth = c.at_truths
    layer (Sort-F.Array l h e) = c.at_array l h e.0 e.1
    layer (Sort-F.Record n es) = c.at_record n (map (λ e. e.0) es) (each_shown P es)
    layer (Sort-F.Free n) = c.at_generated n

same_roll : (y : Sort-F Sort) (t : Sort) → same_sort (roll-Sort y) t ≡ same_layer (map-Sort Sort (Sort → Bool) same_sort y) (out-Sort t)
unfolding same_sort
same_roll y t = ap (λ f. f t) (fold-roll-Sort (Sort → Bool) (λ f s. same_layer f (out-Sort s)) y)

int_is : (a b : ℤ) → int_eq a b ≡ true → a ≡ b
int_is a b = (Decides-int_eq a b).0

int_self : (a : ℤ) → int_eq a a ≡ true
int_self a = (Decides-int_eq a a).1 refl

abbrev Is : Sort → Type 0
Is s = (t : Sort) → same_sort s t ≡ true → s ≡ t

each_is : (ss ts : List Sort) → EachSort Is ss → each_same (map same_sort ss) ts ≡ true → ss ≡ ts
each_is [] [] h k = refl
each_is (s ∷ ss) (t ∷ ts) h k = let p = and_parts (same_sort s t) (each_same (map same_sort ss) ts) k in let a = h.0 t p.0 in let b = each_is ss ts h.1 p.1 in λ i. a i ∷ b i
each_is [] (t ∷ ts) h k = absurd cc
each_is (s ∷ ss) [] h k = absurd cc

-- what a layer that is the same as another one shows
abbrev LayerIs : Sort-F Sort → Type 0
LayerIs y = (z : Sort-F Sort) → same_layer (map-Sort Sort (Sort → Bool) same_sort y) z ≡ true → roll-Sort y ≡ roll-Sort z

whole_layer : LayerIs Sort-F.Whole
whole_layer Sort-F.Whole h = refl
whole_layer (Sort-F.Range l k) h = absurd cc
whole_layer Sort-F.Truth h = absurd cc
whole_layer (Sort-F.Array l k s) h = absurd cc
whole_layer (Sort-F.Record n ss) h = absurd cc
whole_layer (Sort-F.Free n) h = absurd cc

range_layer : (l h : ℤ) → LayerIs (Sort-F.Range l h)
range_layer l h (Sort-F.Range m k) e = let p = and_parts (int_eq l m) (int_eq h k) e in let a = int_is l m p.0 in let b = int_is h k p.1 in λ i. range (a i) (b i)
range_layer l h Sort-F.Whole e = absurd cc
range_layer l h Sort-F.Truth e = absurd cc
range_layer l h (Sort-F.Array m k s) e = absurd cc
range_layer l h (Sort-F.Record n ss) e = absurd cc
range_layer l h (Sort-F.Free n) e = absurd cc

truths_layer : LayerIs Sort-F.Truth
truths_layer Sort-F.Truth h = refl
truths_layer Sort-F.Whole h = absurd cc
truths_layer (Sort-F.Range l k) h = absurd cc
truths_layer (Sort-F.Array l k s) h = absurd cc
truths_layer (Sort-F.Record n ss) h = absurd cc
truths_layer (Sort-F.Free n) h = absurd cc

array_layer : (l h : ℤ) (s : Sort) → Is s → LayerIs (Sort-F.Array l h s)
array_layer l h s is (Sort-F.Array m k t) e =
    let p = and_parts (int_eq l m && int_eq h k) (same_sort s t) e in
    let q = and_parts (int_eq l m) (int_eq h k) p.0 in
    let a = int_is l m q.0 in let b = int_is h k q.1 in let c = is t p.1 in λ i. array (a i) (b i) (c i)
array_layer l h s is Sort-F.Whole e = absurd cc
array_layer l h s is (Sort-F.Range m k) e = absurd cc
array_layer l h s is Sort-F.Truth e = absurd cc
array_layer l h s is (Sort-F.Record n ss) e = absurd cc
array_layer l h s is (Sort-F.Free n) e = absurd cc

record_layer : (n : ℕ) (ss : List Sort) → EachSort Is ss → LayerIs (Sort-F.Record n ss)
record_layer n ss is (Sort-F.Record m ts) e = let p = and_parts (eqb n m) (each_same (map same_sort ss) ts) e in let a = eqb-true n m p.0 in let b = each_is ss ts is p.1 in λ i. record_of (a i) (b i)
record_layer n ss is Sort-F.Whole e = absurd cc
record_layer n ss is (Sort-F.Range m k) e = absurd cc
record_layer n ss is Sort-F.Truth e = absurd cc
record_layer n ss is (Sort-F.Array m k t) e = absurd cc
record_layer n ss is (Sort-F.Free m) e = absurd cc

free_layer : (n : ℕ) → LayerIs (Sort-F.Free n)
free_layer n (Sort-F.Free m) e = ap generated (eqb-true n m e)
free_layer n Sort-F.Whole e = absurd cc
free_layer n (Sort-F.Range m k) e = absurd cc
free_layer n Sort-F.Truth e = absurd cc
free_layer n (Sort-F.Array m k t) e = absurd cc
free_layer n (Sort-F.Record m ts) e = absurd cc

from_layer : (y : Sort-F Sort) → LayerIs y → Is (roll-Sort y)
from_layer y is t h = is (out-Sort t) (sym (same_roll y t) ∙ h) ∙ roll-out-Sort t

-- the test is true of one sort alone
pub same_is : (s : Sort) → Is s
same_is = by_sort Is record {
  at_whole = from_layer Sort-F.Whole whole_layer;
  at_range = λ l h. from_layer (Sort-F.Range l h) (range_layer l h);
  at_truths = from_layer Sort-F.Truth truths_layer;
  at_array = λ l h s is. from_layer (Sort-F.Array l h s) (array_layer l h s is);
  at_record = λ n ss is. from_layer (Sort-F.Record n ss) (record_layer n ss is);
  at_generated = λ n. from_layer (Sort-F.Free n) (free_layer n);
}

abbrev Self : Sort → Type 0
Self s = same_sort s s ≡ true

each_self : (ss : List Sort) → EachSort Self ss → each_same (map same_sort ss) ss ≡ true
each_self [] h = refl
each_self (s ∷ ss) h = (λ i. h.0 i && each_same (map same_sort ss) ss) ∙ each_self ss h.1

opened : (y : Sort-F Sort) → same_layer (map-Sort Sort (Sort → Bool) same_sort y) y ≡ true → Self (roll-Sort y)
opened y h = same_roll y (roll-Sort y) ∙ (ap (same_layer (map-Sort Sort (Sort → Bool) same_sort y)) (out-roll-Sort y) ∙ h)

pub same_self : (s : Sort) → Self s
same_self = by_sort Self record {
  at_whole = opened Sort-F.Whole refl;
  at_range = λ l h. opened (Sort-F.Range l h) (λ i. int_self l i && int_self h i);
  at_truths = opened Sort-F.Truth refl;
  at_array = λ l h s is. opened (Sort-F.Array l h s) (λ i. int_self l i && int_self h i && is i);
  at_record = λ n ss is. opened (Sort-F.Record n ss) ((λ i. eq-eqb n n refl i && each_same (map same_sort ss) ss) ∙ each_self ss is);
  at_generated = λ n. opened (Sort-F.Free n) (eq-eqb n n refl);
}

-- as the code tells sorts apart
pub same_by : (s t : Sort) (b : Bool) → IsTrue b ↔ (s ≡ t) → b ≡ same_sort s t
same_by s t true h = sym (ap (same_sort s) (sym (h.0 refl)) ∙ same_self s)
same_by s t false h = by_test (same_sort s t) refl
  where
    by_test : (c : Bool) → same_sort s t ≡ c → false ≡ same_sort s t
    by_test false e = sym e
    by_test true e = absurd (let f = h.1 (same_is s t e) in cc)

abbrev all_same : List Sort → List Sort → Bool
all_same ss ts = each_same (map same_sort ss) ts

every_is : (ss ts : List Sort) → all_same ss ts ≡ true → ss ≡ ts
every_is [] [] h = refl
every_is (s ∷ ss) (t ∷ ts) h = let p = and_parts (same_sort s t) (all_same ss ts) h in let a = same_is s t p.0 in let b = every_is ss ts p.1 in λ i. a i ∷ b i
every_is [] (t ∷ ts) h = absurd cc
every_is (s ∷ ss) [] h = absurd cc

every_self : (ss : List Sort) → all_same ss ss ≡ true
every_self [] = refl
every_self (s ∷ ss) = (λ i. same_self s i && all_same ss ss) ∙ every_self ss

pub all_same_by : (ss ts : List Sort) (b : Bool) → IsTrue b ↔ (ss ≡ ts) → b ≡ each_same (map same_sort ss) ts
all_same_by ss ts true h = sym (ap (all_same ss) (sym (h.0 refl)) ∙ every_self ss)
all_same_by ss ts false h = by_test (all_same ss ts) refl
  where
    by_test : (c : Bool) → all_same ss ts ≡ c → false ≡ all_same ss ts
    by_test false e = sym e
    by_test true e = absurd (let f = h.1 (every_is ss ts e) in cc)
