-- Indexes of entries, with one entry more.
use Rattle.std.proofs.Common.{◌≡◌, ℕ, suc, ◌+◌, List, [], ◌∷◌, ◌++◌, Bool, true, false, refl, ap, sym, ◌∙◌, cond, Option, Some, None, length, option_map, arith}
use Rattle.std.specs.Prelude.{if◌then◌else◌, slice_get, find, filter, filter_map, count_by}
use Rattle.std.specs.List.{cons_option}
use Rattle.std.proofs.Common.{append_assoc, length-append}
use Rattle.std.proofs.lemmas.List.Sums.{sum_by-append}
use Rattle.std.specs.Option.{option_and_then}
use Rattle.ada_names.specs.declared.entry.Entry.{Entry}
use Rattle.ada_names.specs.Tables.{first_index, all_indexes, or_noted, with_number}

pub one_more : (test : Entry → Bool) (es : List Entry) (e : Entry) → first_index test (es ++ e ∷ []) ≡ or_noted (first_index test es) (test e) (length es)
one_more test [] e = by (test e)
  where
    by : (t : Bool) → (if t then Some 0 else None) ≡ or_noted None t 0
    by true = refl
    by false = refl
one_more test (x ∷ es) e = by (test x) (first_index test (es ++ e ∷ [])) (one_more test es e)
  where
    more : (o : Option ℕ) (t : Bool) → option_map suc (or_noted o t (length es)) ≡ or_noted (option_map suc o) t (suc (length es))
    more (Some k) t = refl
    more None true = refl
    more None false = refl

    by : (t : Bool) (o : Option ℕ) → o ≡ or_noted (first_index test es) (test e) (length es) → (if t then Some 0 else option_map suc o) ≡ or_noted (if t then Some 0 else option_map suc (first_index test es)) (test e) (suc (length es))
    by true o h = refl
    by false o h = ap (option_map suc) h ∙ more (first_index test es) (test e)

-- what stands at the first index
pub found : (test : Entry → Bool) (es : List Entry) → option_and_then (slice_get es) (first_index test es) ≡ find test es
found test [] = refl
found test (x ∷ es) = by (test x) (first_index test es) (found test es)
  where
    by : (t : Bool) (o : Option ℕ) → option_and_then (slice_get es) o ≡ find test es → option_and_then (slice_get (x ∷ es)) (if t then Some 0 else option_map suc o) ≡ cond t (Some x) (find test es)
    by true o h = refl
    by false (Some k) h = h
    by false None h = h

pub one_more_of_all : (test : Entry → Bool) (n : ℕ) (es : List Entry) (e : Entry) → all_indexes test n (es ++ e ∷ []) ≡ with_number (test e) (all_indexes test n es) (n + length es)
one_more_of_all test n [] e = by (test e) (sum)
  where
    sum : n ≡ n + 0
    sum = omega arith

    by : (t : Bool) → n ≡ n + 0 → (if t then n ∷ [] else []) ≡ with_number t [] (n + 0)
    by true h = ap (λ (k : ℕ). k ∷ []) h
    by false h = refl
one_more_of_all test n (x ∷ es) e = by (test x) (test e) (one_more_of_all test (n + 1) es e)
  where
    sum : n + 1 + length es ≡ n + suc (length es)
    sum = omega arith

    under : (t : Bool) (xs : List ℕ) (k : ℕ) → n ∷ with_number t xs k ≡ with_number t (n ∷ xs) k
    under true xs k = refl
    under false xs k = refl

    by : (t u : Bool) → all_indexes test (n + 1) (es ++ e ∷ []) ≡ with_number u (all_indexes test (n + 1) es) (n + 1 + length es) → (if t then n ∷ all_indexes test (n + 1) (es ++ e ∷ []) else all_indexes test (n + 1) (es ++ e ∷ [])) ≡ with_number u (if t then n ∷ all_indexes test (n + 1) es else all_indexes test (n + 1) es) (n + suc (length es))
    by true u h = ap (λ (xs : List ℕ). n ∷ xs) (h ∙ ap (with_number u (all_indexes test (n + 1) es)) sum) ∙ under u (all_indexes test (n + 1) es) (n + suc (length es))
    by false u h = h ∙ ap (with_number u (all_indexes test (n + 1) es)) sum

-- the entry after those before it
at_seam : (before : List Entry) (x : Entry) (es : List Entry) → slice_get (before ++ x ∷ es) (length before) ≡ Some x
at_seam [] x es = refl
at_seam (y ∷ before) x es = at_seam before x es

-- the entries at the indexes of those that pass
of_all_after : (test : Entry → Bool) (before es : List Entry) → filter_map (slice_get (before ++ es)) (all_indexes test (length before) es) ≡ filter test es
of_all_after test before [] = refl
of_all_after test before (x ∷ es) = by (test x) (later (of_all_after test (before ++ x ∷ []) es))
  where
    long : length (before ++ x ∷ []) ≡ length before + 1
    long = omega (arith, length-append before (x ∷ []))

    later : filter_map (slice_get ((before ++ x ∷ []) ++ es)) (all_indexes test (length (before ++ x ∷ [])) es) ≡ filter test es → filter_map (slice_get (before ++ x ∷ es)) (all_indexes test (length before + 1) es) ≡ filter test es
    later h =
        ap (λ (n : ℕ). filter_map (slice_get (before ++ x ∷ es)) (all_indexes test n es)) (sym long)
        ∙ ap (λ (all : List Entry). filter_map (slice_get all) (all_indexes test (length (before ++ x ∷ [])) es)) (sym (append_assoc before (x ∷ []) es))
        ∙ h

    by : (t : Bool) → filter_map (slice_get (before ++ x ∷ es)) (all_indexes test (length before + 1) es) ≡ filter test es → filter_map (slice_get (before ++ x ∷ es)) (if t then length before ∷ all_indexes test (length before + 1) es else all_indexes test (length before + 1) es) ≡ (if t then x ∷ filter test es else filter test es)
    by true h = ap (λ (o : Option Entry). cons_option o (filter_map (slice_get (before ++ x ∷ es)) (all_indexes test (length before + 1) es))) (at_seam before x es) ∙ ap (λ (ys : List Entry). x ∷ ys) h
    by false h = h

pub of_all : (test : Entry → Bool) (es : List Entry) → filter_map (slice_get es) (all_indexes test 0 es) ≡ filter test es
of_all test es = of_all_after test [] es

pub one_more_counted : (test : Entry → Bool) (es : List Entry) (e : Entry) → count_by test (es ++ e ∷ []) ≡ count_by test es + (if test e then 1 else 0)
one_more_counted test es e = sum_by-append (λ (x : Entry). cond (test x) 1 0) es (e ∷ []) ∙ ap (λ (n : ℕ). count_by test es + n) (by (test e))
  where
    by : (t : Bool) → 0 + cond t 1 0 ≡ (if t then 1 else 0)
    by true = refl
    by false = refl
