-- The sort of a term at each kind of term.
use Rattle.std.proofs.Common.{◌≡◌, ℕ, ℤ, List, [], ◌∷◌, ◌++◌, map, find, Bool, true, false, ◌||◌, if◌then◌else◌, Option, Some, refl, sym, ◌∙◌, ap}
use Rattle.std.specs.Prelude.{bytes_eq}
use Rattle.std.specs.Option.{option_and_then}
use Rattle.term_core.specs.declared.sort.Sort.{Sort}
use Rattle.term_core.specs.declared.sort.Sort.TheVariants as sort
use Rattle.term_sorts.specs.declared.sorting.OpSort.{OpSort}
use Rattle.term_core.specs.declared.term.Oper.{Oper}
use Rattle.term_core.specs.declared.term.Oper.TheVariants as oper
use Rattle.term_core.specs.declared.term.Term.{Term}
use Rattle.term_core.specs.declared.term.Term.TheVariants as variant
use Rattle.term_core.specs.declared.term.Term.TheViews as made
use Rattle.term_core.specs.declared.term.Term.TheOpen.{Term-F}
use Rattle.term_core.specs.declared.term.Term.TheFolds.{fold-roll-Term}
use Rattle.term_core.specs.Names.{has}
use Rattle.term_core.specs.Opers.{same_operator}
use Rattle.term_core.specs.Options.{all_some}
use Rattle.term_core.specs.Sorts.{whole, truths}
use Rattle.term_core.specs.Terms.{int, truth, var, op, Quantifier, for_all, exists, quantify}
use Rattle.term_sorts.specs.Sorting.{listed_sort, other_sort, result_sort, Scope, Sorted, with_bound, in_scope, quantifier_sort, sort_step, sort_with, sorts_each, within}

pub other_default : (ops : List OpSort) (o : Oper) (ss : List Sort) → (o ≡ oper.Eq → ⊥) → (o ≡ oper.If → ⊥) → (o ≡ oper.Select → ⊥) → (o ≡ oper.Store → ⊥)
    → other_sort ops o ss ≡ listed_sort (find (λ entry. same_operator entry.oper o) ops) ss
other_default ops oper.Eq ss a b c d = absurd (a refl)
other_default ops oper.If ss a b c d = absurd (b refl)
other_default ops oper.Select ss a b c d = absurd (c refl)
other_default ops oper.Store ss a b c d = absurd (d refl)
other_default ops oper.Add ss a b c d = refl
other_default ops _ ss a b c d = refl

-- ---- the sort of each kind of term

pub sort_int : (ops : List OpSort) (n : ℤ) (scope : Scope) → sort_with ops (int n) scope ≡ Some whole
unfolding sort_with
sort_int ops n scope = ap (λ f. f scope) (fold-roll-Term Sorted (sort_step ops) (Term-F.Int n))

pub sort_truth : (ops : List OpSort) (b : Bool) (scope : Scope) → sort_with ops (truth b) scope ≡ Some truths
unfolding sort_with
sort_truth ops b scope = ap (λ f. f scope) (fold-roll-Term Sorted (sort_step ops) (Term-F.Truth b))

pub sort_var : (ops : List OpSort) (x : List ℕ) (scope : Scope) → sort_with ops (var x) scope ≡ scope x
unfolding sort_with
sort_var ops x scope = ap (λ f. f scope) (fold-roll-Term Sorted (sort_step ops) (Term-F.Var x))

in_scope_each : (ops : List OpSort) (scope : Scope) (ts : List Term) → in_scope scope (map (sort_with ops) ts) ≡ sorts_each ops scope ts
in_scope_each ops scope [] = refl
in_scope_each ops scope (t ∷ ts) = ap (λ os. sort_with ops t scope ∷ os) (in_scope_each ops scope ts)

pub sort_op : (ops : List OpSort) (o : Oper) (ts : List Term) (scope : Scope) → sort_with ops (op o ts) scope ≡ option_and_then (result_sort ops o) (all_some (sorts_each ops scope ts))
unfolding sort_with
sort_op ops o ts scope = ap (λ f. f scope) (fold-roll-Term Sorted (sort_step ops) (Term-F.Op o ts)) ∙ ap (λ os. option_and_then (result_sort ops o) (all_some os)) (in_scope_each ops scope ts)

pub sort_quantifier : (q : Quantifier) (ops : List OpSort) (x : List ℕ) (l h b : Term) (scope : Scope)
    → sort_with ops (quantify q x l h b) scope ≡ quantifier_sort (sort_with ops l scope) (sort_with ops h scope) (sort_with ops b (with_bound scope x))
unfolding sort_with
sort_quantifier for_all ops x l h b scope = ap (λ f. f scope) (fold-roll-Term Sorted (sort_step ops) (Term-F.All x l h b))
sort_quantifier exists ops x l h b scope = ap (λ f. f scope) (fold-roll-Term Sorted (sort_step ops) (Term-F.Some x l h b))

-- ---- names within quantifiers

within-append : (scope : Scope) (xs : List (List ℕ)) (y : List ℕ) → within scope (xs ++ y ∷ []) ≡ with_bound (within scope xs) y
within-append scope [] y = refl
within-append scope (x ∷ xs) y = within-append (with_bound scope x) xs y

-- a name more is bound
pub inside : (scope : Scope) (os es fs : List (List ℕ)) (x : List ℕ) → fs ≡ es ++ x ∷ [] → es ≡ os → within scope fs ≡ with_bound (within scope os) x
inside scope os es fs x e h = ap (within scope) e ∙ (within-append scope es x ∙ ap (λ xs. with_bound (within scope xs) x) h)

-- a name that is bound is a number, and any other one has its own sort
pub within_is : (xs : List (List ℕ)) (x : List ℕ) (scope : Scope) → within scope xs x ≡ (if has xs x then Some whole else scope x)
within_is [] x scope = refl
within_is (y ∷ ys) x scope = within_is ys x (with_bound scope y) ∙ by_tests (has ys x) (bytes_eq y x)
  where
    by_tests : (later here : Bool) → (if later then Some whole else (if here then Some whole else scope x)) ≡ (if here || later then Some whole else scope x)
    by_tests true true = refl
    by_tests true false = refl
    by_tests false true = refl
    by_tests false false = refl

-- ---- as the code finds sorts

pub is_int : (ops : List OpSort) (t : Term) (n : ℤ) (scope : Scope) → t ≡ variant.Int n → Some sort.Whole ≡ sort_with ops t scope
is_int ops t n scope e = ap Some (sym sort.rolls-Whole) ∙ (sym (sort_int ops n scope) ∙ ap (λ u. sort_with ops u scope) (sym (e ∙ sym (variant.rolls-Int n))))

pub is_truth : (ops : List OpSort) (t : Term) (b : Bool) (scope : Scope) → t ≡ variant.Truth b → Some sort.Truth ≡ sort_with ops t scope
is_truth ops t b scope e = ap Some (sym sort.rolls-Truth) ∙ (sym (sort_truth ops b scope) ∙ ap (λ u. sort_with ops u scope) (sym (e ∙ sym (variant.rolls-Truth b))))

pub is_var : (ops : List OpSort) (t : Term) (x : List ℕ) (scope : Scope) → t ≡ variant.Var x → scope x ≡ sort_with ops t scope
is_var ops t x scope e = sym (sort_var ops x scope) ∙ ap (λ u. sort_with ops u scope) (sym (e ∙ sym (variant.rolls-Var x)))

pub is_op : (ops : List OpSort) (t : Term) (o : Oper) (ts : List Term) (scope : Scope) (r : Option (List Sort)) → t ≡ made.Op o ts → r ≡ all_some (sorts_each ops scope ts)
    → option_and_then (result_sort ops o) r ≡ sort_with ops t scope
is_op ops t o ts scope r e h = ap (option_and_then (result_sort ops o)) h ∙ (sym (sort_op ops o ts scope) ∙ ap (λ u. sort_with ops u scope) (sym (e ∙ sym (variant.rolls-Op o ts))))

is_quantifier : (q : Quantifier) (ops : List OpSort) (t : Term) (x : List ℕ) (l h b : Term) (scope : Scope) (low high body : Option Sort) → t ≡ quantify q x l h b
    → low ≡ sort_with ops l scope → high ≡ sort_with ops h scope → body ≡ sort_with ops b (with_bound scope x) → quantifier_sort low high body ≡ sort_with ops t scope
is_quantifier q ops t x l h b scope low high body e el eh eb =
    (λ i. quantifier_sort (el i) (eh i) (eb i)) ∙ (sym (sort_quantifier q ops x l h b scope) ∙ ap (λ u. sort_with ops u scope) (sym e))

pub is_all : (ops : List OpSort) (t : Term) (x : List ℕ) (l h b : Term) (scope : Scope) (low high body : Option Sort) → t ≡ made.All x l h b
    → low ≡ sort_with ops l scope → high ≡ sort_with ops h scope → body ≡ sort_with ops b (with_bound scope x) → quantifier_sort low high body ≡ sort_with ops t scope
is_all ops t x l h b scope low high body e = is_quantifier for_all ops t x l h b scope low high body (e ∙ sym (variant.rolls-All x l h b))

pub is_some : (ops : List OpSort) (t : Term) (x : List ℕ) (l h b : Term) (scope : Scope) (low high body : Option Sort) → t ≡ made.Some x l h b
    → low ≡ sort_with ops l scope → high ≡ sort_with ops h scope → body ≡ sort_with ops b (with_bound scope x) → quantifier_sort low high body ≡ sort_with ops t scope
is_some ops t x l h b scope low high body e = is_quantifier exists ops t x l h b scope low high body (e ∙ sym (variant.rolls-Some x l h b))
