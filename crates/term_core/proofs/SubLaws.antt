-- Substitutions as lists of entries.
use Rattle.std.proofs.Common.{◌≡◌, ℕ, ◌+◌, ◌-◌, ◌<◌, ◌≤◌, List, [], ◌∷◌, ◌++◌, length, take, drop, get_or, true, false, if◌then◌else◌, refl, sym, ◌∙◌, ap, subst, arith, Result, Ok, Err, OnOk}
use Rattle.std.specs.Prelude.{bytes_eq}
use Rattle.std.proofs.lemmas.List.{take_more, at_drop_more}
use Rattle.term_core.specs.declared.term.Term.TheVariants as variant
use Rattle.term_core.specs.declared.replacing.Entry.{Entry}
use Rattle.term_core.specs.Names.{union, union_all}
use Rattle.term_core.specs.Terms.{var}
use Rattle.term_core.specs.Substitution.{Sub, extend, free, frees, normal, then_entries, sub_of, renamed, normal_entries}

then-append : (s : Sub) (es : List Entry) (e : Entry) → then_entries s (es ++ e ∷ []) ≡ extend (then_entries s es) e.name e.by
then-append s [] e = refl
then-append s (d ∷ es) e = then-append (extend s d.name d.by) es e

pub sub_append : (es : List Entry) (e : Entry) → sub_of (es ++ e ∷ []) ≡ extend (sub_of es) e.name e.by
sub_append es e = then-append var es e

last_of : (es : List Entry) (i : ℕ) (d : Entry) (x : List ℕ) → i < length es → d ≡ get_or es i d → sub_of (take (i + 1) es) x ≡ (if bytes_eq x d.name then d.by else sub_of (take i es) x)
last_of es i d x l e = ap (λ ds. sub_of ds x) (take_more es i d l) ∙ (ap (λ c. sub_of (take i es ++ c ∷ []) x) (sym e) ∙ ap (λ s. s x) (sub_append (take i es) d))

-- ---- at the count n, of which the place is n - 1

at_count : (es : List Entry) (n : ℕ) (d : Entry) (x : List ℕ) → 0 < n → n ≤ length es → d ≡ get_or es (n - 1) d
    → sub_of (take n es) x ≡ (if bytes_eq x d.name then d.by else sub_of (take (n - 1) es) x)
at_count es n d x h l e = let k : (n - 1) + 1 ≡ n = omega arith in
    subst (λ j. sub_of (take j es) x ≡ (if bytes_eq x d.name then d.by else sub_of (take (n - 1) es) x)) k (last_of es (n - 1) d x (omega arith) e)

pub found_at : (es : List Entry) (n : ℕ) (d : Entry) (x : List ℕ) → 0 < n → n ≤ length es → d ≡ get_or es (n - 1) d → bytes_eq x d.name ≡ true → sub_of (take n es) x ≡ d.by
found_at es n d x h l e t = at_count es n d x h l e ∙ ap (λ b. if b then d.by else sub_of (take (n - 1) es) x) t

pub passed_at : (es : List Entry) (n : ℕ) (d : Entry) (x : List ℕ) → 0 < n → n ≤ length es → d ≡ get_or es (n - 1) d → bytes_eq x d.name ≡ false → sub_of (take (n - 1) es) x ≡ sub_of (take n es) x
passed_at es n d x h l e t = sym (at_count es n d x h l e ∙ ap (λ b. if b then d.by else sub_of (take (n - 1) es) x) t)

pub frees_step : (s : Sub) (xs : List (List ℕ)) (n : ℕ) (d : List ℕ) → 0 < n → n ≤ length xs → d ≡ get_or xs (n - 1) d
    → union_all (frees s (drop (n - 1) xs)) ≡ union (free (s d)) (union_all (frees s (drop n xs)))
frees_step s xs n d h l e = let k : (n - 1) + 1 ≡ n = omega arith in
    at_drop_more (λ ys. union_all (frees s ys)) xs (n - 1) d (omega arith) ∙ (ap (λ x. union (free (s x)) (union_all (frees s (drop ((n - 1) + 1) xs)))) (sym e) ∙ ap (λ j. union (free (s d)) (union_all (frees s (drop j xs)))) k)

-- ---- as the code makes entries

pub renamed_is : (x x' y y' : List ℕ) → x' ≡ x → y' ≡ y → ◌≡◌ {A = Entry} (record { name = x'; by = variant.Var y' }) (renamed x y)
renamed_is x x' y y' e f = λ i. record { name = e i; by = (sym (variant.rolls-Var y') ∙ ap var f) i }

pub on_ok : {A E : Type 0} (r : Result A E) (P : Type 0) → P → OnOk r P
on_ok (Ok x) P p = p
on_ok (Err e) P p = tt

-- under a quantifier, what stands for names
pub under : (os es : List Entry) (x y : List ℕ) (fs : List Entry) → fs ≡ es ++ renamed x y ∷ [] → es ≡ os → sub_of fs ≡ extend (sub_of os) x (var y)
under os es x y fs e h = ap sub_of e ∙ (sub_append es (renamed x y) ∙ ap (λ ds. extend (sub_of ds) x (var y)) h)

normal-append : (es fs : List Entry) → normal_entries (es ++ fs) ≡ normal_entries es ++ normal_entries fs
normal-append [] fs = refl
normal-append (e ∷ es) fs = ap (λ ds. record { name = e.name; by = normal e.by } ∷ ds) (normal-append es fs)

pub normal_more : (es : List Entry) (i : ℕ) (d : Entry) → i < length es → d ≡ get_or es i d
    → normal_entries (take (i + 1) es) ≡ normal_entries (take i es) ++ record { name = d.name; by = normal d.by } ∷ []
normal_more es i d l e = ap normal_entries (take_more es i d l) ∙ (normal-append (take i es) (get_or es i d ∷ []) ∙ ap (λ c. normal_entries (take i es) ++ record { name = c.name; by = normal c.by } ∷ []) (sym e))
