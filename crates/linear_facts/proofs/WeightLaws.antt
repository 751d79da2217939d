-- The weights of a sequent, one coefficient after another.
use Rattle.std.proofs.Common.{◌≡◌, ℕ, ◌+◌, ◌<◌, ◌≤◌, ℤ, pos, List, [], ◌∷◌, ◌++◌, map, length, drop, get_or, Bool, true, false, ◌&&◌, refl, sym, ◌∙◌, ap, add-one}
use Rattle.std.specs.List.{list_all}
use Rattle.std.proofs.lemmas.List.{at_drop_more, drop_all}
use Rattle.std.proofs.lemmas.List.Folds.{list_all-append}
use Rattle.term_core.specs.declared.sequent.Sequent.{Sequent}
use Rattle.linear_facts.specs.declared.lanes.Lane.{Lane}
use Rattle.linear_facts.specs.Facts.{Fact, fact_at}
use Rattle.linear_facts.specs.Closing.{weighed, weights_from}
use Rattle.linear_facts.specs.Lanes.{with_fact, with_weights}

pub next_weight : (sequent : Sequent) (cs : List ℤ) (i : ℕ) → i < length cs
    → weights_from sequent i (drop i cs) ≡ weighed (get_or cs i (pos 0)) (fact_at sequent i) ++ weights_from sequent (i + 1) (drop (i + 1) cs)
next_weight sequent cs i l = at_drop_more (weights_from sequent i) cs i (pos 0) l
    ∙ ap (λ j. weighed (get_or cs i (pos 0)) (fact_at sequent i) ++ weights_from sequent j (drop (i + 1) cs)) (sym (add-one i))

-- where all coefficients are passed
pub no_weights : (sequent : Sequent) (cs : List ℤ) (i : ℕ) → length cs ≤ i → weights_from sequent i (drop i cs) ≡ []
no_weights sequent cs i l = ap (weights_from sequent i) (drop_all i cs l)

-- ---- a test of all of them

pub all_next : (test : ℤ × Fact → Bool) (sequent : Sequent) (cs : List ℤ) (i : ℕ) → i < length cs → list_all test (weighed (get_or cs i (pos 0)) (fact_at sequent i)) ≡ true
    → list_all test (weights_from sequent i (drop i cs)) ≡ list_all test (weights_from sequent (i + 1) (drop (i + 1) cs))
all_next test sequent cs i l e = ap (list_all test) (next_weight sequent cs i l)
    ∙ (list_all-append test (weighed (get_or cs i (pos 0)) (fact_at sequent i)) (weights_from sequent (i + 1) (drop (i + 1) cs))
    ∙ ap (λ b. b && list_all test (weights_from sequent (i + 1) (drop (i + 1) cs))) e)

pub all_failed : (test : ℤ × Fact → Bool) (sequent : Sequent) (cs : List ℤ) (i : ℕ) → i < length cs → list_all test (weighed (get_or cs i (pos 0)) (fact_at sequent i)) ≡ false
    → list_all test (weights_from sequent i (drop i cs)) ≡ false
all_failed test sequent cs i l e = ap (list_all test) (next_weight sequent cs i l)
    ∙ (list_all-append test (weighed (get_or cs i (pos 0)) (fact_at sequent i)) (weights_from sequent (i + 1) (drop (i + 1) cs))
    ∙ ap (λ b. b && list_all test (weights_from sequent (i + 1) (drop (i + 1) cs))) e)

-- ---- what they add to lanes

with-append : (xs ys : List (ℤ × Fact)) (lane : Lane) → with_weights ys (with_weights xs lane) ≡ with_weights (xs ++ ys) lane
with-append [] ys lane = refl
with-append (x ∷ xs) ys lane = with-append xs ys (with_fact x.0 x.1 lane)

mapped-append : (xs ys : List (ℤ × Fact)) (lanes : List Lane) → map (with_weights ys) (map (with_weights xs) lanes) ≡ map (with_weights (xs ++ ys)) lanes
mapped-append xs ys [] = refl
mapped-append xs ys (lane ∷ lanes) = λ i. with-append xs ys lane i ∷ mapped-append xs ys lanes i

pub none_added : (lanes : List Lane) → map (with_weights []) lanes ≡ lanes
none_added [] = refl
none_added (lane ∷ lanes) = ap (λ ls. lane ∷ ls) (none_added lanes)

pub added_next : (sequent : Sequent) (cs : List ℤ) (i : ℕ) (lanes more : List Lane) → i < length cs
    → more ≡ map (with_weights (weighed (get_or cs i (pos 0)) (fact_at sequent i))) lanes
    → map (with_weights (weights_from sequent (i + 1) (drop (i + 1) cs))) more ≡ map (with_weights (weights_from sequent i (drop i cs))) lanes
added_next sequent cs i lanes more l e = ap (map (with_weights (weights_from sequent (i + 1) (drop (i + 1) cs)))) e
    ∙ (mapped-append (weighed (get_or cs i (pos 0)) (fact_at sequent i)) (weights_from sequent (i + 1) (drop (i + 1) cs)) lanes
    ∙ ap (λ ws. map (with_weights ws) lanes) (sym (next_weight sequent cs i l)))
