-- Atoms that are taken into a window.
use Rattle.std.proofs.Common.{◌≡◌, List, [], ◌∷◌, Bool, true, false, ◌&&◌, ◌||◌, refl, sym, ◌∙◌, ap}
use Rattle.std.specs.List.{list_all, list_any}
use Rattle.std.proofs.lemmas.List.Folds.{list_all-append}
use Rattle.term_core.specs.declared.term.Term.{Term}
use Rattle.linear_facts.specs.declared.lanes.Part as parts
use Rattle.linear_facts.specs.Forms.{Shape, sum, difference, shape_of, within_shape, Part}
use Rattle.linear_facts.specs.Views.{part_behind}
use Rattle.linear_facts.specs.Asked.{atoms_by, atoms_of}
use Rattle.linear_facts.specs.Lanes.{same_part}
use Rattle.linear_facts.proofs.ShapeLaws.{over_at}
use Rattle.linear_facts.proofs.SumLaws.{same_part_is}

pub and_assoc : (a b c : Bool) → ((a && b) && c) ≡ (a && (b && c))
and_assoc true b c = refl
and_assoc false b c = refl

-- ---- a part that is there already

held : (a b : Bool) → (a && b) ≡ ((a && b) && a)
held true true = refl
held true false = refl
held false b = refl

pub among : (right : Part → Bool) (p : Part) (ps : List parts.Part) → list_any (λ q. same_part (part_behind q) p) ps ≡ true
    → list_all (λ q. right (part_behind q)) ps ≡ (list_all (λ q. right (part_behind q)) ps && right p)
among right p [] e = absurd cc
among right p (q ∷ ps) e = by_test (same_part (part_behind q) p) refl (λ k. among right p ps k)
  where
    by_test : (b : Bool) → same_part (part_behind q) p ≡ b
        → (list_any (λ q. same_part (part_behind q) p) ps ≡ true → list_all (λ q. right (part_behind q)) ps ≡ (list_all (λ q. right (part_behind q)) ps && right p))
        → (right (part_behind q) && list_all (λ q. right (part_behind q)) ps) ≡ ((right (part_behind q) && list_all (λ q. right (part_behind q)) ps) && right p)
    by_test true s h = held (right (part_behind q)) (list_all (λ q. right (part_behind q)) ps) ∙ ap (λ r. (right (part_behind q) && list_all (λ q. right (part_behind q)) ps) && right r) (same_part_is (part_behind q) p s)
    by_test false s h = ap (λ b. right (part_behind q) && b) (h (sym (ap (λ b. b || list_any (λ q. same_part (part_behind q) p) ps) s) ∙ e))
        ∙ sym (and_assoc (right (part_behind q)) (list_all (λ q. right (part_behind q)) ps) (right p))

-- ---- one term after another: where the first answer is true, and where it is false

pub both_taken : (done more window first last a b : Bool) → (done && first) ≡ (window && a) → done ≡ true → (more && last) ≡ (first && b) → (more && last) ≡ (window && (a && b))
both_taken done more window first last a b e d f = f ∙ (ap (λ x. x && b) (ap (λ d. d && first) (sym d) ∙ e) ∙ and_assoc window a b)

pub first_failed : (done window first a b : Bool) → (done && first) ≡ (window && a) → done ≡ false → (done && first) ≡ (window && (a && b))
first_failed done window first a b e d = ap (λ d. d && first) d ∙ (ap (λ x. x && b) (sym (ap (λ d. d && first) d) ∙ e) ∙ and_assoc window a b)

-- ---- the atoms of a term

pub atoms_at : (t : Term) (s : Shape Term) → shape_of t ≡ s → atoms_of t ≡ atoms_by t (within_shape atoms_of s)
atoms_at = over_at atoms_by

pub all_in_sum : (right : Term → Bool) (t a b : Term) → shape_of t ≡ sum a b → list_all right (atoms_of t) ≡ (list_all right (atoms_of a) && list_all right (atoms_of b))
all_in_sum right t a b s = ap (list_all right) (atoms_at t (sum a b) s) ∙ list_all-append right (atoms_of a) (atoms_of b)

pub all_in_difference : (right : Term → Bool) (t a b : Term) → shape_of t ≡ difference a b → list_all right (atoms_of t) ≡ (list_all right (atoms_of a) && list_all right (atoms_of b))
all_in_difference right t a b s = ap (list_all right) (atoms_at t (difference a b) s) ∙ list_all-append right (atoms_of a) (atoms_of b)

pub and_true : (b : Bool) → b ≡ (b && true)
and_true true = refl
and_true false = refl
