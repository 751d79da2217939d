-- What the code asks of a sequent and its coefficients.
use Rattle.std.specs.Prelude.{ℤ, pos, unsigned_abs, nat_le, nat_lt, int_lt, count_by, List, [], ◌∷◌, ◌++◌, Bool, not, ◌&&◌}
use Rattle.std.specs.List.{list_all}
use Rattle.std.specs.Int.{int_wrap}
use Rattle.std.specs.Ordering.{int_eq}
use mir.Syntax.{w128}
use Rattle.term_core.specs.declared.term.Term.{Term}
use Rattle.linear_facts.specs.declared.lanes.Part as parts
use Rattle.term_core.specs.declared.sequent.Sequent.{Sequent}
use Rattle.term_core.specs.Operations.{is_zero}
use Rattle.linear_facts.specs.declared.limits.TheConstants.{MOST_COEFFICIENT, TOO_MANY}
use Rattle.linear_facts.specs.Closing.{each_may_weigh, weights, total}
use Rattle.linear_facts.specs.Facts.{Fact, left_of, right_of}
use Rattle.linear_facts.specs.Forms.{Shape, literal, sum, difference, opposite, multiple, whole, over_shapes, Part, atom, constant}
use Rattle.linear_facts.specs.Views.{part_behind}
use Rattle.linear_facts.specs.Numbers.{fits_at}

-- ---- parts that are as they should be

abbrev pub fit_at : List (ℤ × Fact) → Part → Bool
fit_at ws p = list_all (λ w. fits_at p w.1) ws

-- the part is within its bounds, and adds up to 0
abbrev pub is_right : List (ℤ × Fact) → Part → Bool
is_right ws p = fit_at ws p && int_eq (int_wrap w128 (total ws p)) (pos 0)

abbrev pub is_atom_right : List (ℤ × Fact) → Term → Bool
is_atom_right ws t = is_right ws (atom t)

abbrev pub all_right : Sequent → List ℤ → List parts.Part → Bool
all_right sequent cs ps = list_all (λ p. is_right (weights sequent cs) (part_behind p)) ps

abbrev pub is_contradiction : List (ℤ × Fact) → Bool
is_contradiction ws = fit_at ws constant && int_lt (pos 0) (int_wrap w128 (total ws constant))

-- ---- the atoms of forms, in order

abbrev pub atoms_by : Term → Shape (List Term) → List Term
atoms_by t (literal n) = []
atoms_by t (sum ts us) = ts ++ us
atoms_by t (difference ts us) = ts ++ us
atoms_by t (opposite ts) = ts
atoms_by t (multiple n ts) = ts
atoms_by t whole = t ∷ []

abbrev pub atoms_of : Term → List Term
atoms_of = over_shapes atoms_by

abbrev pub atoms_in : Fact → List Term
atoms_in fact = atoms_of (left_of fact) ++ atoms_of (right_of fact)

abbrev pub all_atoms : List (ℤ × Fact) → List Term
all_atoms [] = []
all_atoms (w ∷ ws) = atoms_in w.1 ++ all_atoms ws

-- ---- the rules on coefficients

abbrev pub keeps_rules : Sequent → List ℤ → Bool
keeps_rules sequent cs = each_may_weigh sequent 0 cs && list_all (λ c. nat_le (unsigned_abs c) MOST_COEFFICIENT) cs
    && nat_lt (count_by (λ c. not (is_zero c)) cs) TOO_MANY

-- what the code asks
abbrev pub is_closed : Sequent → List ℤ → Bool
is_closed sequent cs = keeps_rules sequent cs && is_contradiction (weights sequent cs) && list_all (is_atom_right (weights sequent cs)) (all_atoms (weights sequent cs))
