use Rattle.std.proofs.Common.{◌≡◌, negsuc, List, true, false, Some, ap, sym, ◌∙◌, rules}
use Rattle.std.proofs.lemmas.Int.{to_z-of_z}
use mir.Syntax.{w128}
use mir.Val.{SFits}
use Rattle.term_core.specs.declared.term.Term.{Term}
use Rattle.linear_facts.specs.declared.lanes.Lane.{Lane}
use Rattle.linear_facts.specs.Forms.{Shape, literal, sum, difference, opposite, multiple, whole, shape_of, within_shape, constant}
use Rattle.linear_facts.specs.Views.{shape_behind}
use Rattle.linear_facts.specs.Numbers.{small, plus_or_minus, small_lists, scaled_numbers, part_numbers, lane_numbers_by, lane_numbers}
use Rattle.linear_facts.proofs.ShapeLaws.{over_at}
use Rattle.linear_facts.proofs.bounds.+numbers_in.Goals as goal

at : (lanes : List Lane) (t : Term) (s : Shape Term) → shape_of t ≡ s → lane_numbers_by lanes t (within_shape (lane_numbers lanes) s) ≡ lane_numbers lanes t
at lanes t s e = sym (over_at (lane_numbers_by lanes) t s e)

pub returns-in-Literal : goal.returns-in-Literal
returns-in-Literal t c =
    let n : SFits w128 c.in-Literal.value = search rules in
    let lanes = c.args.lanes.now in
    c.part_numbers.ensures ∙ (ap (part_numbers lanes constant) (c.small.ensures ∙ ap small (to_z-of_z w128 c.in-Literal.value n))
    ∙ at lanes c.args.term.now (literal c.in-Literal.value) (sym c.shape_of.ensures ∙ ap shape_behind c.in-Literal.is))

pub returns-in-Sum : goal.returns-in-Sum
returns-in-Sum t c = c.small_lists.ensures ∙ ((λ i. small_lists (plus_or_minus false) (c.numbers_in.ensures i) (c.numbers_in-in-Sum.ensures i))
    ∙ at c.args.lanes.now c.args.term.now (sum c.in-Sum.left.now c.in-Sum.right.now) (sym c.shape_of.ensures ∙ ap shape_behind c.in-Sum.is))

pub returns-in-Difference : goal.returns-in-Difference
returns-in-Difference t c = c.small_lists-in-Difference.ensures ∙ ((λ i. small_lists (plus_or_minus true) (c.numbers_in-in-Difference.ensures i) (c.numbers_in-in-Difference-2.ensures i))
    ∙ at c.args.lanes.now c.args.term.now (difference c.in-Difference.left.now c.in-Difference.right.now) (sym c.shape_of.ensures ∙ ap shape_behind c.in-Difference.is))

pub returns-in-Opposite : goal.returns-in-Opposite
returns-in-Opposite t c = c.scaled_numbers.ensures ∙ (ap (scaled_numbers (Some (negsuc 0))) c.numbers_in-in-Opposite.ensures
    ∙ at c.args.lanes.now c.args.term.now (opposite c.in-Opposite.inner.now) (sym c.shape_of.ensures ∙ ap shape_behind c.in-Opposite.is))

pub returns-in-Multiple : goal.returns-in-Multiple
returns-in-Multiple t c =
    let n : SFits w128 c.in-Multiple.value = search rules in
    let lanes = c.args.lanes.now in
    c.scaled_numbers-in-Multiple.ensures ∙ ((λ i. scaled_numbers ((c.small-in-Multiple.ensures ∙ ap small (to_z-of_z w128 c.in-Multiple.value n)) i) (c.numbers_in-in-Multiple.ensures i))
    ∙ at lanes c.args.term.now (multiple c.in-Multiple.value c.in-Multiple.inner.now) (sym c.shape_of.ensures ∙ ap shape_behind c.in-Multiple.is))

pub returns-in-Atom : goal.returns-in-Atom
returns-in-Atom t c = c.part_numbers-in-Atom.ensures ∙ at c.args.lanes.now c.args.term.now whole (sym c.shape_of.ensures ∙ ap shape_behind c.in-Atom.is)
