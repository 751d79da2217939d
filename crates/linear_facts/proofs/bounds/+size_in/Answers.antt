use Rattle.std.proofs.Common.{◌≡◌, ◌+◌, ◌*◌, ap, sym, ◌∙◌, rules}
use Rattle.std.specs.Prelude.{unsigned_abs}
use Rattle.std.proofs.lemmas.Int.{to_z-of_z}
use mir.Syntax.{w128}
use mir.Val.{SFits}
use Rattle.term_core.specs.declared.term.Term.{Term}
use Rattle.linear_facts.specs.Forms.{Shape, literal, sum, difference, opposite, multiple, whole, shape_of, within_shape}
use Rattle.linear_facts.specs.Views.{shape_behind}
use Rattle.linear_facts.specs.Numbers.{small_size, size_of_two, size_by, size_at}
use Rattle.linear_facts.proofs.ShapeLaws.{over_at}
use Rattle.linear_facts.proofs.bounds.+size_in.Goals as goal

at : (t : Term) (s : Shape Term) → shape_of t ≡ s → size_by t (within_shape size_at s) ≡ size_at t
at t s e = sym (over_at size_by t s e)

pub returns-in-Literal : goal.returns-in-Literal
returns-in-Literal t c =
    let n : SFits w128 c.in-Literal.value = search rules in
    c.literal_size.ensures ∙ (ap (λ z. small_size (unsigned_abs z)) (to_z-of_z w128 c.in-Literal.value n)
    ∙ at c.args.term.now (literal c.in-Literal.value) (sym c.shape_of.ensures ∙ ap shape_behind c.in-Literal.is))

pub returns-in-Sum : goal.returns-in-Sum
returns-in-Sum t c = c.size_sum.ensures ∙ ((λ i. size_of_two ◌+◌ (c.size_in.ensures i) (c.size_in-in-Sum.ensures i))
    ∙ at c.args.term.now (sum c.in-Sum.left.now c.in-Sum.right.now) (sym c.shape_of.ensures ∙ ap shape_behind c.in-Sum.is))

pub returns-in-Difference : goal.returns-in-Difference
returns-in-Difference t c = c.size_sum-in-Difference.ensures ∙ ((λ i. size_of_two ◌+◌ (c.size_in-in-Difference.ensures i) (c.size_in-in-Difference-2.ensures i))
    ∙ at c.args.term.now (difference c.in-Difference.left.now c.in-Difference.right.now) (sym c.shape_of.ensures ∙ ap shape_behind c.in-Difference.is))

pub returns-in-Opposite : goal.returns-in-Opposite
returns-in-Opposite t c = c.size_in-in-Opposite.ensures
    ∙ at c.args.term.now (opposite c.in-Opposite.inner.now) (sym c.shape_of.ensures ∙ ap shape_behind c.in-Opposite.is)

pub returns-in-Multiple : goal.returns-in-Multiple
returns-in-Multiple t c =
    let n : SFits w128 c.in-Multiple.value = search rules in
    c.size_product.ensures ∙ ((λ i. size_of_two ◌*◌ (c.literal_size-in-Multiple.ensures i) (c.size_in-in-Multiple.ensures i))
    ∙ (ap (λ z. size_of_two ◌*◌ (small_size (unsigned_abs z)) (size_at c.in-Multiple.inner.now)) (to_z-of_z w128 c.in-Multiple.value n)
    ∙ at c.args.term.now (multiple c.in-Multiple.value c.in-Multiple.inner.now) (sym c.shape_of.ensures ∙ ap shape_behind c.in-Multiple.is)))

pub returns-in-Atom : goal.returns-in-Atom
returns-in-Atom t c = at c.args.term.now whole (sym c.shape_of.ensures ∙ ap shape_behind c.in-Atom.is)
