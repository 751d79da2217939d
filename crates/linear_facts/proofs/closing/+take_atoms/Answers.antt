use Rattle.std.proofs.Common.{◌&&◌, sym, ap, ◌∙◌}
use Rattle.std.specs.List.{list_all}
use Rattle.linear_facts.specs.Closing.{weights}
use Rattle.linear_facts.specs.Forms.{literal, opposite, multiple, whole}
use Rattle.linear_facts.specs.Views.{shape_behind}
use Rattle.linear_facts.specs.Asked.{all_right, is_atom_right, atoms_of}
use Rattle.linear_facts.proofs.WindowLaws.{both_taken, first_failed, atoms_at, all_in_sum, all_in_difference, and_true}
use Rattle.linear_facts.proofs.closing.+take_atoms.Goals as goal

pub returns-in-Literal : goal.returns-in-Literal
returns-in-Literal t c =
    let window = all_right c.args.sequent.now c.args.coeffs.now c.args.window.now.items in
    let right = is_atom_right (weights c.args.sequent.now c.args.coeffs.now) in
    and_true window ∙ ap (λ ps. window && list_all right ps) (sym (atoms_at c.args.term.now (literal c.in-Literal.field-0) (sym c.shape_of.ensures ∙ ap shape_behind c.in-Literal.is)))

pub returns-then-take_atoms : goal.returns-then-take_atoms
returns-then-take_atoms t c =
    let right = is_atom_right (weights c.args.sequent.now c.args.coeffs.now) in
    let window = all_right c.args.sequent.now c.args.coeffs.now in
    both_taken c.take_atoms.result c.take_atoms-then-take_atoms.result (window c.args.window.now.items) (window c.take_atoms.new.window.items) (window c.take_atoms-then-take_atoms.new.window.items)
    (list_all right (atoms_of c.in-Sum.left.now)) (list_all right (atoms_of c.in-Sum.right.now)) c.take_atoms.ensures c.if-take_atoms.true c.take_atoms-then-take_atoms.ensures
    ∙ ap (λ b. window c.args.window.now.items && b) (sym (all_in_sum right c.args.term.now c.in-Sum.left.now c.in-Sum.right.now (sym c.shape_of.ensures ∙ ap shape_behind c.in-Sum.is)))

pub returns-else-take_atoms : goal.returns-else-take_atoms
returns-else-take_atoms t c =
    let right = is_atom_right (weights c.args.sequent.now c.args.coeffs.now) in
    let window = all_right c.args.sequent.now c.args.coeffs.now in
    first_failed c.take_atoms.result (window c.args.window.now.items) (window c.take_atoms.new.window.items)
    (list_all right (atoms_of c.in-Sum.left.now)) (list_all right (atoms_of c.in-Sum.right.now)) c.take_atoms.ensures c.if-take_atoms.false
    ∙ ap (λ b. window c.args.window.now.items && b) (sym (all_in_sum right c.args.term.now c.in-Sum.left.now c.in-Sum.right.now (sym c.shape_of.ensures ∙ ap shape_behind c.in-Sum.is)))

pub returns-then-take_atoms-2 : goal.returns-then-take_atoms-2
returns-then-take_atoms-2 t c =
    let right = is_atom_right (weights c.args.sequent.now c.args.coeffs.now) in
    let window = all_right c.args.sequent.now c.args.coeffs.now in
    both_taken c.take_atoms-in-Difference.result c.take_atoms-then-take_atoms-2.result (window c.args.window.now.items) (window c.take_atoms-in-Difference.new.window.items) (window c.take_atoms-then-take_atoms-2.new.window.items)
    (list_all right (atoms_of c.in-Difference.left.now)) (list_all right (atoms_of c.in-Difference.right.now)) c.take_atoms-in-Difference.ensures c.if-take_atoms-2.true c.take_atoms-then-take_atoms-2.ensures
    ∙ ap (λ b. window c.args.window.now.items && b) (sym (all_in_difference right c.args.term.now c.in-Difference.left.now c.in-Difference.right.now (sym c.shape_of.ensures ∙ ap shape_behind c.in-Difference.is)))

pub returns-else-take_atoms-2 : goal.returns-else-take_atoms-2
returns-else-take_atoms-2 t c =
    let right = is_atom_right (weights c.args.sequent.now c.args.coeffs.now) in
    let window = all_right c.args.sequent.now c.args.coeffs.now in
    first_failed c.take_atoms-in-Difference.result (window c.args.window.now.items) (window c.take_atoms-in-Difference.new.window.items)
    (list_all right (atoms_of c.in-Difference.left.now)) (list_all right (atoms_of c.in-Difference.right.now)) c.take_atoms-in-Difference.ensures c.if-take_atoms-2.false
    ∙ ap (λ b. window c.args.window.now.items && b) (sym (all_in_difference right c.args.term.now c.in-Difference.left.now c.in-Difference.right.now (sym c.shape_of.ensures ∙ ap shape_behind c.in-Difference.is)))

pub returns-in-Opposite : goal.returns-in-Opposite
returns-in-Opposite t c =
    let right = is_atom_right (weights c.args.sequent.now c.args.coeffs.now) in
    c.take_atoms-in-Opposite.ensures ∙ ap (λ ps. all_right c.args.sequent.now c.args.coeffs.now c.args.window.now.items && list_all right ps)
    (sym (atoms_at c.args.term.now (opposite c.in-Opposite.inner.now) (sym c.shape_of.ensures ∙ ap shape_behind c.in-Opposite.is)))

pub returns-in-Multiple : goal.returns-in-Multiple
returns-in-Multiple t c =
    let right = is_atom_right (weights c.args.sequent.now c.args.coeffs.now) in
    c.take_atoms-in-Multiple.ensures ∙ ap (λ ps. all_right c.args.sequent.now c.args.coeffs.now c.args.window.now.items && list_all right ps)
    (sym (atoms_at c.args.term.now (multiple c.in-Multiple.field-0 c.in-Multiple.inner.now) (sym c.shape_of.ensures ∙ ap shape_behind c.in-Multiple.is)))

pub returns-in-Atom : goal.returns-in-Atom
returns-in-Atom t c =
    let right = is_atom_right (weights c.args.sequent.now c.args.coeffs.now) in
    let window = all_right c.args.sequent.now c.args.coeffs.now c.args.window.now.items in
    c.take.ensures ∙ (ap (λ b. window && b) (and_true (right c.args.term.now))
    ∙ ap (λ ps. window && list_all right ps) (sym (atoms_at c.args.term.now whole (sym c.shape_of.ensures ∙ ap shape_behind c.in-Atom.is))))
