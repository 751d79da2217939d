use Rattle.std.proofs.Common.{◌≡◌, drop, ◌&&◌}
use Rattle.std.specs.List.{list_all}
use Rattle.linear_facts.specs.Closing.{weights_from, weights}
use Rattle.linear_facts.specs.Asked.{all_right, all_atoms, is_atom_right}
use Rattle.linear_facts.proofs.closing.are_atoms_right.Given as goal

-- the window's atoms and those that are left, against all
abbrev pub invariant-loop-i : goal.invariant-loop-i
invariant-loop-i l = (all_right l.sequent l.coeffs l.window.items && list_all (is_atom_right (weights l.sequent l.coeffs)) (all_atoms (weights_from l.sequent l.i (drop l.i l.coeffs))))
    ≡ list_all (is_atom_right (weights l.sequent l.coeffs)) (all_atoms (weights l.sequent l.coeffs))
