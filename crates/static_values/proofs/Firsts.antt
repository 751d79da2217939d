-- The first of faults, and where there are none.
use Rattle.std.proofs.Common.{◌≡◌, List, [], ◌∷◌, Some, refl}
use Rattle.base_kit.specs.declared.fault.Fault.{Fault}
use Rattle.static_values.specs.Judging.{first, ◌⊕◌}

pub first_stays : (xs ys : List Fault) (f : Fault) → first xs ≡ Some f → first (xs ⊕ ys) ≡ Some f
first_stays [] ys f h = cc
first_stays (x ∷ xs) ys f h = h

pub first_after : (xs ys : List Fault) → xs ≡ [] → first (xs ⊕ ys) ≡ first ys
first_after xs ys h = rw h refl

pub none_before : (xs ys : List Fault) → xs ⊕ ys ≡ [] → xs ≡ []
none_before [] ys h = refl
none_before (x ∷ xs) ys h = cc

pub none_behind : (xs ys : List Fault) → xs ⊕ ys ≡ [] → ys ≡ []
none_behind [] ys h = h
none_behind (x ∷ xs) ys h = cc
