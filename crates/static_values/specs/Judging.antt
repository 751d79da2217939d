-- Faults in the order in which they are asked, and what a call answers to them.
use Rattle.std.specs.Prelude.{◌≡◌, ℕ, List, [], ◌∷◌, Bool, if◌then◌else◌, Option, Some, None, Result, Ok, Err}
use Rattle.base_kit.specs.declared.fault.Code.{Code}
use Rattle.base_kit.specs.declared.fault.Fault.{Fault}
use Rattle.base_kit.specs.declared.fault.Stop.{Stop}
use Rattle.base_kit.specs.declared.fault.Stop.TheVariants as stop
use Rattle.ada_tree.specs.Sights.{fault}

-- what is asked at a node: conditions, each with the code of the fault that it is
abbrev pub Rows : Type 0
Rows = List (Code × Bool)

-- The rows of a node stand by rising codes; each condition that holds is a fault there.
abbrev pub asks : List ℕ → Rows → List Fault
asks path [] = []
asks path (row ∷ rows) = if row.1 then fault row.0 path ∷ asks path rows else asks path rows

infixr 5 ◌⊕◌
-- the faults of one part, and then those of the next
abbrev pub ◌⊕◌ : List Fault → List Fault → List Fault
[] ⊕ ys = ys
(x ∷ xs) ⊕ ys = x ∷ (xs ⊕ ys)

abbrev pub first : List Fault → Option Fault
first [] = None
first (f ∷ fs) = Some f

-- The answer where these are the faults, and this is the value if there are none: the value exactly where there are none, else the first fault. Want of memory is free.
abbrev pub Gives : {A : Type 0} → List Fault → A → Result A Stop → Type 0
Gives faults value (Ok given) = (faults ≡ []) × (given ≡ value)
Gives faults value (Err (stop.Fault f)) = first faults ≡ Some f
Gives faults value (Err stop.Memory) = Unit {0}

-- The same where the value is the new state of something.
abbrev pub Leads : {A B : Type 0} → List Fault → A → A → Result B Stop → Type 0
Leads faults after new (Ok given) = (faults ≡ []) × (new ≡ after)
Leads faults after new (Err (stop.Fault f)) = first faults ≡ Some f
Leads faults after new (Err stop.Memory) = Unit {0}
