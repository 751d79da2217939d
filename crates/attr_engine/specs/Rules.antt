-- What a grammar's three functions give.
use Rattle.std.specs.Prelude.{ℕ, List, map}
use Rattle.std.specs.declared.rc.Rc.{Rc}
use Rattle.std.specs.declared.alloc.Global.{Global}

pub record Rules (Label Need In Out : Type 0) : Type 0 where
  -- what a subtree names, from its label and its children's needs
  pub need : Label → List Need → Need
  -- the inherited attribute of a child, from the node's label and inherited attribute, the child's number and need, and the results of its later siblings
  pub down : Label → In → ℕ → Need → List Out → In
  -- the result of a node, from its label, its inherited attribute and its children's results
  pub up : Label → In → List Out → Out

abbrev pub values : {T : Type 0} → List (Rc T Global) → List T
values rcs = map (λ (rc : Rc _ Global). rc.value) rcs
