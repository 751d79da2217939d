-- A call that answers exactly, want of memory apart.
use Rattle.std.specs.Prelude.{Result, Ok, Err, IfOk, IfErr}
use Rattle.base_kit.specs.declared.fault.Fault.{Fault as AFault}
use Rattle.base_kit.specs.declared.fault.Stop.{Stop}
use Rattle.lex_ada.specs.Faults.{Gives}
use Rattle.text_read.specs.Faults.{OnFault}

-- a value exactly where it is right, and a fault exactly where there is one
pub record Exactly {A : Type 0} (IsRight : A → Type 0) (IsFault : AFault → Type 0) (result : Result A Stop) : Type 0 where
  pub value : IfOk result IsRight
  pub fault : IfErr result (OnFault IsFault)
  pub only : (value : A) → IsRight value → Gives result (Ok value)
  pub only_fault : (fault : AFault) → IsFault fault → Gives result (Err fault)
