-- Whoever answers right and only right, where there is one answer, answers exactly.
use Rattle.std.proofs.Common.{◌≡◌, ap, Ok, Err}
use Rattle.std.specs.Prelude.{Result, IfOk, IfErr}
use Rattle.base_kit.specs.declared.fault.Fault.{Fault as AFault}
use Rattle.base_kit.specs.declared.fault.Stop.{Stop}
use Rattle.base_kit.specs.declared.fault.Stop.TheVariants.{Fault, Memory}
use Rattle.text_read.specs.Exactly.{Exactly}
use Rattle.text_read.specs.Faults.{OnFault}

module _ {A : Type 0} (IsRight : A → Type 0) (IsFault : AFault → Type 0) (right_once : (x y : A) → IsRight x → IsRight y → x ≡ y) (fault_once : (f g : AFault) → IsFault f → IsFault g → f ≡ g)
    (one_of : (x : A) (f : AFault) → IsRight x → IsFault f → ⊥) where
  pub exactly : (result : Result A Stop) → IfOk result IsRight → IfErr result (OnFault IsFault) → Exactly IsRight IsFault result
  exactly (Ok x) right fault = record {
    value = right;
    fault = fault;
    only = λ y h. ap Ok (right_once y x h right);
    only_fault = λ f h. absurd (one_of x f right h);
  }
  exactly (Err (Fault f)) right fault = record {
    value = right;
    fault = fault;
    only = λ y h. absurd (one_of y f h fault);
    only_fault = λ g h. ap Err (fault_once g f h fault);
  }
  exactly (Err Memory) right fault = record { value = right; fault = fault; only = λ y h. tt; only_fault = λ g h. tt }
