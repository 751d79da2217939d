-- Answers and what holds of their values.
use Rattle.std.proofs.Common.{◌≡◌, ◌∙◌, Result, Ok, Err, IfOk, OnOk}

pub if_ok_is : {T E : Type 0} (r : Result T E) (x y : T) → x ≡ y → IfOk r (λ v. v ≡ x) → IfOk r (λ v. v ≡ y)
if_ok_is (Ok v) x y e h = h ∙ e
if_ok_is (Err v) x y e h = h

pub if_ok_from : {T E : Type 0} (P Q : T → Type 0) (r : Result T E) → ((v : T) → P v → Q v) → IfOk r P → IfOk r Q
if_ok_from P Q (Ok v) f h = f v h
if_ok_from P Q (Err v) f h = h

pub if_ok_also : {T E : Type 0} (P Q : T → Type 0) (R : Type 0) (r : Result T E) → ((v : T) → P v → R → Q v) → IfOk r P → OnOk r R → IfOk r Q
if_ok_also P Q R (Ok v) f h k = f v h k
if_ok_also P Q R (Err v) f h k = h
