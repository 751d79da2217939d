-- The conditions, as a test and as a record.
use Rattle.std.proofs.Common.{◌≡◌, ℕ, ◌≤◌, Bool, true, false, not, ◌&&◌, refl, sym, arith, ap, subst, Option, Some, None, ◌↔◌}
use Rattle.std.specs.Prelude.{nat_le, if◌then◌else◌}
use Rattle.std.proofs.lemmas.Bool.Decides.{nat_tests}
use Rattle.one_path.specs.declared.procedure.Procedure.{Procedure}
use Rattle.one_path.specs.Conditions.{Meets, meets}
use Rattle.one_path.specs.Form.{kept}

-- both parts of a test that passes
both : (a b : Bool) → (a && b) ≡ true → (a ≡ true) × (b ≡ true)
both true b e = (refl, e)
both false b e = cc

-- an order, as a test and as a fact
le_of : (m n : ℕ) → nat_le m n ≡ true → m ≤ n
le_of m n e = grind (arith, nat_tests)

le_passes : (m n : ℕ) → m ≤ n → nat_le m n ≡ true
le_passes m n e = grind (arith, nat_tests)

-- a test that fails
false_of : (a : Bool) → not a ≡ true → a ≡ false
false_of true e = cc
false_of false e = refl

-- a test of seven parts passes where each of them does
seven : (a b c d e f g : Bool) → a ≡ true → b ≡ true → c ≡ true → d ≡ true → e ≡ false → f ≡ true → g ≡ true → (a && b && c && d && not e && f && g) ≡ true
seven a b c d e f g p q r s t u v = rw (p, q, r, s, t, u, v)

-- a unit that passes the test meets the conditions
pub met : (unit : Procedure) → meets unit ≡ true → Meets unit
met unit e =
    let six = both _ _ e in
    let five = both _ _ six.0 in
    let four = both _ _ five.0 in
    let three = both _ _ four.0 in
    let two = both _ _ three.0 in
    let one = both _ _ two.0 in
    record {
      few_formals = le_of _ _ one.0;
      few_clauses = le_of _ _ one.1;
      few_statements = le_of _ _ two.1;
      distinct = three.1;
      not_integer = false_of _ four.1;
      clauses_known = five.1;
      statements_known = six.1;
    }

-- and one that meets them passes it
pub meets_passes : (unit : Procedure) → Meets unit → meets unit ≡ true
meets_passes unit m = seven _ _ _ _ _ _ _ (le_passes _ _ m.few_formals) (le_passes _ _ m.few_clauses) (le_passes _ _ m.few_statements) m.distinct m.not_integer m.clauses_known m.statements_known

kept_by : (unit other : Procedure) (passes : Bool) → meets unit ≡ passes → (if passes then Some unit else None) ≡ Some other → (unit ≡ other) × Meets other
kept_by unit other true m e = let same : unit ≡ other = cc in (same, subst Meets same (met unit m))
kept_by unit other false m e = cc

kept_from : (read : Option Procedure) (unit : Procedure) → kept read ≡ Some unit → (read ≡ Some unit) × Meets unit
kept_from None unit e = cc
kept_from (Some taken) unit e = let both_facts = kept_by taken unit (meets taken) refl e in (ap Some both_facts.0, both_facts.1)

kept_to : (read : Option Procedure) (unit : Procedure) → (read ≡ Some unit) × Meets unit → kept read ≡ Some unit
kept_to read unit h = subst (λ taken. kept taken ≡ Some unit) (sym h.0) (let passes : meets unit ≡ true = meets_passes unit h.1 in rw passes refl)

-- what is kept is what meets the conditions
pub kept_exactly : (read : Option Procedure) (unit : Procedure) → (kept read ≡ Some unit) ↔ ((read ≡ Some unit) × Meets unit)
kept_exactly read unit = (kept_from read unit, kept_to read unit)
