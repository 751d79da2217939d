-- The type that a meaning has.
use Rattle.std.proofs.Common.{◌≡◌, ℕ, ℤ, pos, List, Bool, true, false, ◌&&◌, Option, Some, None, refl}
use Rattle.std.specs.Prelude.{if◌then◌else◌}
use Rattle.ada_tree.specs.declared.operator.Operator.{Operator}
use Rattle.ada_tree.specs.declared.operator.Operator.TheVariants as op
use Rattle.term_core.specs.Operations.{is_zero}
use Rattle.static_values.specs.declared.entity.BaseType.{BaseType}
use Rattle.static_values.specs.declared.entity.BaseType.TheVariants as base
use Rattle.static_values.specs.declared.meaning.Meaning.{Meaning}
use Rattle.static_values.specs.Rules.{number_of, literal, overflow, static, static1, static2, computed1, computed2, divides, in_base, position, integer, unary_meaning}
use Rattle.type_laws.specs.Typed.{is_not}

pub static_base : (b : BaseType) (v : ℤ) → (static b v).base ≡ b
static_base b v = by (in_base v) refl
  where
    by : (t : Bool) → in_base v ≡ t → (static b v).base ≡ b
    by true h = rw h refl
    by false h = rw h refl

static1_base : (o : Operator) (b : BaseType) (v : Option ℤ) → (static1 o b v).base ≡ b
static1_base o b (Some v) = static_base b (computed1 o v)
static1_base o b None = refl

pub static2_base : (o : Operator) (b : BaseType) (x y : Option ℤ) → (static2 o b x y).base ≡ b
static2_base o b (Some x) (Some y) = by (divides o && is_zero y)
  where
    by : (t : Bool) → (if t then overflow b else static b (computed2 o x y)).base ≡ b
    by true = refl
    by false = static_base b (computed2 o x y)
static2_base o b (Some x) None = refl
static2_base o b None (Some y) = refl
static2_base o b None None = refl

pub sign_base : (o : Operator) (a : Meaning) → is_not o ≡ false → (unary_meaning o a).base ≡ a.base
sign_base op.Not a h = cc
sign_base o a h = static1_base o a.base a.value

pub position_base : (v : Option ℤ) → (position v).base ≡ integer
position_base (Some v) = static_base integer v
position_base None = refl

pub literal_base : (digits : List ℕ) → (literal digits).base ≡ base.Universal
literal_base digits = static_base base.Universal (pos (number_of 0 digits))
