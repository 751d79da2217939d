-- The types of expressions, one line for each form, in the subject's own terms: nothing here asks what the code finds.
use Rattle.std.specs.Prelude.{◌≡◌, ◌↔◌, ℕ, List, Bool, true, false, not, ◌&&◌, Option, Some}
use Rattle.ada_tree.specs.declared.operator.Operator.{Operator}
use Rattle.ada_tree.specs.declared.operator.Operator.TheVariants as op
use Rattle.ada_names.specs.Places.{◌▸◌}
use Rattle.static_values.specs.declared.attribute.Attribute.{Attribute}
use Rattle.static_values.specs.declared.attribute.Attribute.TheVariants as attr
use Rattle.static_values.specs.declared.entity.BaseType.{BaseType}
use Rattle.static_values.specs.declared.entity.BaseType.TheVariants as base
use Rattle.static_values.specs.declared.entity.Named.{Named}
use Rattle.static_values.specs.declared.entity.Named.TheVariants as named
use Rattle.static_values.specs.declared.meaning.Family.{Family}
use Rattle.static_values.specs.declared.meaning.Family.TheVariants as family
use Rattle.static_values.specs.Syntax.{Expr, int, name, unary, binary, attribute, applied, component, other}
use Rattle.static_values.specs.Entities.{Declared, World}
use Rattle.static_values.specs.Components.{selected_of, selected_type}
use Rattle.static_values.specs.Rules.{base_type, family_of, Bounds, bounds, bounds_of, attribute_of, integer}
use Rattle.static_values.specs.Expressions.{denoted}

-- a type that can be declared
abbrev pub is_declared : BaseType → Bool
is_declared base.Universal = false
is_declared base.Unjudged = false
is_declared _ = true

-- an integer type
abbrev pub is_number : BaseType → Bool
is_number (base.Integer id) = true
is_number _ = false

-- an integer or enumeration type other than BOOLEAN
abbrev pub is_scalar : BaseType → Bool
is_scalar (base.Integer id) = true
is_scalar (base.Enumeration id) = true
is_scalar _ = false

abbrev pub is_not : Operator → Bool
is_not op.Not = true
is_not _ = false

abbrev pub is_arithmetic : Family → Bool
is_arithmetic family.Arithmetic = true
is_arithmetic _ = false

-- ---- one line for each form, given the types of its parts

-- the type t is this one
abbrev pub Is : BaseType → BaseType → Type 0
Is b t = (is_declared b ≡ true) × (t ≡ b)

-- a number has every integer type, an object its own
abbrev pub named_typed : Named → BaseType → Type 0
named_typed (named.Object s c) t = Is (base_type c s.base) t
named_typed (named.Static s c v) t = Is (base_type c s.base) t
named_typed (named.Number v) t = is_number t ≡ true
named_typed (named.Part b) t = Is b t
named_typed _ t = ⊥

abbrev pub unary_typed : Operator → (BaseType → Type 0) → BaseType → Type 0
unary_typed op.Not A t = Is base.Truth t × A base.Truth
unary_typed o A t = (is_number t ≡ true) × A t

-- both have a type of this sort
abbrev pub Common : (BaseType → Bool) → (BaseType → Type 0) → (BaseType → Type 0) → Type 0
Common is A B = (u : BaseType) × ((is u ≡ true) × (A u × B u))

abbrev pub binary_typed : Family → (BaseType → Type 0) → (BaseType → Type 0) → BaseType → Type 0
binary_typed family.Logical A B t = Is base.Truth t × (A base.Truth × B base.Truth)
binary_typed family.Equality A B t = Is base.Truth t × Common is_declared A B
binary_typed family.Order A B t = Is base.Truth t × Common is_scalar A B
binary_typed family.Arithmetic A B t = (is_number t ≡ true) × (A t × B t)

-- a bound of a range has the range's type
abbrev pub bound_typed : Bounds → BaseType → Type 0
bound_typed (bounds b low high) t = Is b t
bound_typed _ t = ⊥

abbrev pub attribute_typed : Option Attribute → Bounds → BaseType → Type 0
attribute_typed (Some attr.First) b t = bound_typed b t
attribute_typed (Some attr.Last) b t = bound_typed b t
attribute_typed _ b t = ⊥

-- T'POS(E) is of INTEGER, T'SUCC(E) and T'PRED(E) are of T, and E is of T
abbrev pub argument_typed : Option Attribute → BaseType → (BaseType → Type 0) → BaseType → Type 0
argument_typed (Some attr.Pos) b A t = Is integer t × A b
argument_typed (Some attr.Succ) b A t = Is b t × A b
argument_typed (Some attr.Pred) b A t = Is b t × A b
argument_typed _ b A t = ⊥

abbrev pub applied_typed : Option Attribute → Named → (BaseType → Type 0) → BaseType → Type 0
applied_typed a (named.Mark s c) A t = (is_scalar (base_type c s.base) ≡ true) × argument_typed a (base_type c s.base) A t
applied_typed a _ A t = ⊥

-- a component has the type that its record gives it
abbrev pub component_typed : Declared → (BaseType → Type 0) → List ℕ → BaseType → Type 0
component_typed es A text t = (u : BaseType) × (A u × Is (selected_type (selected_of es u text)) t)

abbrev pub is_number_name : Named → Bool
is_number_name (named.Number v) = true
is_number_name _ = false

module _ (w : World) where
  -- Typed(place, expr, T)
  abbrev pub Typed : List ℕ → Expr → BaseType → Type 0
  Typed path (int digits) t = is_number t ≡ true
  Typed path (name parts) t = named_typed (denoted w path parts) t
  Typed path (unary o a) t = unary_typed o (Typed (path ▸ 0) a) t
  Typed path (binary o a b) t = binary_typed (family_of o) (Typed (path ▸ 0) a) (Typed (path ▸ 1) b) t
  Typed path (attribute parts text) t = attribute_typed (attribute_of text) (bounds_of (denoted w (path ▸ 0) parts)) t
  Typed path (applied parts text a) t = applied_typed (attribute_of text) (denoted w (path ▸ 0 ▸ 0) parts) (Typed (path ▸ 1 ▸ 0) a) t
  Typed path (component a text) t = component_typed w.entities (Typed (path ▸ 0) a) text t
  Typed path other t = ⊥

  -- a literal, a number, or an operator on integers over such
  abbrev pub is_literal : List ℕ → Expr → Bool
  is_literal path (int digits) = true
  is_literal path (name parts) = is_number_name (denoted w path parts)
  is_literal path (unary o a) = not (is_not o) && is_literal (path ▸ 0) a
  is_literal path (binary o a b) = is_arithmetic (family_of o) && (is_literal (path ▸ 0) a && is_literal (path ▸ 1) b)
  is_literal path (attribute parts text) = false
  is_literal path (applied parts text a) = false
  is_literal path (component a text) = false
  is_literal path other = false

  -- it has the integer types, and no other
  abbrev pub HasEveryIntegerType : List ℕ → Expr → Type 0
  HasEveryIntegerType path e = (t : BaseType) → Typed path e t ↔ (is_number t ≡ true)

  abbrev pub HasOneTypeAtMost : List ℕ → Expr → Type 0
  HasOneTypeAtMost path e = (t u : BaseType) → Typed path e t → Typed path e u → t ≡ u
