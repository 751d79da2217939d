-- Static values lie in the base range.
use Rattle.std.proofs.Common.{◌≡◌, ℕ, ℤ, pos, List, Bool, true, false, ◌&&◌, Option, Some, None, refl, subst}
use Rattle.std.specs.Prelude.{if◌then◌else◌, unwrap_or}
use Rattle.ada_tree.specs.declared.operator.Operator.{Operator}
use Rattle.ada_tree.specs.declared.operator.Operator.TheVariants as op
use Rattle.ada_names.specs.Places.{◌▸◌}
use Rattle.term_core.specs.Operations.{is_zero}
use Rattle.static_values.specs.declared.attribute.Attribute.{Attribute}
use Rattle.static_values.specs.declared.attribute.Attribute.TheVariants as attr
use Rattle.static_values.specs.declared.entity.BaseType.{BaseType}
use Rattle.static_values.specs.declared.entity.BaseType.TheVariants as base
use Rattle.static_values.specs.declared.entity.Named.{Named}
use Rattle.static_values.specs.declared.entity.Named.TheVariants as named
use Rattle.static_values.specs.declared.meaning.Family.{Family}
use Rattle.static_values.specs.declared.meaning.Family.TheVariants as family
use Rattle.static_values.specs.declared.meaning.Meaning.{Meaning}
use Rattle.static_values.specs.Syntax.{Expr, int, name, unary, binary, attribute, applied, component, other}
use Rattle.static_values.specs.Entities.{World}
use Rattle.static_values.specs.Components.{selected_of, selected_meaning}
use Rattle.static_values.specs.Rules.{whole, unknown, overflow, static, static1, static2, computed1, computed2, divides, in_base, meant, base_type, number_of, unary_meaning, binary_by_family, family_of, joined, Bounds, bounds, without, unjudged, bound_meaning, attribute_of, bounds_of, applied_by, taken, position, integer}
use Rattle.static_values.specs.Expressions.{meaning, denoted}

-- its value, where it has one, lies in the base range
abbrev pub Lies : Meaning → Type 0
Lies m = (v : ℤ) → m.value ≡ Some v → in_base v ≡ true

of_static : (b : BaseType) (u : ℤ) → Lies (static b u)
of_static b u = by (in_base u) refl
  where
    by : (t : Bool) → in_base u ≡ t → Lies (static b u)
    by true e v h = let here : Some u ≡ Some v = subst (λ (s : Bool). (if s then record { base = b; value = Some u; overflows = false } else overflow b).value ≡ Some v) e h in subst (λ (o : Option ℤ). in_base (unwrap_or o u) ≡ true) here e
    by false e v h = let here : None ≡ Some v = subst (λ (s : Bool). (if s then record { base = b; value = Some u; overflows = false } else overflow b).value ≡ Some v) e h in cc

of_none : (m : Meaning) → m.value ≡ None → Lies m
of_none m e v h = cc

of_static1 : (o : Operator) (b : BaseType) (a : Option ℤ) → Lies (static1 o b a)
of_static1 o b (Some a) = of_static b (computed1 o a)
of_static1 o b None = of_none (whole b) refl

of_static2 : (o : Operator) (b : BaseType) (x y : Option ℤ) → Lies (static2 o b x y)
of_static2 o b (Some x) (Some y) = by (divides o && is_zero y)
  where
    by : (t : Bool) → Lies (if t then overflow b else static b (computed2 o x y))
    by true = of_none (overflow b) refl
    by false = of_static b (computed2 o x y)
of_static2 o b (Some x) None = of_none (whole b) refl
of_static2 o b None (Some y) = of_none (whole b) refl
of_static2 o b None None = of_none (whole b) refl

of_named : (n : Named) → Lies (meant n)
of_named (named.Static s c v) = of_static (base_type c s.base) v
of_named (named.Number v) = of_static base.Universal v
of_named (named.Object s c) = of_none (whole (base_type c s.base)) refl
of_named (named.Mark s c) = of_none unknown refl
of_named named.Valueless = of_none unknown refl
of_named (named.Part b) = of_none (whole b) refl
of_named named.Unkept = of_none unknown refl

of_unary : (o : Operator) (a : Meaning) → Lies (unary_meaning o a)
of_unary op.Not a = of_none (whole base.Truth) refl
of_unary o a = of_static1 o a.base a.value

of_family : (f : Family) (o : Operator) (a b : Meaning) → Lies (binary_by_family f o a b)
of_family family.Arithmetic o a b = of_static2 o (joined a.base b.base) a.value b.value
of_family family.Logical o a b = of_none (whole base.Truth) refl
of_family family.Equality o a b = of_none (whole base.Truth) refl
of_family family.Order o a b = of_none (whole base.Truth) refl

of_bound : (a : Option Attribute) (b : Bounds) → Lies (bound_meaning a b)
of_bound (Some attr.First) (bounds b low high) = of_static b low
of_bound (Some attr.Last) (bounds b low high) = of_static b high
of_bound (Some attr.First) without = of_none unknown refl
of_bound (Some attr.First) unjudged = of_none unknown refl
of_bound (Some attr.Last) without = of_none unknown refl
of_bound (Some attr.Last) unjudged = of_none unknown refl
of_bound (Some attr.Succ) b = of_none unknown refl
of_bound (Some attr.Pred) b = of_none unknown refl
of_bound (Some attr.Pos) b = of_none unknown refl
of_bound None b = of_none unknown refl

of_position : (v : Option ℤ) → Lies (position v)
of_position (Some v) = of_static integer v
of_position None = of_none (whole integer) refl

of_applied : (a : Option Attribute) (n : Named) (m : Meaning) → Lies (applied_by a n m)
of_applied (Some attr.Pos) n m = of_position m.value
of_applied (Some attr.First) n m = of_none (whole (taken (Some attr.First) n)) refl
of_applied (Some attr.Last) n m = of_none (whole (taken (Some attr.Last) n)) refl
of_applied (Some attr.Succ) n m = of_none (whole (taken (Some attr.Succ) n)) refl
of_applied (Some attr.Pred) n m = of_none (whole (taken (Some attr.Pred) n)) refl
of_applied None n m = of_none (whole (taken None n)) refl

module _ (w : World) where
  pub lies : (path : List ℕ) (e : Expr) → Lies (meaning w path e)
  lies path (int digits) = of_static base.Universal (pos (number_of 0 digits))
  lies path (name parts) = of_named (denoted w path parts)
  lies path (unary o a) = of_unary o (meaning w (path ▸ 0) a)
  lies path (binary o a b) = of_family (family_of o) o (meaning w (path ▸ 0) a) (meaning w (path ▸ 1) b)
  lies path (attribute parts text) = of_bound (attribute_of text) (bounds_of (denoted w (path ▸ 0) parts))
  lies path (applied parts text a) = of_applied (attribute_of text) (denoted w (path ▸ 0 ▸ 0) parts) (meaning w (path ▸ 1 ▸ 0) a)
  lies path (component a text) = of_none (selected_meaning (selected_of w.entities (meaning w (path ▸ 0) a).base text)) refl
  lies path other = of_none unknown refl
