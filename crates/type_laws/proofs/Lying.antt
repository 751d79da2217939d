-- A static value lies in the range of its type.
use Rattle.std.proofs.Common.{◌≡◌, ℕ, ℤ, pos, List, [], ◌∷◌, Bool, true, false, not, ◌&&◌, Option, Some, None, refl, sym, subst}
use Rattle.std.specs.Prelude.{if◌then◌else◌, unwrap_or}
use Rattle.std.proofs.lemmas.Bool.{false≢true, and_parts, not-false}
use Rattle.base_kit.specs.declared.fault.Code.TheVariants as code
use Rattle.ada_tree.specs.declared.operator.Operator.{Operator}
use Rattle.ada_tree.specs.declared.operator.Operator.TheVariants as op
use Rattle.ada_tree.specs.Sights.{Sight, declared, nothing, two}
use Rattle.ada_names.specs.Places.{◌▸◌}
use Rattle.term_core.specs.Operations.{is_zero}
use Rattle.static_values.specs.declared.attribute.Attribute.{Attribute}
use Rattle.static_values.specs.declared.attribute.Attribute.TheVariants as attr
use Rattle.static_values.specs.declared.entity.BaseType.{BaseType}
use Rattle.static_values.specs.declared.entity.BaseType.TheVariants as base
use Rattle.static_values.specs.declared.entity.Named.{Named}
use Rattle.static_values.specs.declared.entity.Named.TheVariants as named
use Rattle.static_values.specs.declared.meaning.Family.{Family}
use Rattle.static_values.specs.declared.meaning.Family.TheVariants as family
use Rattle.static_values.specs.declared.meaning.Meaning.{Meaning}
use Rattle.static_values.specs.declared.meaning.Use.{Use}
use Rattle.static_values.specs.declared.meaning.Use.TheVariants as use_of
use Rattle.static_values.specs.Judging.{◌⊕◌}
use Rattle.static_values.specs.Syntax.{Parts, Expr, int, name, unary, binary, attribute, applied, component, other}
use Rattle.static_values.specs.Entities.{Declared, World, stands_for}
use Rattle.static_values.specs.Rules.{agree, joined, is_universal, is_integer, takes1, takes2, base_type, family_of, Bounds, bounds, without, unjudged, bounds_of, attribute_of, integer, whole, unknown, overflow, static, static1, static2, computed1, computed2, divides, in_base, meant, unary_meaning, binary_by_family, bound_meaning, applied_by, taken, position, number_of, use_rows}
use Rattle.static_values.specs.Expressions.{meaning, denoted, stands, part, shown_after, is_unkept, faults, at_node}
use Rattle.static_values.proofs.Firsts.{none_before, none_behind}
use Rattle.type_laws.specs.Ranges.{lies_in_type, NameLies, BoundsLie, AllLie}
use Rattle.type_laws.proofs.Meant.{no_fault}

module _ (es : Declared) where
  -- its value, where it has one, lies in the range of its type
  abbrev pub Lies : Meaning → Type 0
  Lies m = (v : ℤ) → m.value ≡ Some v → lies_in_type es m.base v ≡ true

  of_none : (m : Meaning) → m.value ≡ None → Lies m
  of_none m e v h = cc

  of_static : (b : BaseType) (u : ℤ) → (in_base u ≡ true → lies_in_type es b u ≡ true) → Lies (static b u)
  of_static b u f = by (in_base u) refl
    where
      by : (t : Bool) → in_base u ≡ t → Lies (static b u)
      by true e = subst (λ (t : Bool). Lies (if t then record { base = b; value = Some u; overflows = false } else overflow b)) (sym e)
          (λ v h. subst (λ (o : Option ℤ). lies_in_type es b (unwrap_or o u) ≡ true) h (f e))
      by false e = subst (λ (t : Bool). Lies (if t then record { base = b; value = Some u; overflows = false } else overflow b)) (sym e) (of_none (overflow b) refl)

  -- a number in INTEGER's range, of the integer type of another value
  integer_lies : (b : BaseType) (x y : ℤ) → is_integer b ≡ true → lies_in_type es b x ≡ true → in_base y ≡ true → lies_in_type es b y ≡ true
  integer_lies base.Universal x y i h k = k
  integer_lies (base.Integer n) x y i h k = k
  integer_lies (base.Enumeration n) x y i h k = absurd (false≢true i)
  integer_lies (base.Composite n) x y i h k = absurd (false≢true i)
  integer_lies base.Truth x y i h k = absurd (false≢true i)
  integer_lies base.Unjudged x y i h k = absurd (false≢true h)

  -- what is said of a value
  abbrev Valued : BaseType → Option ℤ → Type 0
  Valued b o = (v : ℤ) → o ≡ Some v → lies_in_type es b v ≡ true

  of_static1 : (o : Operator) (b : BaseType) (x : Option ℤ) → is_integer b ≡ true → Valued b x → Lies (static1 o b x)
  of_static1 o b (Some x) i f = of_static b (computed1 o x) (λ h. integer_lies b x (computed1 o x) i (f x refl) h)
  of_static1 o b None i f = of_none (whole b) refl

  of_unary : (o : Operator) (a : Meaning) → takes1 o a.base ≡ true → Lies a → Lies (unary_meaning o a)
  of_unary op.Not a h f = of_none (whole base.Truth) refl
  of_unary o a h f = of_static1 o a.base a.value h f

  of_joined : (a b : BaseType) (x y z : ℤ) → is_integer a ≡ true → is_integer b ≡ true → lies_in_type es a x ≡ true → lies_in_type es b y ≡ true → in_base z ≡ true → lies_in_type es (joined a b) z ≡ true
  of_joined a b x y z i j f g h = by (is_universal a)
    where
      by : (t : Bool) → lies_in_type es (if t then b else a) z ≡ true
      by true = integer_lies b y z j g h
      by false = integer_lies a x z i f h

  of_static2 : (o : Operator) (a b : BaseType) (x y : Option ℤ) → is_integer a ≡ true → is_integer b ≡ true → Valued a x → Valued b y → Lies (static2 o (joined a b) x y)
  of_static2 o a b (Some x) (Some y) i j f g = by (divides o && is_zero y)
    where
      by : (t : Bool) → Lies (if t then overflow (joined a b) else static (joined a b) (computed2 o x y))
      by true = of_none (overflow (joined a b)) refl
      by false = of_static (joined a b) (computed2 o x y) (λ h. of_joined a b x y (computed2 o x y) i j (f x refl) (g y refl) h)
  of_static2 o a b (Some x) None i j f g = of_none (whole (joined a b)) refl
  of_static2 o a b None (Some y) i j f g = of_none (whole (joined a b)) refl
  of_static2 o a b None None i j f g = of_none (whole (joined a b)) refl

  of_binary : (f : Family) (o : Operator) (a b : Meaning) → takes2 f a.base b.base ≡ true → Lies a → Lies b → Lies (binary_by_family f o a b)
  of_binary family.Arithmetic o a b h f g =
      let p : ((agree a.base b.base && is_integer a.base) ≡ true) × (is_integer b.base ≡ true) = and_parts (agree a.base b.base && is_integer a.base) (is_integer b.base) h in
      of_static2 o a.base b.base a.value b.value (and_parts (agree a.base b.base) (is_integer a.base) p.0).1 p.1 f g
  of_binary family.Logical o a b h f g = of_none (whole base.Truth) refl
  of_binary family.Equality o a b h f g = of_none (whole base.Truth) refl
  of_binary family.Order o a b h f g = of_none (whole base.Truth) refl

  of_named : (n : Named) → NameLies es n → Lies (meant n)
  of_named (named.Static s c v) k = of_static (base_type c s.base) v (λ h. k.value_lies)
  of_named (named.Number v) k = of_static base.Universal v (λ h. h)
  of_named (named.Object s c) k = of_none (whole (base_type c s.base)) refl
  of_named (named.Mark s c) k = of_none unknown refl
  of_named named.Valueless k = of_none unknown refl
  of_named (named.Part b) k = of_none (whole b) refl
  of_named named.Unkept k = of_none unknown refl

  of_bound : (a : Option Attribute) (b : Bounds) → BoundsLie es b → Lies (bound_meaning a b)
  of_bound (Some attr.First) (bounds b low high) k = of_static b low (λ h. k.0)
  of_bound (Some attr.Last) (bounds b low high) k = of_static b high (λ h. k.1)
  of_bound (Some attr.First) without k = of_none unknown refl
  of_bound (Some attr.First) unjudged k = of_none unknown refl
  of_bound (Some attr.Last) without k = of_none unknown refl
  of_bound (Some attr.Last) unjudged k = of_none unknown refl
  of_bound (Some attr.Succ) b k = of_none unknown refl
  of_bound (Some attr.Pred) b k = of_none unknown refl
  of_bound (Some attr.Pos) b k = of_none unknown refl
  of_bound None b k = of_none unknown refl

  of_position : (v : Option ℤ) → Lies (position v)
  of_position (Some v) = of_static integer v (λ h. h)
  of_position None = of_none (whole integer) refl

  of_applied : (a : Option Attribute) (n : Named) (m : Meaning) → Lies (applied_by a n m)
  of_applied (Some attr.Pos) n m = of_position m.value
  of_applied (Some attr.First) n m = of_none (whole (taken (Some attr.First) n)) refl
  of_applied (Some attr.Last) n m = of_none (whole (taken (Some attr.Last) n)) refl
  of_applied (Some attr.Succ) n m = of_none (whole (taken (Some attr.Succ) n)) refl
  of_applied (Some attr.Pred) n m = of_none (whole (taken (Some attr.Pred) n)) refl
  of_applied None n m = of_none (whole (taken None n)) refl

module _ (w : World) (all : AllLie w.entities) where
  pub seen_lies : (s : Sight) → NameLies w.entities (stands_for w.entities s)
  seen_lies (declared id) = all id.0
  seen_lies nothing = (record { type_is_kept = tt; bounds_lie = tt; value_lies = tt })
  seen_lies two = (record { type_is_kept = tt; bounds_lie = tt; value_lies = tt })

  shown_lies : (path : List ℕ) (parts : Parts) (text : List ℕ) (before : Named) → NameLies w.entities (shown_after w path parts text before)
  shown_lies path parts text before = by (is_unkept before)
    where
      by : (t : Bool) → NameLies w.entities (if t then stands w parts path else part w.entities text before)
      by true = seen_lies (w.sees parts path)
      by false = (record { type_is_kept = tt; bounds_lie = tt; value_lies = tt })

  pub name_lies : (path : List ℕ) (parts : Parts) → NameLies w.entities (denoted w path parts)
  name_lies path [] = (record { type_is_kept = tt; bounds_lie = tt; value_lies = tt })
  name_lies path (x ∷ []) = seen_lies (w.sees (x ∷ []) path)
  name_lies path (p ∷ x ∷ []) = shown_lies path (p ∷ x ∷ []) x (stands w (p ∷ []) (path ▸ 0))
  name_lies path (p ∷ x ∷ y ∷ ys) = (record { type_is_kept = tt; bounds_lie = tt; value_lies = tt })

  pub lies : (u : Use) (path : List ℕ) (e : Expr) → faults w u path e ≡ [] → Lies w.entities (meaning w path e)
  lies u path (int digits) h = of_static w.entities base.Universal (pos (number_of 0 digits)) (λ k. k)
  lies u path (name parts) h = of_named w.entities (denoted w path parts) (name_lies path parts)
  lies u path (unary o a) h =
      let below : faults w use_of.Read (path ▸ 0) a ≡ [] = none_before (faults w use_of.Read (path ▸ 0) a) (at_node w u path (unary o a)) h in
      let own : at_node w u path (unary o a) ≡ [] = none_behind (faults w use_of.Read (path ▸ 0) a) (at_node w u path (unary o a)) h in
      of_unary w.entities o (meaning w (path ▸ 0) a)
      (not-false (takes1 o (meaning w (path ▸ 0) a).base) (no_fault path code.F09 (not (takes1 o (meaning w (path ▸ 0) a).base)) (use_rows u (meaning w path (unary o a))) own))
      (lies use_of.Read (path ▸ 0) a below)
  lies u path (binary o a b) h =
      let left : faults w use_of.Read (path ▸ 0) a ≡ [] = none_before (faults w use_of.Read (path ▸ 0) a) (faults w use_of.Read (path ▸ 1) b ⊕ at_node w u path (binary o a b)) h in
      let more : faults w use_of.Read (path ▸ 1) b ⊕ at_node w u path (binary o a b) ≡ [] = none_behind (faults w use_of.Read (path ▸ 0) a) (faults w use_of.Read (path ▸ 1) b ⊕ at_node w u path (binary o a b)) h in
      let right : faults w use_of.Read (path ▸ 1) b ≡ [] = none_before (faults w use_of.Read (path ▸ 1) b) (at_node w u path (binary o a b)) more in
      let own : at_node w u path (binary o a b) ≡ [] = none_behind (faults w use_of.Read (path ▸ 1) b) (at_node w u path (binary o a b)) more in
      of_binary w.entities (family_of o) o (meaning w (path ▸ 0) a) (meaning w (path ▸ 1) b)
      (not-false (takes2 (family_of o) (meaning w (path ▸ 0) a).base (meaning w (path ▸ 1) b).base)
      (no_fault path code.F09 (not (takes2 (family_of o) (meaning w (path ▸ 0) a).base (meaning w (path ▸ 1) b).base)) (use_rows u (meaning w path (binary o a b))) own))
      (lies use_of.Read (path ▸ 0) a left) (lies use_of.Read (path ▸ 1) b right)
  lies u path (attribute parts text) h = of_bound w.entities (attribute_of text) (bounds_of (denoted w (path ▸ 0) parts)) (name_lies (path ▸ 0) parts).bounds_lie
  lies u path (applied parts text a) h = of_applied w.entities (attribute_of text) (denoted w (path ▸ 0 ▸ 0) parts) (meaning w (path ▸ 1 ▸ 0) a)
  lies u path (component a text) h = of_none w.entities (meaning w path (component a text)) refl
  lies u path other h = of_none w.entities unknown refl
