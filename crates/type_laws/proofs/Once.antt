-- An expression made of literals has the integer types, and every other has one type at most.
use Rattle.std.proofs.Common.{◌≡◌, ◌↔◌, ℕ, List, Bool, true, false, not, ◌&&◌, Option, Some, None, refl, sym, ap, subst, ◌∙◌}
use Rattle.std.proofs.lemmas.Bool.{false≢true, true≢false, and_parts}
use Rattle.ada_tree.specs.declared.operator.Operator.{Operator}
use Rattle.ada_tree.specs.declared.operator.Operator.TheVariants as op
use Rattle.ada_names.specs.Places.{◌▸◌}
use Rattle.static_values.specs.declared.attribute.Attribute.{Attribute}
use Rattle.static_values.specs.declared.attribute.Attribute.TheVariants as attr
use Rattle.static_values.specs.declared.entity.BaseType.{BaseType}
use Rattle.static_values.specs.declared.entity.BaseType.TheVariants as base
use Rattle.static_values.specs.declared.entity.Named.{Named}
use Rattle.static_values.specs.declared.entity.Named.TheVariants as named
use Rattle.static_values.specs.declared.meaning.Family.{Family}
use Rattle.static_values.specs.declared.meaning.Family.TheVariants as family
use Rattle.static_values.specs.Syntax.{Expr, int, name, unary, binary, attribute, applied, component, other}
use Rattle.static_values.specs.Entities.{Declared, World}
use Rattle.static_values.specs.Components.{selected_of, selected_type}
use Rattle.static_values.specs.Rules.{base_type, family_of, Bounds, bounds, without, unjudged, bounds_of, attribute_of, integer}
use Rattle.static_values.specs.Expressions.{denoted}
use Rattle.type_laws.specs.Typed.{Is, is_number, is_not, is_arithmetic, is_number_name, named_typed, unary_typed, binary_typed, bound_typed, attribute_typed, argument_typed, applied_typed, component_typed, Typed, is_literal, HasEveryIntegerType, HasOneTypeAtMost}

-- ---- one type at most

twice : (b t u : BaseType) → Is b t → Is b u → t ≡ u
twice b t u h k = h.1 ∙ sym k.1

named_once : (n : Named) (t u : BaseType) → is_number_name n ≡ false → named_typed n t → named_typed n u → t ≡ u
named_once (named.Object s c) t u l h k = twice (base_type c s.base) t u h k
named_once (named.Static s c v) t u l h k = twice (base_type c s.base) t u h k
named_once (named.Number v) t u l h k = absurd (true≢false l)
named_once (named.Mark s c) t u l h k = absurd h
named_once named.Valueless t u l h k = absurd h
named_once (named.Part b) t u l h k = twice b t u h k
named_once named.Unkept t u l h k = absurd h

unary_once : (o : Operator) (A : BaseType → Type 0) (t u : BaseType) (l : Bool) → (not (is_not o) && l) ≡ false → (l ≡ false → A t → A u → t ≡ u)
    → unary_typed o A t → unary_typed o A u → t ≡ u
unary_once op.Not A t u l e f h k = twice base.Truth t u h.0 k.0
unary_once o A t u l e f h k = f e h.1 k.1

binary_once : (o : Family) (A B : BaseType → Type 0) (t u : BaseType) (l r : Bool) → (is_arithmetic o && (l && r)) ≡ false
    → (l ≡ false → A t → A u → t ≡ u) → (r ≡ false → B t → B u → t ≡ u) → binary_typed o A B t → binary_typed o A B u → t ≡ u
binary_once family.Arithmetic A B t u l r e f g h k = by l refl
  where
    by : (x : Bool) → l ≡ x → t ≡ u
    by false p = f p h.1.0 k.1.0
    by true p = g (subst (λ (x : Bool). (x && r) ≡ false) p e) h.1.1 k.1.1
binary_once family.Logical A B t u l r e f g h k = twice base.Truth t u h.0 k.0
binary_once family.Equality A B t u l r e f g h k = twice base.Truth t u h.0 k.0
binary_once family.Order A B t u l r e f g h k = twice base.Truth t u h.0 k.0

bound_once : (b : Bounds) (t u : BaseType) → bound_typed b t → bound_typed b u → t ≡ u
bound_once (bounds b low high) t u h k = twice b t u h k
bound_once without t u h k = absurd h
bound_once unjudged t u h k = absurd h

attribute_once : (a : Option Attribute) (b : Bounds) (t u : BaseType) → attribute_typed a b t → attribute_typed a b u → t ≡ u
attribute_once (Some attr.First) b t u h k = bound_once b t u h k
attribute_once (Some attr.Last) b t u h k = bound_once b t u h k
attribute_once (Some attr.Succ) b t u h k = absurd h
attribute_once (Some attr.Pred) b t u h k = absurd h
attribute_once (Some attr.Pos) b t u h k = absurd h
attribute_once None b t u h k = absurd h

argument_once : (a : Option Attribute) (b : BaseType) (A : BaseType → Type 0) (t u : BaseType) → argument_typed a b A t → argument_typed a b A u → t ≡ u
argument_once (Some attr.Pos) b A t u h k = twice integer t u h.0 k.0
argument_once (Some attr.Succ) b A t u h k = twice b t u h.0 k.0
argument_once (Some attr.Pred) b A t u h k = twice b t u h.0 k.0
argument_once (Some attr.First) b A t u h k = absurd h
argument_once (Some attr.Last) b A t u h k = absurd h
argument_once None b A t u h k = absurd h

applied_once : (a : Option Attribute) (n : Named) (A : BaseType → Type 0) (t u : BaseType) → applied_typed a n A t → applied_typed a n A u → t ≡ u
applied_once a (named.Mark s c) A t u h k = argument_once a (base_type c s.base) A t u h.1 k.1
applied_once a (named.Object s c) A t u h k = absurd h
applied_once a (named.Static s c v) A t u h k = absurd h
applied_once a (named.Number v) A t u h k = absurd h
applied_once a named.Valueless A t u h k = absurd h
applied_once a (named.Part b) A t u h k = absurd h
applied_once a named.Unkept A t u h k = absurd h

-- ---- every integer type

named_every : (n : Named) → is_number_name n ≡ true → (t : BaseType) → named_typed n t ↔ (is_number t ≡ true)
named_every (named.Number v) l t = (λ h. h, λ h. h)
named_every (named.Object s c) l t = absurd (false≢true l)
named_every (named.Static s c v) l t = absurd (false≢true l)
named_every (named.Mark s c) l t = absurd (false≢true l)
named_every named.Valueless l t = absurd (false≢true l)
named_every (named.Part b) l t = absurd (false≢true l)
named_every named.Unkept l t = absurd (false≢true l)

unary_every : (o : Operator) (A : BaseType → Type 0) (l : Bool) → (not (is_not o) && l) ≡ true → (l ≡ true → (t : BaseType) → A t ↔ (is_number t ≡ true))
    → (t : BaseType) → unary_typed o A t ↔ (is_number t ≡ true)
unary_every op.Not A l e f t = absurd (false≢true e)
unary_every o A l e f t = (λ h. h.0, λ h. (h, (f e t).1 h))

binary_every : (o : Family) (A B : BaseType → Type 0) (l r : Bool) → (is_arithmetic o && (l && r)) ≡ true
    → (l ≡ true → (t : BaseType) → A t ↔ (is_number t ≡ true)) → (r ≡ true → (t : BaseType) → B t ↔ (is_number t ≡ true))
    → (t : BaseType) → binary_typed o A B t ↔ (is_number t ≡ true)
binary_every family.Arithmetic A B l r e f g t = (λ h. h.0, λ h. (h, ((f (and_parts l r e).0 t).1 h, (g (and_parts l r e).1 t).1 h)))
binary_every family.Logical A B l r e f g t = absurd (false≢true e)
binary_every family.Equality A B l r e f g t = absurd (false≢true e)
binary_every family.Order A B l r e f g t = absurd (false≢true e)

-- ---- components

-- a number has no components
number_selects : (es : Declared) (text : List ℕ) (u t : BaseType) → is_number u ≡ true → Is (selected_type (selected_of es u text)) t → ⊥
number_selects es text (base.Integer n) t i h = absurd (false≢true h.0)
number_selects es text base.Universal t i h = absurd (false≢true i)
number_selects es text (base.Enumeration n) t i h = absurd (false≢true i)
number_selects es text (base.Composite n) t i h = absurd (false≢true i)
number_selects es text base.Truth t i h = absurd (false≢true i)
number_selects es text base.Unjudged t i h = absurd (false≢true i)

component_once : (es : Declared) (A : BaseType → Type 0) (text : List ℕ) (t u : BaseType) (l : Bool)
    → (l ≡ false → (x y : BaseType) → A x → A y → x ≡ y) → (l ≡ true → (x : BaseType) → A x ↔ (is_number x ≡ true))
    → component_typed es A text t → component_typed es A text u → t ≡ u
component_once es A text t u true f g h k = absurd (number_selects es text h.0 t ((g refl h.0).0 h.1.0) h.1.1)
component_once es A text t u false f g h k =
    let e : h.0 ≡ k.0 = f refl h.0 k.0 h.1.0 k.1.0 in
    h.1.1.1 ∙ ap (λ (x : BaseType). selected_type (selected_of es x text)) e ∙ sym k.1.1.1

module _ (w : World) where
  pub every : (path : List ℕ) (e : Expr) → is_literal w path e ≡ true → HasEveryIntegerType w path e
  every path (int digits) l t = (λ h. h, λ h. h)
  every path (name parts) l t = named_every (denoted w path parts) l t
  every path (unary o a) l t = unary_every o (Typed w (path ▸ 0) a) (is_literal w (path ▸ 0) a) l (λ m. every (path ▸ 0) a m) t
  every path (binary o a b) l t =
      binary_every (family_of o) (Typed w (path ▸ 0) a) (Typed w (path ▸ 1) b) (is_literal w (path ▸ 0) a) (is_literal w (path ▸ 1) b) l
      (λ m. every (path ▸ 0) a m) (λ m. every (path ▸ 1) b m) t
  every path (attribute parts text) l t = absurd (false≢true l)
  every path (applied parts text a) l t = absurd (false≢true l)
  every path (component a text) l t = absurd (false≢true l)
  every path other l t = absurd (false≢true l)

  pub once : (path : List ℕ) (e : Expr) → is_literal w path e ≡ false → HasOneTypeAtMost w path e
  once path (int digits) l t u h k = absurd (true≢false l)
  once path (name parts) l t u h k = named_once (denoted w path parts) t u l h k
  once path (unary o a) l t u h k = unary_once o (Typed w (path ▸ 0) a) t u (is_literal w (path ▸ 0) a) l (λ m. once (path ▸ 0) a m t u) h k
  once path (binary o a b) l t u h k =
      binary_once (family_of o) (Typed w (path ▸ 0) a) (Typed w (path ▸ 1) b) t u (is_literal w (path ▸ 0) a) (is_literal w (path ▸ 1) b) l
      (λ m. once (path ▸ 0) a m t u) (λ m. once (path ▸ 1) b m t u) h k
  once path (attribute parts text) l t u h k = attribute_once (attribute_of text) (bounds_of (denoted w (path ▸ 0) parts)) t u h k
  once path (applied parts text a) l t u h k = applied_once (attribute_of text) (denoted w (path ▸ 0 ▸ 0) parts) (Typed w (path ▸ 1 ▸ 0) a) t u h k
  once path (component a text) l t u h k =
      component_once w.entities (Typed w (path ▸ 0) a) text t u (is_literal w (path ▸ 0) a) (λ m. once (path ▸ 0) a m) (λ m. every (path ▸ 0) a m) h k
  once path other l t u h k = absurd h
