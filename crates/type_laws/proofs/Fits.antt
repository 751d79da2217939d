-- What an expression's meaning finds fits each of its types.
use Rattle.std.proofs.Common.{◌≡◌, ℕ, List, Bool, true, false, Option, Some, None, refl, sym, subst}
use Rattle.std.proofs.lemmas.Bool.{false≢true, eq-eqb, eqb-true}
use Rattle.ada_tree.specs.declared.operator.Operator.{Operator}
use Rattle.ada_tree.specs.declared.operator.Operator.TheVariants as op
use Rattle.ada_names.specs.Places.{◌▸◌}
use Rattle.static_values.specs.declared.attribute.Attribute.{Attribute}
use Rattle.static_values.specs.declared.attribute.Attribute.TheVariants as attr
use Rattle.static_values.specs.declared.entity.BaseType.{BaseType}
use Rattle.static_values.specs.declared.entity.BaseType.TheVariants as base
use Rattle.static_values.specs.declared.entity.Named.{Named}
use Rattle.static_values.specs.declared.entity.Named.TheVariants as named
use Rattle.static_values.specs.declared.meaning.Family.{Family}
use Rattle.static_values.specs.declared.meaning.Family.TheVariants as family
use Rattle.static_values.specs.declared.meaning.Meaning.{Meaning}
use Rattle.static_values.specs.Syntax.{Expr, int, name, unary, binary, attribute, applied, component, other}
use Rattle.static_values.specs.Entities.{Declared, World}
use Rattle.static_values.specs.Components.{selected_of, selected_type}
use Rattle.static_values.specs.Rules.{fits, joined, is_universal, base_type, family_of, Bounds, bounds, without, unjudged, bounds_of, attribute_of, integer, meant, unary_meaning, binary_by_family, bound_meaning, applied_by, literal}
use Rattle.static_values.specs.Expressions.{meaning, denoted}
use Rattle.type_laws.specs.Typed.{is_declared, Is, is_number, named_typed, unary_typed, binary_typed, attribute_typed, applied_typed, component_typed, Typed}
use Rattle.type_laws.proofs.Bases.{static_base, literal_base, static2_base, sign_base, position_base}

pub fits_self : (b : BaseType) → is_declared b ≡ true → fits b b ≡ true
fits_self (base.Integer a) d = eq-eqb a a refl
fits_self (base.Enumeration a) d = eq-eqb a a refl
fits_self (base.Composite a) d = eq-eqb a a refl
fits_self base.Truth d = refl
fits_self base.Universal d = absurd (false≢true d)
fits_self base.Unjudged d = absurd (false≢true d)

-- a meaning of this type fits t
abbrev Allows : BaseType → BaseType → Type 0
Allows m t = fits m t ≡ true

along : (m n t : BaseType) → m ≡ n → Allows n t → Allows m t
along m n t e h = subst (λ (x : BaseType). Allows x t) (sym e) h

own : (m b t : BaseType) → m ≡ b → Is b t → Allows m t
own m b t e h = along m b t e (subst (λ (x : BaseType). Allows b x) (sym h.1) (fits_self b h.0))

pub universal_fits : (t : BaseType) → is_number t ≡ true → fits base.Universal t ≡ true
universal_fits (base.Integer a) h = refl
universal_fits base.Universal h = absurd (false≢true h)
universal_fits (base.Enumeration a) h = absurd (false≢true h)
universal_fits base.Truth h = absurd (false≢true h)
universal_fits (base.Composite a) h = absurd (false≢true h)
universal_fits base.Unjudged h = absurd (false≢true h)

universal : (m t : BaseType) → m ≡ base.Universal → is_number t ≡ true → Allows m t
universal m t e h = along m base.Universal t e (universal_fits t h)

joined_allows : (a b t : BaseType) → Allows a t → Allows b t → Allows (joined a b) t
joined_allows a b t f g = by (is_universal a) refl
  where
    by : (u : Bool) → is_universal a ≡ u → Allows (joined a b) t
    by true h = subst (λ (x : BaseType). Allows x t) (sym (rw h refl)) g
    by false h = subst (λ (x : BaseType). Allows x t) (sym (rw h refl)) f

named_allows : (n : Named) (t : BaseType) → named_typed n t → Allows (meant n).base t
named_allows (named.Object s c) t h = own (base_type c s.base) (base_type c s.base) t refl h
named_allows (named.Static s c v) t h = own (meant (named.Static s c v)).base (base_type c s.base) t (static_base (base_type c s.base) v) h
named_allows (named.Number v) t h = universal (meant (named.Number v)).base t (static_base base.Universal v) h
named_allows (named.Mark s c) t h = absurd h
named_allows named.Valueless t h = absurd h
named_allows (named.Part b) t h = own b b t refl h
named_allows named.Unkept t h = absurd h

unary_allows : (o : Operator) (A : BaseType → Type 0) (a : Meaning) → ((t : BaseType) → A t → Allows a.base t) → (t : BaseType) → unary_typed o A t → Allows (unary_meaning o a).base t
unary_allows op.Not A a f t h = own base.Truth base.Truth t refl h.0
unary_allows o A a f t h = along (unary_meaning o a).base a.base t (sign_base o a refl) (f t h.1)

binary_allows : (f : Family) (o : Operator) (A B : BaseType → Type 0) (a b : Meaning) → ((t : BaseType) → A t → Allows a.base t) → ((t : BaseType) → B t → Allows b.base t)
    → (t : BaseType) → binary_typed f A B t → Allows (binary_by_family f o a b).base t
binary_allows family.Arithmetic o A B a b f g t h =
    along (binary_by_family family.Arithmetic o a b).base (joined a.base b.base) t (static2_base o (joined a.base b.base) a.value b.value)
    (joined_allows a.base b.base t (f t h.1.0) (g t h.1.1))
binary_allows family.Logical o A B a b f g t h = own base.Truth base.Truth t refl h.0
binary_allows family.Equality o A B a b f g t h = own base.Truth base.Truth t refl h.0
binary_allows family.Order o A B a b f g t h = own base.Truth base.Truth t refl h.0

attribute_allows : (a : Option Attribute) (b : Bounds) (t : BaseType) → attribute_typed a b t → Allows (bound_meaning a b).base t
attribute_allows (Some attr.First) (bounds b low high) t h = own (bound_meaning (Some attr.First) (bounds b low high)).base b t (static_base b low) h
attribute_allows (Some attr.Last) (bounds b low high) t h = own (bound_meaning (Some attr.Last) (bounds b low high)).base b t (static_base b high) h
attribute_allows (Some attr.First) without t h = absurd h
attribute_allows (Some attr.First) unjudged t h = absurd h
attribute_allows (Some attr.Last) without t h = absurd h
attribute_allows (Some attr.Last) unjudged t h = absurd h
attribute_allows (Some attr.Succ) b t h = absurd h
attribute_allows (Some attr.Pred) b t h = absurd h
attribute_allows (Some attr.Pos) b t h = absurd h
attribute_allows None b t h = absurd h

applied_allows : (a : Option Attribute) (n : Named) (A : BaseType → Type 0) (m : Meaning) (t : BaseType) → applied_typed a n A t → Allows (applied_by a n m).base t
applied_allows (Some attr.Pos) (named.Mark s c) A m t h = own (applied_by (Some attr.Pos) (named.Mark s c) m).base integer t (position_base m.value) h.1.0
applied_allows (Some attr.Succ) (named.Mark s c) A m t h = own (base_type c s.base) (base_type c s.base) t refl h.1.0
applied_allows (Some attr.Pred) (named.Mark s c) A m t h = own (base_type c s.base) (base_type c s.base) t refl h.1.0
applied_allows (Some attr.First) (named.Mark s c) A m t h = absurd h.1
applied_allows (Some attr.Last) (named.Mark s c) A m t h = absurd h.1
applied_allows None (named.Mark s c) A m t h = absurd h.1
applied_allows a (named.Object s c) A m t h = absurd h
applied_allows a (named.Static s c v) A m t h = absurd h
applied_allows a (named.Number v) A m t h = absurd h
applied_allows a named.Valueless A m t h = absurd h
applied_allows a (named.Part b) A m t h = absurd h
applied_allows a named.Unkept A m t h = absurd h

unjudged_fits : (t : BaseType) → Allows base.Unjudged t
unjudged_fits base.Universal = refl
unjudged_fits (base.Integer a) = refl
unjudged_fits (base.Enumeration a) = refl
unjudged_fits (base.Composite a) = refl
unjudged_fits base.Truth = refl
unjudged_fits base.Unjudged = refl

-- what fits a composite type selects what that selects, or isn't judged
selected_allows : (es : Declared) (text : List ℕ) (b u t : BaseType) → Allows b u → Is (selected_type (selected_of es u text)) t → Allows (selected_type (selected_of es b text)) t
selected_allows es text base.Unjudged u t f h = unjudged_fits t
selected_allows es text (base.Composite a) (base.Composite c) t f h =
    let e : a ≡ c = eqb-true a c f in
    own (selected_type (selected_of es (base.Composite a) text)) (selected_type (selected_of es (base.Composite c) text)) t (rw e refl) h
selected_allows es text base.Universal (base.Composite c) t f h = absurd (false≢true f)
selected_allows es text (base.Integer a) (base.Composite c) t f h = absurd (false≢true f)
selected_allows es text (base.Enumeration a) (base.Composite c) t f h = absurd (false≢true f)
selected_allows es text base.Truth (base.Composite c) t f h = absurd (false≢true f)
selected_allows es text b base.Universal t f h = absurd (false≢true h.0)
selected_allows es text b (base.Integer c) t f h = absurd (false≢true h.0)
selected_allows es text b (base.Enumeration c) t f h = absurd (false≢true h.0)
selected_allows es text b base.Truth t f h = absurd (false≢true h.0)
selected_allows es text b base.Unjudged t f h = absurd (false≢true h.0)

component_allows : (es : Declared) (A : BaseType → Type 0) (text : List ℕ) (b t : BaseType) → ((u : BaseType) → A u → Allows b u) → component_typed es A text t → Allows (selected_type (selected_of es b text)) t
component_allows es A text b t f h = selected_allows es text b h.0 t (f h.0 h.1.0) h.1.1

module _ (w : World) where
  pub allows : (path : List ℕ) (e : Expr) (t : BaseType) → Typed w path e t → fits (meaning w path e).base t ≡ true
  allows path (int digits) t h = universal (literal digits).base t (literal_base digits) h
  allows path (name parts) t h = named_allows (denoted w path parts) t h
  allows path (unary o a) t h = unary_allows o (Typed w (path ▸ 0) a) (meaning w (path ▸ 0) a) (λ u k. allows (path ▸ 0) a u k) t h
  allows path (binary o a b) t h =
      binary_allows (family_of o) o (Typed w (path ▸ 0) a) (Typed w (path ▸ 1) b) (meaning w (path ▸ 0) a) (meaning w (path ▸ 1) b)
      (λ u k. allows (path ▸ 0) a u k) (λ u k. allows (path ▸ 1) b u k) t h
  allows path (attribute parts text) t h = attribute_allows (attribute_of text) (bounds_of (denoted w (path ▸ 0) parts)) t h
  allows path (applied parts text a) t h = applied_allows (attribute_of text) (denoted w (path ▸ 0 ▸ 0) parts) (Typed w (path ▸ 1 ▸ 0) a) (meaning w (path ▸ 1 ▸ 0) a) t h
  allows path (component a text) t h = component_allows w.entities (Typed w (path ▸ 0) a) text (meaning w (path ▸ 0) a).base t (λ u k. allows (path ▸ 0) a u k) h
  allows path other t h = absurd h
