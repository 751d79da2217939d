-- Static values, and the ranges of their types.
use Rattle.std.specs.Prelude.{◌≡◌, ◌⊎◌, ℕ, ℤ, pos, Bool, true, false, nat_eq, Option, Some}
use Rattle.std.specs.Map.{lookup}
use Rattle.static_values.specs.declared.entity.BaseType.{BaseType}
use Rattle.static_values.specs.declared.entity.BaseType.TheVariants as base
use Rattle.static_values.specs.declared.entity.Class.{Class}
use Rattle.static_values.specs.declared.entity.Class.TheVariants as class
use Rattle.static_values.specs.declared.entity.Subtype.{Subtype}
use Rattle.static_values.specs.declared.entity.Shape.TheVariants as shape
use Rattle.static_values.specs.declared.entity.Entity.{Entity}
use Rattle.static_values.specs.declared.entity.Entity.TheVariants as entity
use Rattle.static_values.specs.declared.entity.Named.{Named}
use Rattle.static_values.specs.declared.entity.Named.TheVariants as named
use Rattle.static_values.specs.Entities.{Declared, class_of, named_of, is_private}
use Rattle.static_values.specs.Rules.{is_within, in_base, base_type, Bounds, bounds, bounds_of}

abbrev pub is_position : Option Entity → ℤ → Bool
is_position (Some (entity.Type s shape.Enumeration)) v = is_within s.low s.high v
is_position _ v = false

-- The range of an integer type is INTEGER's, in which it computes, that of an enumeration type has the positions of its literals, that of BOOLEAN is 0 .. 1.
abbrev pub lies_in_type : Declared → BaseType → ℤ → Bool
lies_in_type es base.Universal v = in_base v
lies_in_type es (base.Integer id) v = in_base v
lies_in_type es (base.Enumeration id) v = is_position (lookup (nat_eq id) es) v
lies_in_type es base.Truth v = is_within (pos 0) (pos 1) v
lies_in_type es (base.Composite id) v = false
lies_in_type es base.Unjudged v = false

-- ---- what is kept under numbers, where all lies in its type's range

abbrev pub is_known : Class → Bool
is_known class.Unknown = false
is_known class.Private = false
is_known _ = true

-- the type of this number is kept, and is of the class; or it is a private type before its full type
abbrev pub ClassIsKept : Declared → Subtype → Class → Type 0
ClassIsKept es s c = (is_private c ≡ true) ⊎ ((class_of es s.base ≡ c) × (is_known c ≡ true))

abbrev pub TypeIsKept : Declared → Named → Type 0
TypeIsKept es (named.Mark s c) = ClassIsKept es s c
TypeIsKept es (named.Object s c) = ClassIsKept es s c
TypeIsKept es (named.Static s c v) = ClassIsKept es s c
TypeIsKept es _ = Unit {0}

abbrev pub BoundsLie : Declared → Bounds → Type 0
BoundsLie es (bounds b low high) = (lies_in_type es b low ≡ true) × (lies_in_type es b high ≡ true)
BoundsLie es _ = Unit {0}

abbrev pub ValueLies : Declared → Named → Type 0
ValueLies es (named.Static s c v) = lies_in_type es (base_type c s.base) v ≡ true
ValueLies es _ = Unit {0}

module _ (es : Declared) (n : Named) where
  pub record NameLies : Type 0 where
    pub type_is_kept : TypeIsKept es n
    -- the bounds that FIRST and LAST tell
    pub bounds_lie : BoundsLie es (bounds_of n)
    pub value_lies : ValueLies es n

abbrev pub AllLie : Declared → Type 0
AllLie es = (id : ℕ) → NameLies es (named_of es id)
