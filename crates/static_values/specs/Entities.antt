-- What is declared so far, and what names stand for.
use Rattle.std.specs.Prelude.{ℕ, List, nat_eq, slice_get, Bool, true, false, ◌&&◌, Option, Some, None, is_none}
use Rattle.std.specs.Map.{lookup}
use Rattle.ada_tree.specs.Sights.{Sight, declared, nothing, two}
use Rattle.static_values.specs.declared.entity.Shape.{Shape}
use Rattle.static_values.specs.declared.entity.Shape.TheVariants as shape
use Rattle.static_values.specs.declared.entity.Entity.{Entity}
use Rattle.static_values.specs.declared.entity.Entity.TheVariants as entity
use Rattle.static_values.specs.declared.entity.Class.{Class}
use Rattle.static_values.specs.declared.entity.Class.TheVariants as class
use Rattle.static_values.specs.declared.entity.Named.{Named}
use Rattle.static_values.specs.declared.entity.Named.TheVariants as named
use Rattle.static_values.specs.declared.entity.TheConstants.{PREDEFINED}

-- what is declared so far, each under its number
abbrev pub Declared : Type 0
Declared = List (ℕ × Entity)

abbrev pub class_of_shape : Shape → Class
class_of_shape shape.Integer = class.Integer
class_of_shape shape.Enumeration = class.Enumeration
class_of_shape shape.Truth = class.Truth
class_of_shape (shape.Array index element) = class.Array index
class_of_shape (shape.Record components) = class.Record
class_of_shape shape.Private = class.Private

-- A private type before its full type tells nothing of what it is.
abbrev pub class_kept : Option Entity → Class
class_kept (Some (entity.Type s shape.Private)) = class.Unknown
class_kept (Some (entity.Type s sh)) = class_of_shape sh
class_kept _ = class.Unknown

abbrev pub class_named : Named → Class
class_named (named.Mark s c) = c
class_named _ = class.Unknown

-- what the predefined name of this number stands for
abbrev pub predefined : ℕ → Option Named
predefined id = slice_get PREDEFINED id

-- what the type of this number is
abbrev pub class_of : Declared → ℕ → Class
class_of es id = by (predefined id)
  where
    by : Option Named → Class
    by (Some n) = class_named n
    by None = class_kept (lookup (nat_eq id) es)

-- ---- private types

-- the type that is kept
abbrev pub mark_kept : Option Entity → Named
mark_kept (Some (entity.Type s sh)) = named.Mark s (class_of_shape sh)
mark_kept _ = named.Unkept

-- the type of this number
abbrev pub mark_of : Declared → ℕ → Named
mark_of es id = by (predefined id)
  where
    by : Option Named → Named
    by (Some n) = n
    by None = mark_kept (lookup (nat_eq id) es)

-- an object of all values of a type
abbrev pub as_object : Named → Named
as_object (named.Mark s c) = named.Object s c
as_object _ = named.Unkept

-- a subtype of all values of a type, with an entry of its own
abbrev pub as_subtype : ℕ → Named → Named
as_subtype number (named.Mark s c) = named.Mark (record s { entry = number }) c
as_subtype number _ = named.Unkept

abbrev pub is_private : Class → Bool
is_private class.Private = true
is_private _ = false

-- ---- what is kept

-- What was declared of a private type before its full type is of that, once it is there.
abbrev pub named_kept : Declared → Option Entity → Named
named_kept es (Some (entity.Type s sh)) = named.Mark s (class_of_shape sh)
named_kept es (Some (entity.Subtype s)) = named.Mark s (class_of es s.base)
named_kept es (Some (entity.Object s)) = named.Object s (class_of es s.base)
named_kept es (Some (entity.PrivateSubtype id number)) = as_subtype number (mark_of es id)
named_kept es (Some (entity.PrivateObject id)) = as_object (mark_of es id)
named_kept es (Some (entity.Static s v)) = named.Static s (class_of es s.base) v
named_kept es (Some (entity.Number v)) = named.Number v
named_kept es (Some entity.Exception) = named.Valueless
named_kept es None = named.Unkept

-- what the declaration of this number stands for
abbrev pub named_of : Declared → ℕ → Named
named_of es id = by (predefined id)
  where
    by : Option Named → Named
    by (Some n) = n
    by None = named_kept es (lookup (nat_eq id) es)

-- A number that nothing has can be given to anything, and that of a private type to its full type.
abbrev pub may_take : Option Entity → Entity → Bool
may_take None e = true
may_take (Some (entity.Type s shape.Private)) (entity.Type t sh) = true
may_take _ _ = false

-- The predefined names have theirs.
abbrev pub is_new : Declared → ℕ → Entity → Bool
is_new es id e = is_none (predefined id) && may_take (lookup (nat_eq id) es) e

-- what the names of a document see, and what they declare
pub record World : Type 0 where
  pub sees : List (List ℕ) → List ℕ → Sight
  pub entities : Declared

abbrev pub world : (List (List ℕ) → List ℕ → Sight) → Declared → World
world sees entities = record { sees = sees; entities = entities }

abbrev pub stands_for : Declared → Sight → Named
stands_for es (declared id) = named_of es id.0
stands_for es nothing = named.Unkept
stands_for es two = named.Unkept
