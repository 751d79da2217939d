-- Which expressions are judged whole.
use Rattle.std.specs.Prelude.{ℕ, List, Bool, true, false, ◌&&◌, Option, Some}
use Rattle.ada_names.specs.Places.{◌▸◌}
use Rattle.static_values.specs.declared.attribute.Attribute.{Attribute}
use Rattle.static_values.specs.declared.attribute.Attribute.TheVariants as attr
use Rattle.static_values.specs.declared.entity.Named.{Named}
use Rattle.static_values.specs.declared.entity.Named.TheVariants as named
use Rattle.static_values.specs.declared.entity.Selected.{Selected}
use Rattle.static_values.specs.declared.entity.Selected.TheVariants as selected
use Rattle.static_values.specs.Syntax.{Expr, int, name, unary, binary, attribute, applied, component, other}
use Rattle.static_values.specs.Entities.{World}
use Rattle.static_values.specs.Rules.{base_type, Bounds, bounds, without, unjudged, bounds_of, attribute_of}
use Rattle.static_values.specs.Components.{selected_of}
use Rattle.static_values.specs.Expressions.{denoted, meaning}
use Rattle.type_laws.specs.Typed.{is_declared}

-- what it stands for is kept, with its type
abbrev pub is_kept : Named → Bool
is_kept (named.Object s c) = is_declared (base_type c s.base)
is_kept (named.Static s c v) = is_declared (base_type c s.base)
is_kept (named.Mark s c) = is_declared (base_type c s.base)
is_kept (named.Number v) = true
is_kept (named.Part b) = is_declared b
is_kept named.Valueless = true
is_kept _ = false

abbrev pub has_type : Bounds → Bool
has_type (bounds b low high) = is_declared b
has_type without = true
has_type unjudged = false

-- what is before the dot is judged, and the type of the component is kept
abbrev pub is_told : Selected → Bool
is_told (selected.Component b) = is_declared b
is_told selected.Unjudged = false
is_told _ = true

-- a range's bound has no argument
abbrev pub takes_argument : Option Attribute → Bool
takes_argument (Some attr.First) = false
takes_argument (Some attr.Last) = false
takes_argument _ = true

module _ (w : World) where
  -- each name in it is kept, and it has none of the forms that aren't judged
  abbrev pub is_judged : List ℕ → Expr → Bool
  is_judged path (int digits) = true
  is_judged path (name parts) = is_kept (denoted w path parts)
  is_judged path (unary o a) = is_judged (path ▸ 0) a
  is_judged path (binary o a b) = is_judged (path ▸ 0) a && is_judged (path ▸ 1) b
  is_judged path (attribute parts text) = has_type (bounds_of (denoted w (path ▸ 0) parts))
  is_judged path (applied parts text a) = takes_argument (attribute_of text) && (is_kept (denoted w (path ▸ 0 ▸ 0) parts) && is_judged (path ▸ 1 ▸ 0) a)
  is_judged path (component a text) = is_judged (path ▸ 0) a && is_told (selected_of w.entities (meaning w (path ▸ 0) a).base text)
  is_judged path other = false
