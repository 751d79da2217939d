-- A static expression without a fault has a value, and it lies in the base range.
use Rattle.std.proofs.Common.{◌≡◌, ℕ, ℤ, pos, List, [], ◌∷◌, ◌++◌, Bool, true, false, not, ◌&&◌, ◌||◌, Option, Some, None, is_none, unwrap_or, refl}
use Rattle.std.specs.Prelude.{if◌then◌else◌}
use Rattle.base_kit.specs.declared.fault.Fault.{Fault}
use Rattle.base_kit.specs.declared.fault.Code.TheVariants as code
use Rattle.ada_tree.specs.Sights.{fault}
use Rattle.ada_names.specs.Places.{◌▸◌}
use Rattle.static_values.specs.declared.meaning.Meaning.{Meaning}
use Rattle.static_values.specs.declared.meaning.Use.TheVariants as use_of
use Rattle.static_values.specs.Judging.{Rows, asks, ◌⊕◌}
use Rattle.static_values.specs.Syntax.{Expr, int, name, unary, binary, attribute, applied, component, other}
use Rattle.static_values.specs.Entities.{World}
use Rattle.static_values.specs.Rules.{value_of, use_rows}
use Rattle.static_values.specs.Expressions.{meaning, faults, at_node, own_rows, name_faults, prefix_faults}
use Rattle.static_values.proofs.Firsts.{none_behind}

asked : (path : List ℕ) (v : Option ℤ) (o : Bool) → asks path ((code.F10, is_none v && not o) ∷ (code.F11, o || false) ∷ []) ≡ [] → v ≡ Some (unwrap_or v (pos 0))
asked path (Some v) o h = refl
asked path None true h = cc
asked path None false h = cc

skip : (b : Bool) (f : Fault) (fs : List Fault) → (if b then f ∷ fs else fs) ≡ [] → fs ≡ []
skip true f fs h = cc
skip false f fs h = h

row_asked : (path : List ℕ) (rows : Rows) (m : Meaning) → asks path (rows ++ use_rows use_of.Static m) ≡ [] → m.value ≡ Some (value_of m)
row_asked path [] m h = asked path m.value m.overflows h
row_asked path (row ∷ rows) m h = row_asked path rows m (skip row.1 (fault row.0 path) (asks path (rows ++ use_rows use_of.Static m)) h)

module _ (w : World) where
  own : (path : List ℕ) (e : Expr) → at_node w use_of.Static path e ≡ [] → (meaning w path e).value ≡ Some (value_of (meaning w path e))
  own path e h = row_asked path (own_rows w path e) (meaning w path e) h

  pub has_value : (path : List ℕ) (e : Expr) → faults w use_of.Static path e ≡ [] → (meaning w path e).value ≡ Some (value_of (meaning w path e))
  has_value path (int digits) h = own path (int digits) h
  has_value path (name parts) h = own path (name parts) (none_behind (name_faults w path parts) (at_node w use_of.Static path (name parts)) h)
  has_value path (unary o a) h = own path (unary o a) (none_behind (faults w use_of.Read (path ▸ 0) a) (at_node w use_of.Static path (unary o a)) h)
  has_value path (binary o a b) h =
      own path (binary o a b) (none_behind (faults w use_of.Read (path ▸ 1) b) (at_node w use_of.Static path (binary o a b))
      (none_behind (faults w use_of.Read (path ▸ 0) a) (faults w use_of.Read (path ▸ 1) b ⊕ at_node w use_of.Static path (binary o a b)) h))
  has_value path (attribute parts text) h = own path (attribute parts text) (none_behind (name_faults w (path ▸ 0) parts) (at_node w use_of.Static path (attribute parts text)) h)
  has_value path (applied parts text a) h =
      own path (applied parts text a) (none_behind (faults w use_of.Read (path ▸ 1 ▸ 0) a) (at_node w use_of.Static path (applied parts text a))
      (none_behind (prefix_faults w path parts text) (faults w use_of.Read (path ▸ 1 ▸ 0) a ⊕ at_node w use_of.Static path (applied parts text a)) h))
  has_value path (component a text) h =
      own path (component a text) (none_behind (faults w use_of.Read (path ▸ 0) a) (at_node w use_of.Static path (component a text)) h)
  has_value path other h = own path other h
