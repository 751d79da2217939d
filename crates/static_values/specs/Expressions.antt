-- What expressions mean, and which faults they have, in post-order.
use Rattle.std.specs.Prelude.{ℕ, List, [], ◌∷◌, ◌++◌, Bool, true, false, not, if◌then◌else◌}
use Rattle.base_kit.specs.declared.fault.Fault.{Fault}
use Rattle.base_kit.specs.declared.fault.Code.TheVariants as code
use Rattle.ada_tree.specs.Sights.{Sight, nothing, two}
use Rattle.ada_names.specs.Places.{◌▸◌}
use Rattle.static_values.specs.declared.entity.BaseType.TheVariants as base
use Rattle.static_values.specs.declared.entity.Named.{Named}
use Rattle.static_values.specs.declared.entity.Named.TheVariants as named
use Rattle.static_values.specs.declared.meaning.Use.{Use}
use Rattle.static_values.specs.declared.meaning.Use.TheVariants as use_of
use Rattle.static_values.specs.declared.meaning.Meaning.{Meaning}
use Rattle.static_values.specs.Judging.{Rows, asks, ◌⊕◌}
use Rattle.static_values.specs.Syntax.{Parts, Expr, int, name, unary, binary, attribute, applied, component, other}
use Rattle.static_values.specs.declared.entity.Selected.{Selected}
use Rattle.static_values.specs.Entities.{Declared, World, stands_for}
use Rattle.static_values.specs.Components.{selected_of, selected_rows, selected_type, selected_meaning}
use Rattle.static_values.specs.Rules.{unknown, meant, literal, unary_meaning, binary_meaning, attribute_meaning, applied_meaning, name_rows, unary_rows, binary_rows, attribute_rows, prefix_rows, applied_rows, use_rows}

-- ---- names

abbrev pub is_nothing : Sight → Bool
is_nothing nothing = true
is_nothing _ = false

abbrev pub is_two : Sight → Bool
is_two two = true
is_two _ = false

-- what is asked of a name that stands at a path
abbrev pub sight_faults : Sight → List ℕ → List Fault
sight_faults s path = asks path ((code.F05, is_nothing s) ∷ (code.F07, is_two s) ∷ [])

-- what isn't kept may be a package
abbrev pub is_unkept : Named → Bool
is_unkept named.Unkept = true
is_unkept _ = false

abbrev pub is_object : Named → Bool
is_object (named.Object s c) = true
is_object (named.Static s c v) = true
is_object (named.Number v) = true
is_object _ = false

-- what is no name, as if it were a component of what isn't judged
abbrev pub no_name : Named
no_name = named.Part base.Unjudged

abbrev pub is_mark : Named → Bool
is_mark (named.Mark s c) = true
is_mark _ = false

-- ---- components

module _ (es : Declared) where
  -- what a name selects of the object that stands before its dot
  abbrev pub selected_after : Named → List ℕ → Selected
  selected_after before text = selected_of es (meant before).base text

  -- those of the object, and then those of the component
  unfoldable pub part_faults : List ℕ → List ℕ → Named → List Fault
  part_faults path text before =
      asks (path ▸ 0) ((code.F08, not (is_object before)) ∷ []) ⊕ asks path (selected_rows (selected_after before text))

  abbrev pub part : List ℕ → Named → Named
  part text before = named.Part (selected_type (selected_after before text))

module _ (w : World) where
  abbrev pub stands : Parts → List ℕ → Named
  stands parts path = stands_for w.entities (w.sees parts path)

  -- Before the dot: what isn't kept may be a package, which shows the name; else an object, of which the name is a component.
  abbrev pub shown_after : List ℕ → Parts → List ℕ → Named → Named
  shown_after path parts text before = if is_unkept before then stands parts path else part w.entities text before

  abbrev pub after_dot : List ℕ → Parts → List ℕ → Named → List Fault
  after_dot path parts text before =
      if is_unkept before then sight_faults (w.sees parts path) path else part_faults w.entities path text before

  abbrev pub select_denoted : List ℕ → Parts → Parts → List ℕ → Named
  select_denoted path prefix parts text = shown_after path parts text (stands prefix (path ▸ 0))

  abbrev pub select_faults : List ℕ → Parts → Parts → List ℕ → List Fault
  select_faults path prefix parts text =
      sight_faults (w.sees prefix (path ▸ 0)) (path ▸ 0) ⊕ after_dot path parts text (stands prefix (path ▸ 0))

  -- what a name in an expression stands for
  abbrev pub denoted : List ℕ → Parts → Named
  denoted path (x ∷ []) = stands (x ∷ []) path
  denoted path (p ∷ x ∷ []) = select_denoted path (p ∷ []) (p ∷ x ∷ []) x
  denoted path _ = no_name

  abbrev pub name_faults : List ℕ → Parts → List Fault
  name_faults path (x ∷ []) = sight_faults (w.sees (x ∷ []) path) path
  name_faults path (p ∷ x ∷ []) = select_faults path (p ∷ []) (p ∷ x ∷ []) x
  name_faults path _ = []

  -- ---- marks

  -- a name that must be of a type or subtype: what it stands for
  abbrev pub marked : List ℕ → Parts → Named
  marked path (x ∷ []) = stands (x ∷ []) path
  marked path (p ∷ x ∷ []) = stands (p ∷ x ∷ []) path
  marked path _ = no_name

  -- a name that stands alone, or after a package's
  abbrev pub own_mark_faults : List ℕ → Parts → List Fault
  own_mark_faults path parts = sight_faults (w.sees parts path) path ⊕ asks path ((code.F08, not (is_mark (stands parts path))) ∷ [])

  -- the package's name before a dot
  unfoldable pub package_faults : List ℕ → Parts → List Fault
  package_faults path parts = sight_faults (w.sees parts path) path ⊕ asks path ((code.F08, not (is_unkept (stands parts path))) ∷ [])

  abbrev pub select_mark_faults : List ℕ → Parts → Parts → List Fault
  select_mark_faults path prefix parts = package_faults (path ▸ 0) prefix ⊕ own_mark_faults path parts

  abbrev pub mark_faults : List ℕ → Parts → List Fault
  mark_faults path (x ∷ []) = own_mark_faults path (x ∷ [])
  mark_faults path (p ∷ x ∷ []) = select_mark_faults path (p ∷ []) (p ∷ x ∷ [])
  mark_faults path _ = asks path ((code.F08, true) ∷ [])

  -- ---- expressions

  -- what an expression means
  abbrev pub meaning : List ℕ → Expr → Meaning
  meaning path (int digits) = literal digits
  meaning path (name parts) = meant (denoted path parts)
  meaning path (unary o a) = unary_meaning o (meaning (path ▸ 0) a)
  meaning path (binary o a b) = binary_meaning o (meaning (path ▸ 0) a) (meaning (path ▸ 1) b)
  meaning path (attribute parts text) = attribute_meaning text (denoted (path ▸ 0) parts)
  meaning path (applied parts text a) = applied_meaning text (denoted (path ▸ 0 ▸ 0) parts) (meaning (path ▸ 1 ▸ 0) a)
  meaning path (component a text) = selected_meaning (selected_of w.entities (meaning (path ▸ 0) a).base text)
  meaning path other = unknown

  -- what is asked of an expression at its node, once its parts have no fault: by its kind
  abbrev pub own_rows : List ℕ → Expr → Rows
  own_rows path (int digits) = []
  own_rows path (name parts) = name_rows (denoted path parts)
  own_rows path (unary o a) = unary_rows o (meaning (path ▸ 0) a)
  own_rows path (binary o a b) = binary_rows o (meaning (path ▸ 0) a) (meaning (path ▸ 1) b)
  own_rows path (attribute parts text) = attribute_rows text (denoted (path ▸ 0) parts)
  own_rows path (applied parts text a) = applied_rows text (denoted (path ▸ 0 ▸ 0) parts) (meaning (path ▸ 1 ▸ 0) a)
  own_rows path (component a text) = selected_rows (selected_of w.entities (meaning (path ▸ 0) a).base text)
  own_rows path other = []

  -- by its kind, and then by its use
  abbrev pub at_node : Use → List ℕ → Expr → List Fault
  at_node u path e = asks path (own_rows path e ++ use_rows u (meaning path e))

  -- those of what stands before an argument: the name, and then the attribute
  unfoldable pub prefix_faults : List ℕ → Parts → List ℕ → List Fault
  prefix_faults path parts text = name_faults (path ▸ 0 ▸ 0) parts ⊕ asks (path ▸ 0) (prefix_rows text (denoted (path ▸ 0 ▸ 0) parts))

  -- the faults of an expression that is used so: those of its parts from left to right, and its own
  abbrev pub faults : Use → List ℕ → Expr → List Fault
  faults u path (int digits) = at_node u path (int digits)
  faults u path (name parts) = name_faults path parts ⊕ at_node u path (name parts)
  faults u path (unary o a) = faults use_of.Read (path ▸ 0) a ⊕ at_node u path (unary o a)
  faults u path (binary o a b) = faults use_of.Read (path ▸ 0) a ⊕ faults use_of.Read (path ▸ 1) b ⊕ at_node u path (binary o a b)
  faults u path (attribute parts text) = name_faults (path ▸ 0) parts ⊕ at_node u path (attribute parts text)
  faults u path (applied parts text a) =
      prefix_faults path parts text ⊕ faults use_of.Read (path ▸ 1 ▸ 0) a ⊕ at_node u path (applied parts text a)
  faults u path (component a text) = faults use_of.Read (path ▸ 0) a ⊕ at_node u path (component a text)
  faults u path other = at_node u path other
