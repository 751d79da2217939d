-- Type definitions: what each defines, and which faults it has, in post-order.
use Rattle.std.specs.Prelude.{ℕ, ℤ, pos, ◌+◌, ◌-ℤ◌, int_le, List, [], ◌∷◌, ◌++◌, map, sum, length, Bool, true, not, ◌&&◌, if◌then◌else◌}
use Rattle.base_kit.specs.declared.fault.Fault.{Fault}
use Rattle.base_kit.specs.declared.fault.Code.TheVariants as code
use Rattle.ada_tree.specs.declared.kind.Kind.{Kind}
use Rattle.ada_tree.specs.declared.kind.Kind.TheVariants as kind
use Rattle.ada_tree.specs.declared.node.Node.{Node}
use Rattle.ada_tree.specs.Nodes.{kind_of, text_of, kids_of, is_empty}
use Rattle.ada_tree.specs.Sights.{parts_of}
use Rattle.ada_names.specs.Places.{◌▸◌}
use Rattle.term_core.specs.declared.sort.Sort.{Sort}
use Rattle.term_core.specs.declared.names.SortEntry.{SortEntry}
use Rattle.term_core.specs.Terms.{range, largest}
use Rattle.term_core.specs.Sorts.{whole, truths, array, record_of}
use Rattle.static_values.specs.declared.entity.BaseType.{BaseType}
use Rattle.static_values.specs.declared.entity.Subtype.{Subtype}
use Rattle.static_values.specs.declared.entity.Index.{Index}
use Rattle.static_values.specs.declared.entity.Component.{Component}
use Rattle.static_values.specs.declared.entity.Shape.{Shape}
use Rattle.static_values.specs.declared.entity.Shape.TheVariants as shape
use Rattle.static_values.specs.declared.entity.Named.{Named}
use Rattle.static_values.specs.declared.entity.Named.TheVariants as named
use Rattle.static_values.specs.declared.meaning.Meaning.{Meaning}
use Rattle.static_values.specs.declared.meaning.Use.TheVariants as use_of
use Rattle.type_definitions.specs.declared.definitions.Limits.{Limits}
use Rattle.type_definitions.specs.declared.definitions.Defined.{Defined}
use Rattle.static_values.specs.Judging.{Rows, asks, ◌⊕◌}
use Rattle.static_values.specs.Syntax.{expr_of}
use Rattle.static_values.specs.Entities.{World}
use Rattle.static_values.specs.Rules.{unknown, is_integer, is_discrete, is_universal, integer, agree, joined, value_of, subtype_of, type_of}
use Rattle.type_definitions.specs.Sizes.{nodes_at, depth_at, sort_of}
use Rattle.static_values.specs.Expressions.{meaning, faults, marked, mark_faults}

-- ---- rules of one node

abbrev pub limits : Meaning → Meaning → Limits
limits a b = record { low = a; high = b }

-- a range without a number in it
abbrev pub is_null : Limits → Bool
is_null l = not (int_le (value_of l.low) (value_of l.high))

-- the bounds of an integer type are of integer types, not necessarily of one
abbrev pub integer_rows : Limits → Rows
integer_rows l = (code.F09, not (is_integer l.low.base && is_integer l.high.base)) ∷ (code.F11, is_null l) ∷ []

-- two bounds that fit each other are one choice, whose type the array asks for
abbrev pub span_rows : Limits → Rows
span_rows l = (code.F09, not (agree l.low.base l.high.base)) ∷ (code.F11, is_null l) ∷ []

-- the type of the choice; where nothing decides it is INTEGER
abbrev pub or_integer : BaseType → BaseType
or_integer b = if is_universal b then integer else b

abbrev pub span_index : Limits → Index
span_index l = record { base = or_integer (joined l.low.base l.high.base); low = value_of l.low; high = value_of l.high }

abbrev pub mark_index : Named → Index
mark_index n = record { base = type_of n; low = (subtype_of n).low; high = (subtype_of n).high }

-- an index is of an integer or enumeration type other than BOOLEAN
abbrev pub array_rows : Index → Rows
array_rows i = (code.F09, not (is_discrete i.base)) ∷ []

-- ---- what is defined: what the type is made of, and its range where it has one

abbrev pub defined : Shape → ℤ → ℤ → Defined
defined sh low high = record { shape = sh; low = low; high = high }

abbrev pub nothing_defined : Defined
nothing_defined = defined shape.Truth (pos 0) (pos 0)

-- positions of literals are counted from 0
abbrev pub enumeration : ℕ → Defined
enumeration count = defined shape.Enumeration (pos 0) (pos count -ℤ pos 1)

abbrev pub integers : Limits → Defined
integers l = defined shape.Integer (value_of l.low) (value_of l.high)

abbrev pub array_of : Index → Subtype → Defined
array_of i element = defined (shape.Array i element) (pos 0) (pos 0)

abbrev pub record_with : List Component → Defined
record_with cs = defined (shape.Record cs) (pos 0) (pos 0)

-- the names of a record's components
abbrev pub part_names : Shape → List (List ℕ)
part_names (shape.Record cs) = map (λ c. c.name) cs
part_names _ = []

-- a component of each name
abbrev pub components_of : Subtype → List Node → List Component
components_of s ids = map (λ id. record { name = text_of id; subtype = s }) ids

-- ---- whole definitions

-- Enum = "(" {Id ,} ")"
abbrev pub members_of : List Node → List Node
members_of (ids ∷ []) = kids_of ids
members_of _ = []

-- it has a literal, as it has in every document
abbrev pub enumeration_faults : List ℕ → List Node → List Fault
enumeration_faults path kids = asks path ((code.F08, is_empty (members_of kids)) ∷ [])

abbrev pub enumeration_in : List Node → Defined
enumeration_in kids = enumeration (length (members_of kids))

module _ (w : World) where
  -- two bounds, which must be static; a range has two in every document
  abbrev pub bounds_faults : List ℕ → List Node → List Fault
  bounds_faults path (a ∷ b ∷ []) = faults w use_of.Static (path ▸ 0) (expr_of a) ⊕ faults w use_of.Static (path ▸ 1) (expr_of b)
  bounds_faults path _ = asks path ((code.F08, true) ∷ [])

  abbrev pub bounds_of : List ℕ → List Node → Limits
  bounds_of path (a ∷ b ∷ []) = limits (meaning w (path ▸ 0) (expr_of a)) (meaning w (path ▸ 1) (expr_of b))
  bounds_of path _ = limits unknown unknown

  -- Range = "range" expr ".." expr
  abbrev pub integer_faults : List ℕ → List Node → List Fault
  integer_faults path kids = bounds_faults path kids ⊕ asks path (integer_rows (bounds_of path kids))

  -- Span = expr ".." expr
  abbrev pub span_faults : List ℕ → List Node → List Fault
  span_faults path kids = bounds_faults path kids ⊕ asks path (span_rows (bounds_of path kids))

  abbrev pub mark_in : List ℕ → Node → Named
  mark_in path node = marked w path (parts_of node)

  abbrev pub mark_in_faults : List ℕ → Node → List Fault
  mark_in_faults path node = mark_faults w path (parts_of node)

  -- RangeOf = mark "'" "range": it stands in `for` alone
  abbrev pub range_of_faults : List ℕ → List Node → List Fault
  range_of_faults path (m ∷ []) = mark_in_faults (path ▸ 0) m ⊕ asks path ((code.F08, true) ∷ [])
  range_of_faults path _ = asks path ((code.F08, true) ∷ [])

  -- dis = Span | mark | RangeOf, as the index of an array
  abbrev pub index_faults : List ℕ → Node → List Fault
  index_faults path node = by (kind_of node)
    where
      by : Kind → List Fault
      by kind.Span = span_faults path (kids_of node)
      by kind.RangeOf = range_of_faults path (kids_of node)
      by _ = mark_in_faults path node

  abbrev pub index_in : List ℕ → Node → Index
  index_in path node = by (kind_of node)
    where
      by : Kind → Index
      by kind.Span = span_index (bounds_of path (kids_of node))
      by kind.RangeOf = mark_index named.Valueless
      by _ = mark_index (mark_in path node)

  -- Arr = "array" "(" dis ")" "of" mark
  abbrev pub array_faults : List ℕ → List Node → List Fault
  array_faults path (d ∷ m ∷ []) = index_faults (path ▸ 0) d ⊕ mark_in_faults (path ▸ 1) m ⊕ asks path (array_rows (index_in (path ▸ 0) d))
  array_faults path _ = []

  abbrev pub array_in : List ℕ → List Node → Defined
  array_in path (d ∷ m ∷ []) = array_of (index_in (path ▸ 0) d) (subtype_of (mark_in (path ▸ 1) m))
  array_in path _ = nothing_defined

  -- Comp = {Id ,} ":" mark ";"
  abbrev pub component_faults : List ℕ → List Node → List Fault
  component_faults path (ids ∷ m ∷ []) = mark_in_faults (path ▸ 1) m
  component_faults path _ = []

  abbrev pub components_in : List ℕ → List Node → List Component
  components_in path (ids ∷ m ∷ []) = components_of (subtype_of (mark_in (path ▸ 1) m)) (kids_of ids)
  components_in path _ = []

  -- {Comp \n}+, from the member of this number on
  abbrev pub components_faults : List ℕ → ℕ → List Node → List Fault
  components_faults path number [] = []
  components_faults path number (c ∷ cs) = component_faults (path ▸ number) (kids_of c) ⊕ components_faults path (number + 1) cs

  -- The components so far, and then those of the members from this number on.
  abbrev pub more_components : List ℕ → ℕ → List Component → List Node → List Component
  more_components path number cs [] = cs
  more_components path number cs (m ∷ ms) = more_components path (number + 1) (cs ++ components_in (path ▸ number) (kids_of m)) ms

  abbrev pub all_of : List ℕ → List Node → List Component
  all_of path members = more_components path 0 [] members

  -- Rec = "record" {Comp}+ "end" "record"
  abbrev pub record_faults : List ℕ → List Node → List Fault
  record_faults path (cs ∷ []) = components_faults (path ▸ 0) 0 (kids_of cs)
  record_faults path _ = []

  abbrev pub record_in : List ℕ → List Node → Defined
  record_in path (cs ∷ []) = record_with (all_of (path ▸ 0) (kids_of cs))
  record_in path _ = nothing_defined

  -- tdef = Enum | Range | Arr | Rec
  abbrev pub definition_faults : List ℕ → Node → List Fault
  definition_faults path node = by (kind_of node)
    where
      by : Kind → List Fault
      by kind.Enum = enumeration_faults path (kids_of node)
      by kind.Range = integer_faults path (kids_of node)
      by kind.Arr = array_faults path (kids_of node)
      by kind.Rec = record_faults path (kids_of node)
      by _ = []

  abbrev pub definition_in : List ℕ → Node → Defined
  definition_in path node = by (kind_of node)
    where
      by : Kind → Defined
      by kind.Enum = enumeration_in (kids_of node)
      by kind.Range = integers (bounds_of path (kids_of node))
      by kind.Arr = array_in path (kids_of node)
      by kind.Rec = record_in path (kids_of node)
      by _ = nothing_defined

-- ---- its sort

module _ (names : List SortEntry) where
  abbrev pub component_sort : Component → Sort
  component_sort c = sort_of names c.subtype

  -- the sort of a type whose entry has this number
  abbrev pub sort_by : Shape → ℤ → ℤ → ℕ → Sort
  sort_by shape.Integer low high number = range low high
  sort_by shape.Enumeration low high number = range low high
  sort_by shape.Truth low high number = truths
  sort_by (shape.Array i element) low high number = array i.low i.high (sort_of names element)
  sort_by shape.Private low high number = whole
  sort_by (shape.Record components) low high number = record_of number (map component_sort components)

  abbrev pub defined_sort : Defined → ℕ → Sort
  defined_sort d number = sort_by d.shape d.low d.high number

  abbrev pub component_nodes : Component → ℕ
  component_nodes c = nodes_at names c.subtype

  abbrev pub component_depth : Component → ℕ
  component_depth c = depth_at names c.subtype

  -- its nodes and its depth, by arithmetic: each part has as many as its type's entry
  abbrev pub nodes_by : Shape → ℕ
  nodes_by (shape.Array i element) = 1 + nodes_at names element
  nodes_by (shape.Record components) = 1 + sum (map component_nodes components)
  nodes_by _ = 1

  abbrev pub depth_by : Shape → ℕ
  depth_by (shape.Array i element) = 1 + depth_at names element
  depth_by (shape.Record components) = 1 + largest (map component_depth components)
  depth_by _ = 1
