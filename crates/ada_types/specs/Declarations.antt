-- Declarations: what each adds, and which faults it has, in post-order.
use Rattle.std.specs.Prelude.{ℕ, ℤ, pos, ◌+◌, ◌*◌, sum, nat_lt, int_le, List, [], ◌∷◌, ◌++◌, length, slice_get, nat_eq, Bool, true, false, not, ◌&&◌, Option, Some, None, is_some, if◌then◌else◌}
use Rattle.std.specs.Option.{option_map_or}
use Rattle.std.specs.List.{list_any}
use Rattle.std.specs.Map.{lookup}
use Rattle.indexmap.specs.IndexMap.{insert_entry, insert_all}
use Rattle.base_kit.specs.declared.fault.Fault.{Fault}
use Rattle.base_kit.specs.declared.fault.Code.TheVariants as code
use Rattle.ada_tree.specs.declared.kind.Kind.{Kind}
use Rattle.ada_tree.specs.declared.kind.Kind.TheVariants as kind
use Rattle.ada_tree.specs.declared.node.Node.{Node, fold-Node}
use Rattle.ada_tree.specs.Kinds.{is_kind}
use Rattle.ada_tree.specs.Nodes.{kind_of, text_of, kids_of, node_at}
use Rattle.ada_tree.specs.Sights.{Sight, declared, nothing, two}
use Rattle.ada_names.specs.Places.{◌▸◌}
use Rattle.term_core.specs.declared.sort.Sort.{Sort}
use Rattle.term_core.specs.declared.names.SortEntry.{SortEntry}
use Rattle.term_core.specs.Sorts.{whole}
use Rattle.term_core.specs.Entries.{Fits}
use Rattle.static_values.specs.declared.entity.BaseType.{BaseType}
use Rattle.static_values.specs.declared.entity.Subtype.{Subtype}
use Rattle.static_values.specs.declared.entity.Shape.TheVariants as shape
use Rattle.static_values.specs.declared.entity.Named.{Named}
use Rattle.static_values.specs.declared.entity.Entity.{Entity}
use Rattle.static_values.specs.declared.entity.Entity.TheVariants as entity
use Rattle.static_values.specs.declared.meaning.Meaning.{Meaning}
use Rattle.static_values.specs.declared.meaning.Use.{Use}
use Rattle.static_values.specs.declared.meaning.Use.TheVariants as use_of
use Rattle.type_definitions.specs.declared.definitions.Limits.{Limits}
use Rattle.type_definitions.specs.declared.definitions.Defined.{Defined}
use Rattle.ada_types.specs.declared.declarations.Declares.{Declares}
use Rattle.ada_types.specs.declared.declarations.Declares.TheVariants as declares
use Rattle.ada_types.specs.declared.declarations.Addition.{Addition}
use Rattle.ada_types.specs.declared.declarations.Constrained.{Constrained}
use Rattle.ada_types.specs.declared.declarations.Initial.{Initial}
use Rattle.ada_types.specs.declared.limits.TheConstants.{MOST_HELD}
use Rattle.ada_types.specs.declared.types.Types.{Types}
use Rattle.static_values.specs.Judging.{Rows, asks, ◌⊕◌}
use Rattle.static_values.specs.Syntax.{expr_of}
use Rattle.static_values.specs.Entities.{Declared, World, world, class_named, is_private, is_new}
use Rattle.static_values.specs.Rules.{is_integer, is_discrete, fits, value_of, subtype_of, type_of}
use Rattle.type_definitions.specs.Sizes.{is_too_large, sort_of}
use Rattle.ada_types.specs.SortLists.{entry_of, begun, prefix_from, is_shown, is_packaged}
use Rattle.static_values.specs.Expressions.{meaning, faults, sight_faults}
use Rattle.type_definitions.specs.Definitions.{bounds_faults, bounds_of, mark_in, mark_in_faults, definition_faults, definition_in, members_of, defined_sort, part_names, nodes_by, depth_by}

abbrev pub no_types : Types
no_types = record { entities = []; names = [] }

-- ---- numbers

-- the place after a declaration, from which its names are seen
abbrev pub beside : List ℕ → List ℕ
beside [] = []
beside (n ∷ []) = (n + 1) ∷ []
beside (n ∷ m ∷ ms) = n ∷ beside (m ∷ ms)

abbrev pub number_in : Sight → ℕ
number_in (declared id) = id.0
number_in nothing = 0
number_in two = 0

-- ---- what is added

abbrev pub added : Declared → Option SortEntry → Addition
added ds e = record { entities = ds; entry = e; completes = None }

abbrev pub with_entry : List SortEntry → Option SortEntry → List SortEntry
with_entry names None = names
with_entry names (Some e) = names ++ e ∷ []

-- the entry fits at the end of the list
abbrev pub MayStand : List SortEntry → Option SortEntry → Type 0
MayStand names None = Unit {0}
MayStand names (Some e) = Fits (length names) e

-- ---- subtypes of a private type before its full type

-- the entry that it has, where it is one of the private type of this number
abbrev pub waiting_entry : ℕ → Entity → Option ℕ
waiting_entry id (entity.PrivateSubtype b number) = if nat_eq b id then Some number else None
waiting_entry id _ = None

-- their entries
abbrev pub waiting : ℕ → Declared → List ℕ
waiting id [] = []
waiting id (d ∷ ds) = option_map_or (λ number. number ∷ waiting id ds) (waiting_entry id d.1) (waiting id ds)

-- The entry of such a subtype, once the full type has its own: it has that sort.
abbrev pub completed : SortEntry → SortEntry → SortEntry
completed full e = entry_of e.name full.sort false [] full.base

abbrev pub settled_entry : SortEntry → Bool → SortEntry → SortEntry
settled_entry full waits e = if waits then completed full e else e

-- the entries from this number on, of which these are completed
abbrev pub settled : SortEntry → List ℕ → ℕ → List SortEntry → List SortEntry
settled full ns number [] = []
settled full ns number (e ∷ es) = settled_entry full (list_any (nat_eq number) ns) e ∷ settled full ns (number + 1) es

abbrev pub settled_by : Option SortEntry → List ℕ → List SortEntry → List SortEntry
settled_by None ns names = names
settled_by (Some full) ns names = settled full ns 0 names

-- where some wait
abbrev pub after_waiting : Option SortEntry → List ℕ → List SortEntry → List SortEntry
after_waiting e [] names = names
after_waiting e (n ∷ ns) names = settled_by e (n ∷ ns) names

-- those that wait for the full type that is added, if one is
abbrev pub waiting_for : Option ℕ → Declared → List ℕ
waiting_for None es = []
waiting_for (Some id) es = waiting id es

-- the list that an entry is added to
abbrev pub names_before : Declared → Addition → List SortEntry → List SortEntry
names_before es a names = after_waiting a.entry (waiting_for a.completes es) names

-- ---- the types with what a declaration adds

abbrev pub are_new : Declared → Declared → Bool
are_new es [] = true
are_new es (d ∷ ds) = is_new es d.0 d.1 && are_new es ds

-- Of a name that is declared twice the first declaration counts: one whose numbers are taken adds nothing that is kept.
abbrev pub only_new : Declared → Declared → Declared
only_new es ds = if are_new es ds then ds else []

-- entities, and an entry more or none
abbrev pub with_added : Types → Addition → Types
with_added t a = record {
  entities = insert_all nat_eq t.entities (only_new t.entities a.entities);
  names = with_entry (names_before t.entities a (begun t.names)) a.entry;
}

-- what each of the names of a declaration declares, by its place among them
abbrev pub entity_by : Declares → ℕ → Entity
entity_by (declares.Object s) i = entity.Object s
entity_by (declares.PrivateObject id) i = entity.PrivateObject id
entity_by (declares.Static s v) i = entity.Static s v
entity_by (declares.Number v) i = entity.Number v
entity_by declares.Exception i = entity.Exception
entity_by (declares.Literal s) i = entity.Static s (pos i)

-- a type, its literals and its entry, and the private type that it completes
abbrev pub type_with : SortEntry → Declared → Option ℕ → Addition
type_with e ds completes = record { entities = ds; entry = Some e; completes = completes }

-- the number of a subtype's type in the list of type names
abbrev pub base_at : List SortEntry → ℕ → ℕ
base_at names entry = option_map_or (λ e. e.base) (slice_get names entry) 0

-- the literals of an enumeration
abbrev pub literals_of : Node → List Node
literals_of node = by (kind_of node)
  where
    by : Kind → List Node
    by kind.Enum = members_of (kids_of node)
    by _ = []

-- ---- rules of one node

abbrev pub narrowed : Subtype → Limits → Subtype
narrowed s l = record s { low = value_of l.low; high = value_of l.high }

-- within the range of the subtype, and with a number in it
abbrev pub lies_within : Subtype → Limits → Bool
lies_within s l = int_le (value_of l.low) (value_of l.high) && (int_le s.low (value_of l.low) && int_le (value_of l.high) s.high)

abbrev pub bounds_fit : BaseType → Limits → Bool
bounds_fit b l = is_discrete b && (fits l.low.base b && fits l.high.base b)

abbrev pub range_rows : Constrained → Limits → Rows
range_rows c l = (code.F09, not (bounds_fit c.base l)) ∷ (code.F11, not (lies_within c.subtype l)) ∷ []

-- all nodes of a tree
abbrev pub nodes_in : Node → ℕ
nodes_in = fold-Node ℕ (λ layer. 1 + sum layer.kids)

-- Several names hold the initial expression as often as there are names.
abbrev pub is_held_too_often : ℕ → Node → Bool
is_held_too_often times node = nat_lt 1 times && nat_lt MOST_HELD (times * nodes_in node)

abbrev pub value_rows : Initial → Meaning → Node → Rows
value_rows i m node = (code.F09, not (fits m.base i.made.base)) ∷ (code.F11, is_held_too_often i.times node) ∷ []

abbrev pub number_rows : Meaning → Rows
number_rows m = (code.F09, not (is_integer m.base)) ∷ []

abbrev pub size_rows : List SortEntry → Defined → Rows
size_rows names d = (code.F11, is_too_large (nodes_by names d.shape) (depth_by names d.shape)) ∷ []

-- An initial value in a package must be static, or an aggregate, whose parts aren't judged here.
abbrev pub packaged_use : Constrained → Node → Use
packaged_use c v = if is_kind (kind_of v) kind.Aggr then use_of.Read else use_of.Stored c.subtype c.base

unfoldable pub variable_use : Bool → Constrained → Node → Use
variable_use packaged c v = if packaged then packaged_use c v else use_of.Read

unfoldable pub constant_use : Bool → Constrained → Node → Use
constant_use packaged c v = if packaged then packaged_use c v else use_of.Initial c.subtype c.base

-- what is asked of the initial expression of so many names
abbrev pub initial : Use → Constrained → ℕ → Initial
initial u c times = record { usage = u; made = c; times = times }

abbrev pub variable_initial : Bool → Constrained → List Node → Node → Initial
variable_initial packaged c ids v = initial (variable_use packaged c v) c (length ids)

abbrev pub constant_initial : Bool → Constrained → List Node → Node → Initial
constant_initial packaged c ids v = initial (constant_use packaged c v) c (length ids)

-- a mark, and its type
abbrev pub of_mark : Named → Constrained
of_mark n = record { subtype = subtype_of n; base = type_of n; class = class_named n }

abbrev pub object_by : Constrained → Declares
object_by c = if is_private c.class then declares.PrivateObject c.subtype.base else declares.Object c.subtype

abbrev pub constant_by : Constrained → Option ℤ → Declares
constant_by c (Some v) = declares.Static c.subtype v
constant_by c None = object_by c

-- a private type before its full type, of this number
abbrev pub private_type : ℕ → Entity
private_type id = entity.Type (record { base = id; entry = 0; low = pos 0; high = pos 0 }) shape.Private

-- a subtype with this entry
abbrev pub subtype_by : Constrained → ℕ → Entity
subtype_by c number = if is_private c.class then entity.PrivateSubtype c.subtype.base number else entity.Subtype (record c.subtype { entry = number })

-- the private type that the full type of this number completes, if it does
abbrev pub is_private_kept : Option Entity → Bool
is_private_kept (Some (entity.Type s shape.Private)) = true
is_private_kept _ = false

abbrev pub private_of : Declared → ℕ → Option ℕ
private_of es id = if is_private_kept (lookup (nat_eq id) es) then Some id else None

-- ---- whole declarations

-- the subtype of all values of a type, by its number and its entry
abbrev pub first_subtype : ℕ → ℕ → Defined → Subtype
first_subtype id number made = record { base = id; entry = number; low = made.low; high = made.high }

-- the sort of a subtype, and its type's entry; those of a private type it gets with the full type
module _ (names : List SortEntry) where
  abbrev pub subtype_sort : Constrained → Sort
  subtype_sort c = if is_private c.class then whole else sort_of names c.subtype

  abbrev pub subtype_base : Constrained → ℕ
  subtype_base c = if is_private c.class then length names else base_at names c.subtype.entry

module _ (names : List SortEntry) (doc : Node) where
  -- a subtype's entry is that of its type, with its own name and range; traits don't see it
  abbrev pub subtype_entry : List ℕ → List ℕ → Constrained → SortEntry
  subtype_entry path text c = entry_of (prefix_from path doc ++ text) (subtype_sort names c) false [] (subtype_base names c)

  abbrev pub subtype_with : List ℕ → List ℕ → Constrained → ℕ → Addition
  subtype_with path text c id = added ((id, subtype_by c (length names)) ∷ []) (Some (subtype_entry path text c))

  abbrev pub type_entry : List ℕ → List ℕ → Defined → SortEntry
  type_entry path text made = entry_of (prefix_from path doc ++ text) (defined_sort names made (length names)) (is_shown doc path) (part_names made.shape) (length names)

-- with one more, if its number isn't there
abbrev pub and_first : Declared → ℕ → Entity → Declared
and_first es id e = if is_some (lookup (nat_eq id) es) then es else insert_entry nat_eq es id e

module _ (sees : List (List ℕ) → List ℕ → Sight) where
  -- A name that is declared is seen from the place after its declaration, and has the number that it has there.
  abbrev pub number_faults : List ℕ → List ℕ → List Fault
  number_faults after text = sight_faults (sees (text ∷ []) after) after

  abbrev pub number_of_name : List ℕ → List ℕ → ℕ
  number_of_name after text = number_in (sees (text ∷ []) after)

  abbrev pub ids_faults : List ℕ → List Node → List Fault
  ids_faults after [] = []
  ids_faults after (id ∷ ids) = number_faults after (text_of id) ⊕ ids_faults after ids

  -- After some entities, each name with what it declares, from this place among them on. Of equal names the first counts.
  abbrev pub declared_ids : List ℕ → Declares → ℕ → Declared → List Node → Declared
  declared_ids after d i es [] = es
  declared_ids after d i es (id ∷ ids) = declared_ids after d (i + 1) (and_first es (number_of_name after (text_of id)) (entity_by d i)) ids

  -- what the names of a declaration declare, and no entry
  abbrev pub named_as : List ℕ → Declares → List Node → Addition
  named_as path d ids = added (declared_ids (beside path) d 0 [] ids) None

  -- a type with its literals, if it has some
  abbrev pub type_entities : List ℕ → ℕ → ℕ → Defined → List Node → Declared
  type_entities after id number made literals =
      declared_ids after (declares.Literal (first_subtype id number made)) 0 ((id, entity.Type (first_subtype id number made) made.shape) ∷ []) literals

module _ (w : World) where
  -- [Range], where a mark stands before it
  abbrev pub limits_faults : List ℕ → Constrained → List Node → List Fault
  limits_faults path c kids = bounds_faults w path kids ⊕ asks path (range_rows c (bounds_of w path kids))

  abbrev pub range_faults : List ℕ → Constrained → Node → List Fault
  range_faults path c node = by (kind_of node)
    where
      by : Kind → List Fault
      by kind.Range = limits_faults path c (kids_of node)
      by _ = []

  abbrev pub range_in : List ℕ → Subtype → Node → Subtype
  range_in path s node = by (kind_of node)
    where
      by : Kind → Subtype
      by kind.Range = narrowed s (bounds_of w path (kids_of node))
      by _ = s

  -- mark [Range], at two paths
  unfoldable pub ranged_faults : List ℕ → List ℕ → Node → Node → List Fault
  ranged_faults path at m r = mark_in_faults w path m ⊕ range_faults at (of_mark (mark_in w path m)) r

  -- the subtype that they give
  abbrev pub ranged : List ℕ → List ℕ → Node → Node → Subtype
  ranged path at m r = range_in at (subtype_of (mark_in w path m)) r

  -- with its type
  abbrev pub ranged_with : List ℕ → List ℕ → Node → Node → Constrained
  ranged_with path at m r = record (of_mark (mark_in w path m)) { subtype = ranged path at m r }

  -- [":=" expr], the fourth part of a declaration
  abbrev pub has_value : Node → Bool
  has_value node = not (is_kind (kind_of node) kind.None)

  abbrev pub value_in : List ℕ → Node → Option ℤ
  value_in path node = if has_value node then (meaning w (path ▸ 3) (expr_of node)).value else None

  abbrev pub value_faults : Initial → List ℕ → Node → List Fault
  value_faults i path node =
      if has_value node then faults w i.usage (path ▸ 3) (expr_of node) ⊕ asks path (value_rows i (meaning w (path ▸ 3) (expr_of node)) node) else []

  -- the mark and the range of an object
  abbrev pub object_type_faults : List ℕ → Node → Node → List Fault
  object_type_faults path m r = ranged_faults (path ▸ 1) (path ▸ 2) m r

  abbrev pub object_type : List ℕ → Node → Node → Constrained
  object_type path m r = ranged_with (path ▸ 1) (path ▸ 2) m r

  -- Obj = {Id ,} ":" mark [Range] [":=" expr] ";"
  abbrev pub object_faults : Bool → List ℕ → List Node → List Fault
  object_faults packaged path (ids ∷ m ∷ r ∷ v ∷ []) =
      object_type_faults path m r
      ⊕ value_faults (variable_initial packaged (object_type path m r) (kids_of ids) v) path v
      ⊕ ids_faults w.sees (beside path) (kids_of ids)
  object_faults packaged path _ = []

  abbrev pub object_in : List ℕ → List Node → Addition
  object_in path (ids ∷ m ∷ r ∷ v ∷ []) = named_as w.sees path (object_by (object_type path m r)) (kids_of ids)
  object_in path _ = added [] None

  -- Const = {Id ,} ":" "constant" mark [Range] ":=" expr ";"
  abbrev pub constant_faults : Bool → List ℕ → List Node → List Fault
  constant_faults packaged path (ids ∷ m ∷ r ∷ v ∷ []) =
      object_type_faults path m r
      ⊕ value_faults (constant_initial packaged (object_type path m r) (kids_of ids) v) path v
      ⊕ ids_faults w.sees (beside path) (kids_of ids)
  constant_faults packaged path _ = []

  abbrev pub constant_in : List ℕ → List Node → Addition
  constant_in path (ids ∷ m ∷ r ∷ v ∷ []) =
      named_as w.sees path (constant_by (object_type path m r) (value_in path v)) (kids_of ids)
  constant_in path _ = added [] None

  -- Num = {Id ,} ":" "constant" ":=" expr ";"
  abbrev pub named_number_faults : List ℕ → List Node → List Fault
  named_number_faults path (ids ∷ v ∷ []) =
      faults w use_of.Static (path ▸ 1) (expr_of v) ⊕ asks path (number_rows (meaning w (path ▸ 1) (expr_of v))) ⊕ ids_faults w.sees (beside path) (kids_of ids)
  named_number_faults path _ = []

  abbrev pub named_number_in : List ℕ → List Node → Addition
  named_number_in path (ids ∷ v ∷ []) = named_as w.sees path (declares.Number (value_of (meaning w (path ▸ 1) (expr_of v)))) (kids_of ids)
  named_number_in path _ = added [] None

  -- Exc = {Id ,} ":" "exception" ";"
  abbrev pub exception_faults : List ℕ → List Node → List Fault
  exception_faults path (ids ∷ []) = ids_faults w.sees (beside path) (kids_of ids)
  exception_faults path _ = []

  abbrev pub exception_in : List ℕ → List Node → Addition
  exception_in path (ids ∷ []) = named_as w.sees path declares.Exception (kids_of ids)
  exception_in path _ = added [] None

  -- Formal = {Id ,} ":" <mode> mark
  abbrev pub formal_faults : List ℕ → List Node → List Fault
  formal_faults path (ids ∷ m ∷ []) = mark_in_faults w (path ▸ 1) m ⊕ ids_faults w.sees (beside path) (kids_of ids)
  formal_faults path _ = []

  abbrev pub formal_in : List ℕ → List Node → Addition
  formal_in path (ids ∷ m ∷ []) = named_as w.sees path (object_by (of_mark (mark_in w (path ▸ 1) m))) (kids_of ids)
  formal_in path _ = added [] None

  -- Subtype = "subtype" <id> "is" mark [Range] ";"
  abbrev pub subtype_faults : List ℕ → List ℕ → List Node → List Fault
  subtype_faults path text (m ∷ r ∷ []) = ranged_faults (path ▸ 0) (path ▸ 1) m r ⊕ number_faults w.sees (beside path) text
  subtype_faults path text _ = []

  -- Private = "type" <id> "is" "private" ";" [Based]
  abbrev pub private_faults : List ℕ → List ℕ → List Fault
  private_faults path text = number_faults w.sees (beside path) text

  abbrev pub private_in : List ℕ → List ℕ → Addition
  private_in path text =
      added ((number_of_name w.sees (beside path) text, private_type (number_of_name w.sees (beside path) text)) ∷ []) None

  -- the faults of a definition, and of its size
  unfoldable pub sized_faults : List SortEntry → List ℕ → Node → List Fault
  sized_faults names path d = definition_faults w (path ▸ 0) d ⊕ asks path (size_rows names (definition_in w (path ▸ 0) d))

  module _ (names : List SortEntry) (doc : Node) where
    abbrev pub subtype_in : List ℕ → List ℕ → List Node → Addition
    subtype_in path text (m ∷ r ∷ []) = subtype_with names doc path text (ranged_with (path ▸ 0) (path ▸ 1) m r) (number_of_name w.sees (beside path) text)
    subtype_in path text _ = added [] None

    -- Type = "type" <id> "is" tdef ";"
    abbrev pub type_faults : List ℕ → List ℕ → List Node → List Fault
    type_faults path text (d ∷ []) = sized_faults names path d ⊕ number_faults w.sees (beside path) text ⊕ ids_faults w.sees (beside path) (literals_of d)
    type_faults path text _ = []

    abbrev pub type_in : List ℕ → List ℕ → List Node → Addition
    type_in path text (d ∷ []) =
        type_with (type_entry names doc path text (definition_in w (path ▸ 0) d))
        (type_entities w.sees (beside path) (number_of_name w.sees (beside path) text) (length names) (definition_in w (path ▸ 0) d) (literals_of d))
        (private_of w.entities (number_of_name w.sees (beside path) text))
    type_in path text _ = added [] None

    -- ---- every declaration

    -- Other declarations add nothing here, and nothing is asked of them.
    abbrev pub faults_of : List ℕ → Kind → List ℕ → List Node → List Fault
    faults_of path kind.TypeDecl text kids = type_faults path text kids
    faults_of path kind.Private text kids = private_faults path text
    faults_of path kind.Subtype text kids = subtype_faults path text kids
    faults_of path kind.Obj text kids = object_faults (is_packaged doc path) path kids
    faults_of path kind.Const text kids = constant_faults (is_packaged doc path) path kids
    faults_of path kind.Formal text kids = formal_faults path kids
    faults_of path kind.Num text kids = named_number_faults path kids
    faults_of path kind.Exc text kids = exception_faults path kids
    faults_of path _ text kids = []

    abbrev pub addition_of : List ℕ → Kind → List ℕ → List Node → Addition
    addition_of path kind.TypeDecl text kids = type_in path text kids
    addition_of path kind.Private text kids = private_in path text
    addition_of path kind.Subtype text kids = subtype_in path text kids
    addition_of path kind.Obj text kids = object_in path kids
    addition_of path kind.Const text kids = constant_in path kids
    addition_of path kind.Formal text kids = formal_in path kids
    addition_of path kind.Num text kids = named_number_in path kids
    addition_of path kind.Exc text kids = exception_in path kids
    addition_of path _ text kids = added [] None

    abbrev pub node_faults : List ℕ → Option Node → List Fault
    node_faults path (Some node) = faults_of path (kind_of node) (text_of node) (kids_of node)
    node_faults path None = asks path ((code.F08, true) ∷ [])

    abbrev pub node_addition : List ℕ → Option Node → Addition
    node_addition path (Some node) = addition_of path (kind_of node) (text_of node) (kids_of node)
    node_addition path None = added [] None

module _ (sees : List (List ℕ) → List ℕ → Sight) (t : Types) (doc : Node) (path : List ℕ) where
  -- the faults of the declaration at a path
  abbrev pub decl_faults : List Fault
  decl_faults = node_faults (world sees t.entities) (begun t.names) doc path (node_at path doc)

  -- the types with what it adds
  abbrev pub decl_after : Types
  decl_after = with_added t (node_addition (world sees t.entities) (begun t.names) doc path (node_at path doc))
