-- The list of type names.
use Rattle.std.specs.Prelude.{ℕ, pos, ◌-◌, List, [], ◌∷◌, ◌++◌, codes, length, take, Bool, false, nat_eq, ◌&&◌, ◌||◌, Option, Some, None, slice_get}
use Rattle.std.specs.Option.{option_map_or}
use Rattle.base_kit.specs.Bytes.{dot}
use Rattle.ada_tree.specs.declared.kind.Kind.{Kind}
use Rattle.ada_tree.specs.declared.kind.Kind.TheVariants as kind
use Rattle.ada_tree.specs.declared.node.Node.{Node}
use Rattle.ada_tree.specs.Kinds.{is_kind}
use Rattle.ada_tree.specs.Nodes.{kind_of, text_of, kids_of, node_at}
use Rattle.term_core.specs.declared.sort.Sort.{Sort}
use Rattle.term_core.specs.declared.sort.Sort.TheOpen.{Sort-F}
use Rattle.term_core.specs.declared.sort.Sort.TheViews.{out-Sort}
use Rattle.term_core.specs.declared.names.SortEntry.{SortEntry}
use Rattle.term_core.specs.Terms.{range}
use Rattle.term_core.specs.Sorts.{truths}
use Rattle.static_values.specs.declared.limits.TheConstants.{BASE_LOW, BASE_HIGH}

abbrev pub entry_of : List ℕ → Sort → Bool → List (List ℕ) → ℕ → SortEntry
entry_of name sort shown parts number = record { name = name; sort = sort; seen = shown; parts = parts; base = number }

abbrev pub predefined_entry : List ℕ → Sort → ℕ → SortEntry
predefined_entry name sort number = entry_of name sort false [] number

-- the predefined types and subtypes: traits don't see them
abbrev pub predefined_entries : List SortEntry
predefined_entries =
    predefined_entry (codes "INTEGER") (range BASE_LOW BASE_HIGH) 0
    ∷ predefined_entry (codes "NATURAL") (range (pos 0) BASE_HIGH) 0
    ∷ predefined_entry (codes "POSITIVE") (range (pos 1) BASE_HIGH) 0
    ∷ predefined_entry (codes "BOOLEAN") truths 3
    ∷ []

-- The list begins with them: they come with the first declaration.
abbrev pub begun : List SortEntry → List SortEntry
begun [] = predefined_entries
begun (e ∷ es) = e ∷ es

-- what they are, where the list hasn't begun
abbrev pub fresh_for : List SortEntry → Option (List SortEntry)
fresh_for [] = Some predefined_entries
fresh_for (e ∷ es) = None

-- ---- where an entry may stand

-- the record of this number, with so many parts
abbrev pub is_record : ℕ → ℕ → Sort-F Sort → Bool
is_record number count (Sort-F.Record n parts) = nat_eq n number && nat_eq (length parts) count
is_record number count _ = false

-- an entry with names of components is that of a record with its number
abbrev pub may_stand : ℕ → SortEntry → Bool
may_stand number e = nat_eq (length e.parts) 0 || is_record number (length e.parts) (out-Sort e.sort)

-- ---- expanded names

-- what a node puts before the names that are declared in it: a package or its body its name, a subprogram's body that of its specification
abbrev pub named_in : Option Node → List ℕ
named_in (Some spec) = text_of spec ++ dot ∷ []
named_in None = []

abbrev pub own_prefix : Kind → List ℕ → List Node → List ℕ
own_prefix kind.Pack text kids = text ++ dot ∷ []
own_prefix kind.Body text kids = text ++ dot ∷ []
own_prefix kind.SubBody text kids = named_in (slice_get kids 0)
own_prefix _ text kids = []

-- those of all nodes above a path
abbrev pub prefix_from : List ℕ → Node → List ℕ
prefix_from [] node = []
prefix_from (number ∷ path) node = own_prefix (kind_of node) (text_of node) (kids_of node) ++ option_map_or (λ kid. prefix_from path kid) (slice_get (kids_of node) number) []

-- ---- where a declaration stands

-- a package or its body
abbrev pub holds_packaged : Option Node → Bool
holds_packaged (Some node) = is_kind (kind_of node) kind.Pack || is_kind (kind_of node) kind.Body
holds_packaged None = false

-- one of a list of declarations of a package or its body
abbrev pub is_packaged : Node → List ℕ → Bool
is_packaged doc path = holds_packaged (node_at (take (length path - 2) path) doc)

-- ---- what traits see

abbrev pub is_pack : Option Node → Bool
is_pack (Some node) = is_kind (kind_of node) kind.Pack
is_pack None = false

-- a declaration of a package's visible part
abbrev pub is_shown : Node → List ℕ → Bool
is_shown doc path = by (slice_get path (length path - 2))
  where
    by : Option ℕ → Bool
    by (Some number) = nat_eq number 0 && is_pack (node_at (take (length path - 2) path) doc)
    by None = false
