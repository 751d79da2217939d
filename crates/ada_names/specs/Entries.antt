-- The entries of a document: how they are looked up, which declaration completes which, and their numbers.
use Rattle.std.specs.Prelude.{ℕ, List, count_by, filter, Bool, true, false, not, ◌&&◌, bytes_eq, Option, Some, None, is_some, find, position, nat_eq, if◌then◌else◌}
use denote.Enum.Bare.{sameb}
use Rattle.ada_tree.specs.declared.kind.Kind.{Kind}
use Rattle.ada_tree.specs.declared.kind.Kind.TheVariants as kind
use Rattle.ada_tree.specs.declared.doc.DeclId.{DeclId}
use Rattle.ada_tree.specs.Kinds.{is_kind}
use Rattle.ada_names.specs.declared.entry.Entry.{Entry}
use Rattle.ada_names.specs.declared.entry.Space.{Space}
use Rattle.ada_names.specs.declared.entry.Space.TheVariants as space
use Rattle.ada_names.specs.contracts.entry.Space as space_row
use Rattle.ada_names.specs.Places.{◌▸◌, is_in}

-- ---- looking up

abbrev pub is_space : Space → Space → Bool
is_space a b = sameb space_row.the_type a b

abbrev pub is_of : Space → List ℕ → List ℕ → Entry → Bool
is_of s region name e = is_space e.space s && (bytes_eq e.region region && bytes_eq e.name name)

-- Where a region has a name twice, the first declaration counts.
abbrev pub first_of : List Entry → Space → List ℕ → List ℕ → Option Entry
first_of es s region name = find (is_of s region name) es

abbrev pub is_at : List ℕ → Entry → Bool
is_at place e = not (is_space e.space space.Predefined) && bytes_eq e.place place

-- the entry of the node at a path
abbrev pub entry_at : List Entry → List ℕ → Option Entry
entry_at es place = find (is_at place) es

abbrev pub is_use_in : List ℕ → Entry → Bool
is_use_in region e = is_space e.space space.Uses && bytes_eq e.region region

abbrev pub uses_in : List Entry → List ℕ → List Entry
uses_in es region = filter (is_use_in region) es

-- ---- what has which number

-- the declarations that have numbers; a package body has its package's
abbrev pub is_numbered : Kind → Bool
is_numbered kind.Pack = true
is_numbered kind.SubDecl = true
is_numbered kind.SubBody = true
is_numbered kind.Formal = true
is_numbered kind.Obj = true
is_numbered kind.Const = true
is_numbered kind.Num = true
is_numbered kind.Enum = true
is_numbered kind.Exc = true
is_numbered kind.TypeDecl = true
is_numbered kind.Subtype = true
is_numbered kind.Private = true
is_numbered kind.For = true
is_numbered kind.Reverse = true
is_numbered kind.Op = true
is_numbered _ = false

abbrev pub space_of : Kind → Space
space_of kind.Comp = space.Components
space_of kind.Op = space.Operators
space_of kind.Trait = space.Traits
space_of kind.Lemma = space.Lemmas
space_of kind.With = space.Withs
space_of kind.Use = space.Uses
space_of kind.Global = space.Globals
space_of kind.Raise = space.Raises
space_of kind.Name = space.Places
space_of kind.Select = space.Places
space_of kind.Body = space.Places
space_of kind.In = space.Places
space_of kind.Out = space.Places
space_of kind.RaiseC = space.Places
space_of kind.Invariant = space.Places
space_of kind.Assert = space.Places
space_of kind.Old = space.Places
space_of kind.Eqn = space.Places
space_of kind.Where = space.Places
space_of _ = space.Names

-- A body completes an earlier declaration of its name, and a type of a package's private part a private one.
abbrev pub completes : Kind → Kind → List ℕ → List ℕ → Bool
completes kind.Pack kind.Body region place = true
completes kind.SubDecl kind.SubBody region place = true
completes kind.Private kind.TypeDecl region place = is_in (region ▸ 1) place
completes _ _ region place = false

-- the earlier declaration that a declaration completes
abbrev pub completed : List Entry → Kind → List ℕ → List ℕ → List ℕ → Option Entry
completed es k name region place = by (first_of es space.Names region name)
  where
    by : Option Entry → Option Entry
    by (Some e) = if completes e.kind k region place then Some e else None
    by None = None

-- it has a number of its own
abbrev pub is_own : Entry → Bool
is_own e = is_some e.number && not (is_space e.space space.Completions)

-- Numbers are given in order, from 0.
abbrev pub next_number : List Entry → DeclId
next_number es = record { 0 = count_by is_own es }

abbrev pub entry_as : Space → Kind → List ℕ → List ℕ → List ℕ → List ℕ → List ℕ → List ℕ → Option DeclId → Entry
entry_as s k name place origin region from within number =
    record { space = s; kind = k; name = name; place = place; origin = origin; region = region; from = from; within = within; number = number }

-- the entry of a name, after those of all before it
abbrev pub entry : List Entry → Kind → List ℕ → List ℕ → List ℕ → List ℕ → List ℕ → Entry
entry es k name place region from within = by (completed es k name region place)
  where
    by : Option Entry → Entry
    by (Some e) = entry_as space.Completions k name place e.origin region from within e.number
    by None = entry_as (space_of k) k name place place region from within (if is_numbered k then Some (next_number es) else None)

abbrev pub has_number : DeclId → Entry → Bool
has_number id e = by e.number
  where
    by : Option DeclId → Bool
    by (Some n) = nat_eq n.0 id.0
    by None = false

-- ---- exceptions

abbrev pub is_exception : Entry → Bool
is_exception e = is_kind e.kind kind.Exc

-- Exceptions are numbered among themselves too, in the same order, from 0.
abbrev pub exception_number : List Entry → DeclId → Option ℕ
exception_number es id = position (has_number id) (filter is_exception es)
