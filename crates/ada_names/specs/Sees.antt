-- What a name sees at a place.
use Rattle.std.specs.Prelude.{ℕ, zero, suc, List, [], ◌∷◌, ◌++◌, take, length, Bool, true, false, not, ◌&&◌, ◌||◌, bytes_eq, Option, Some, None, is_some, is_none, if◌then◌else◌}
use Rattle.std.specs.Option.{option_or}
use Rattle.ada_tree.specs.declared.kind.Kind.{Kind}
use Rattle.ada_tree.specs.declared.kind.Kind.TheVariants as kind
use Rattle.ada_tree.specs.declared.node.Node.{Node}
use Rattle.ada_tree.specs.declared.doc.DeclId.{DeclId}
use Rattle.ada_tree.specs.Kinds.{is_kind}
use Rattle.ada_tree.specs.Sights.{Sight, declared, nothing, two}
use Rattle.ada_names.specs.declared.entry.Entry.{Entry}
use Rattle.ada_names.specs.declared.entry.Space.TheVariants as space
use Rattle.ada_names.specs.Places.{◌▸◌, has_ended, is_in}
use Rattle.ada_names.specs.Entries.{first_of, entry_at, uses_in}
use Rattle.ada_names.specs.Collecting.{entries_of}

abbrev pub only : (Entry → Bool) → Option Entry → Option Entry
only test (Some e) = if test e then Some e else None
only test None = None

-- ---- visibility

-- A declaration is visible from its end on, a package's name from its `is`.
abbrev pub is_visible : List ℕ → Entry → Bool
is_visible place e = has_ended e.from place || (is_kind e.kind kind.Pack && is_in e.place place)

-- A region begins at a node round the place. A package's body goes on with its package's region.
abbrev pub region_of : List Entry → List ℕ → List ℕ
region_of es front = by (entry_at es front)
  where
    by : Option Entry → List ℕ
    by (Some e) = if is_kind e.kind kind.Body then e.origin else front
    by None = front

abbrev pub in_region : List Entry → List ℕ → List ℕ → List ℕ → Option Entry
in_region es place name region = only (is_visible place) (first_of es space.Names region name)

-- ---- library units

-- the unit of a place: its file, and its number there
abbrev pub unit_of : List ℕ → List ℕ
unit_of place = take 2 place

-- what a unit declares or completes: a package, a body, or else a subprogram by its specification
abbrev pub library_entry : List Entry → List ℕ → Option Entry
library_entry es unit = option_or (entry_at es (unit ▸ 1)) (entry_at es (unit ▸ 1 ▸ 0))

-- the unit where the declaration stands that a unit is the body of, else the unit itself
abbrev pub declaration_unit : List Entry → List ℕ → List ℕ
declaration_unit es unit = by (library_entry es unit)
  where
    by : Option Entry → List ℕ
    by (Some e) = unit_of e.origin
    by None = unit

-- it is that unit's own declaration, or a `with` clause of that unit names it
abbrev pub is_known_in : List Entry → Entry → List ℕ → Bool
is_known_in es e unit = bytes_eq (unit_of e.place) unit || is_some (first_of es space.Withs unit e.name)

-- A body has its declaration's context clauses too.
abbrev pub is_in_context : List Entry → List ℕ → Entry → Bool
is_in_context es place e = is_known_in es e (unit_of place) || is_known_in es e (declaration_unit es (unit_of place))

abbrev pub library_unit : List Entry → List ℕ → List ℕ → Option Entry
library_unit es place name = only (λ e. is_visible place e && is_in_context es place e) (first_of es space.Names [] name)

-- what a `with` clause names: a library unit whose declaration stands earlier
abbrev pub earlier_unit : List Entry → List ℕ → List ℕ → Option Entry
earlier_unit es place name = only (λ e. has_ended e.from place) (first_of es space.Names [] name)

-- ---- direct visibility

abbrev pub is_entry_of : Kind → Option Entry → Bool
is_entry_of k (Some e) = is_kind e.kind k
is_entry_of k None = false

abbrev pub is_in_trait : List Entry → List ℕ → Bool
is_in_trait es place = is_entry_of kind.Trait (entry_at es (unit_of place))

-- The predefined names are declared round everything. In a trait TRUE and FALSE alone are seen.
abbrev pub predefined_name : List Entry → List ℕ → List ℕ → Option Entry
predefined_name es place name = only (λ e. not (is_in_trait es place) || is_kind e.kind kind.Enum) (first_of es space.Predefined [] name)

-- The innermost region round the place that has a visible declaration of the name gives it: the nodes above the place, from inside, then the library units, then the predefined names.
abbrev pub seen_from : List Entry → List ℕ → List ℕ → ℕ → Option Entry
seen_from es place name zero = option_or (library_unit es place name) (predefined_name es place name)
seen_from es place name (suc n) = option_or (in_region es place name (region_of es (take (suc n) place))) (seen_from es place name n)

abbrev pub directly : List Entry → List ℕ → List ℕ → Option Entry
directly es place name = seen_from es place name (length place)

-- ---- used packages

-- what a package shows: the declaration in its visible part, where that has ended
abbrev pub shown : List Entry → List ℕ → List ℕ → Entry → Option Entry
shown es place name pack = only (λ e. is_in (pack.place ▸ 0) e.place && has_ended e.from place) (first_of es space.Names pack.place name)

-- the package that a `use` clause names, seen at the clause
abbrev pub used_package : List Entry → Entry → Option Entry
used_package es clause = only (λ e. is_kind e.kind kind.Pack) (directly es clause.place clause.name)

-- what a `use` clause before the place shows
abbrev pub shown_by : List Entry → List ℕ → List ℕ → Entry → Option Entry
shown_by es place name clause = by (used_package es clause)
  where
    by : Option Entry → Option Entry
    by (Some pack) = if has_ended clause.from place then shown es place name pack else None
    by None = None

-- the `use` clauses of the regions round the place, from inside, and of the unit of the declaration
abbrev pub uses_from : List Entry → List ℕ → ℕ → List Entry
uses_from es place zero = uses_in es (declaration_unit es (unit_of place))
uses_from es place (suc n) = uses_in es (region_of es (take (suc n) place)) ++ uses_from es place n

-- what a name is found to be
pub data Found : Type 0 where
  unseen : Found
  one : Entry → Found
  several : Found

-- one more that shows the name: the same declaration, or another one
abbrev pub joined : Found → Option Entry → Found
joined found None = found
joined unseen (Some e) = one e
joined (one d) (Some e) = if bytes_eq d.place e.place then one d else several
joined several (Some e) = several

abbrev pub shown_by_all : List Entry → List ℕ → List ℕ → Found → List Entry → Found
shown_by_all es place name found [] = found
shown_by_all es place name found (clause ∷ clauses) = shown_by_all es place name (joined found (shown_by es place name clause)) clauses

-- what exactly one of the used packages shows
abbrev pub by_use : List Entry → List ℕ → List ℕ → Found
by_use es place name = shown_by_all es place name unseen (uses_from es place (length place))

-- the entry, and where there is none what else is found
abbrev pub or_else : Option Entry → Found → Found
or_else (Some e) found = one e
or_else None found = found

-- A direct declaration hides what `use` shows. A name in a `with` clause sees earlier library units alone.
abbrev pub plainly : List Entry → List ℕ → List ℕ → Found
plainly es place name =
    if is_entry_of kind.With (entry_at es place) then or_else (earlier_unit es place name) unseen else or_else (directly es place name) (by_use es place name)

-- ---- terms of annotations

-- The parts of an annotation that are terms: a raise clause begins with a mark, a view with a type's name, and a mark follows the `in` of an entry value.
abbrev pub begins_term : List ℕ → Entry → Option Bool
begins_term place e = by e.kind
  where
    by : Kind → Option Bool
    by kind.In = Some true
    by kind.Out = Some true
    by kind.Invariant = Some true
    by kind.Assert = Some true
    by kind.Eqn = Some true
    by kind.Lemma = Some true
    by kind.RaiseC = Some (not (is_in (e.place ▸ 0) place))
    by kind.View = Some (not (is_in (e.place ▸ 0) place))
    by kind.Old = Some false
    by _ = None

abbrev pub term_at : List ℕ → Option Entry → Option Bool
term_at place (Some e) = begins_term place e
term_at place None = None

abbrev pub or_further : Option Bool → Bool → Bool
or_further (Some b) further = b
or_further None further = further

-- the innermost node round the place that tells
abbrev pub in_term_from : List Entry → List ℕ → ℕ → Bool
in_term_from es place zero = false
in_term_from es place (suc n) = or_further (term_at place (entry_at es (take (suc n) place))) (in_term_from es place n)

abbrev pub is_in_term : List Entry → List ℕ → Bool
is_in_term es place = in_term_from es place (length place)

-- variables, constants, numbers, enumeration literals, formals and loop parameters
abbrev pub is_value : Kind → Bool
is_value kind.Obj = true
is_value kind.Const = true
is_value kind.Num = true
is_value kind.Enum = true
is_value kind.Formal = true
is_value kind.For = true
is_value kind.Reverse = true
is_value _ = false

-- the operator of a trait that stands earlier, or of the trait of the place
abbrev pub operator_named : List Entry → List ℕ → List ℕ → Option Entry
operator_named es place name = only (λ e. has_ended e.from place) (first_of es space.Operators [] name)

-- In a term an object comes first, and then an operator. A bound name, which has no number, hides both.
abbrev pub object_first : Option Entry → Found → Found
object_first operator (one e) = if is_value e.kind || is_none e.number then one e else or_else operator (one e)
object_first operator found = or_else operator found

abbrev pub named : List Entry → List ℕ → List ℕ → Found
named es place name = if is_in_term es place then object_first (operator_named es place name) (plainly es place name) else plainly es place name

-- ---- a name of two parts

-- `P.X`: what the package P shows
abbrev pub selected : List Entry → List ℕ → List ℕ → Found → Found
selected es place name (one e) = if is_kind e.kind kind.Pack then or_else (shown es place name e) unseen else unseen
selected es place name found = found

-- In a trait a mark names a visible type, which isn't private, of a package that stands earlier.
abbrev pub type_shown : List Entry → List ℕ → List ℕ → Option Entry → Found
type_shown es place name (Some pack) = if is_kind pack.kind kind.Pack then or_else (only (λ e. is_kind e.kind kind.TypeDecl) (shown es place name pack)) unseen else unseen
type_shown es place name None = unseen

abbrev pub selected_in_trait : List Entry → List ℕ → List ℕ → List ℕ → Found → Found
selected_in_trait es place prefix name unseen = type_shown es place name (earlier_unit es place prefix)
selected_in_trait es place prefix name _ = unseen

-- ---- Sees

-- what the parts of a mark are found to be; packages hold no packages, so a longer mark sees nothing
abbrev pub found : List Entry → List (List ℕ) → List ℕ → Found
found es (name ∷ []) place = named es place name
found es (prefix ∷ name ∷ []) place =
    if is_in_trait es place then selected_in_trait es place prefix name (named es place prefix) else selected es place name (named es place prefix)
found es _ place = unseen

-- a bound name is no declaration
abbrev pub sight_of : Found → Sight
sight_of unseen = nothing
sight_of (one e) = by e.number
  where
    by : Option DeclId → Sight
    by (Some id) = declared id
    by None = nothing
sight_of several = two

abbrev pub sees_among : List Entry → List (List ℕ) → List ℕ → Sight
sees_among es parts place = sight_of (found es parts place)

-- Sees(place, name, d): what the name with these parts sees at a place of the document
abbrev pub sees : Node → List (List ℕ) → List ℕ → Sight
sees doc parts place = sees_among (entries_of doc) parts place
