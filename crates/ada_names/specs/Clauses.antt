-- What the clauses of a `where` block list, and which clauses repeat an earlier one.
use Rattle.std.specs.Prelude.{ℕ, List, [], ◌∷◌, Bool, true, false, not, ◌&&◌, ◌||◌, bytes_eq, nat_eq, Option, Some, None, find, if◌then◌else◌}
use Rattle.ada_tree.specs.declared.kind.Kind.TheVariants as kind
use Rattle.ada_tree.specs.declared.doc.DeclId.{DeclId}
use Rattle.ada_tree.specs.Kinds.{is_kind}
use Rattle.ada_names.specs.declared.entry.Entry.{Entry}
use Rattle.ada_names.specs.declared.entry.Space.{Space}
use Rattle.ada_names.specs.declared.entry.Space.TheVariants as space
use Rattle.ada_names.specs.Places.{◌▸◌}
use Rattle.ada_names.specs.Entries.{is_space, is_of, entry_at}
use Rattle.ada_names.specs.Sees.{Found, unseen, one, several, found}

-- ---- what a mark names

-- A mark is a name, or a name before a dot and one after it. Names of more parts have none that see something.
abbrev pub parts_after : List ℕ → Option Entry → List (List ℕ)
parts_after name (Some prefix) = if is_kind prefix.kind kind.Name then prefix.name ∷ name ∷ [] else []
parts_after name None = name ∷ []

abbrev pub seen_by_mark : List Entry → Entry → Found
seen_by_mark es mark = found es (parts_after mark.name (entry_at es (mark.place ▸ 0))) mark.place

-- ---- what a clause lists

abbrev pub is_in_subprogram : Entry → Bool
is_in_subprogram e = by e.within
  where
    by : List ℕ → Bool
    by [] = false
    by (x ∷ xs) = true

-- a `global` clause package variables, a raise clause an exception
abbrev pub is_listed : Space → Entry → Bool
is_listed space.Globals e = is_kind e.kind kind.Obj && not (is_in_subprogram e)
is_listed space.Raises e = is_kind e.kind kind.Exc
is_listed _ e = false

abbrev pub listed_if : Space → Found → Option DeclId
listed_if s (one e) = if is_listed s e then e.number else None
listed_if s unseen = None
listed_if s several = None

-- the number of what a mark lists
abbrev pub listed : List Entry → Entry → Option DeclId
listed es mark = listed_if mark.space (seen_by_mark es mark)

abbrev pub is_number : Option DeclId → DeclId → Bool
is_number (Some n) id = nat_eq n.0 id.0
is_number None id = false

-- ---- what is listed again

-- a mark of the same clauses of the same `where` block that lists this; marks that see one declaration end in its name
abbrev pub lists_there : List Entry → Entry → DeclId → Entry → Bool
lists_there es mark id other = is_of mark.space mark.region mark.name other && is_number (listed es other) id

-- the first mark that lists it
abbrev pub first_listed : List Entry → Entry → DeclId → Option Entry
first_listed es mark id = find (lists_there es mark id) es

abbrev pub is_other : Entry → Option Entry → Bool
is_other e (Some first) = not (bytes_eq first.place e.place)
is_other e None = false

abbrev pub is_after_first : List Entry → Entry → Option DeclId → Bool
is_after_first es mark (Some id) = is_other mark (first_listed es mark id)
is_after_first es mark None = false

-- an earlier mark lists what this one lists
abbrev pub lists_again : List Entry → Entry → Bool
lists_again es mark = is_after_first es mark (listed es mark)

abbrev pub mark_again : List Entry → Option Entry → Bool
mark_again es (Some mark) = lists_again es mark
mark_again es None = false

-- A package variable that stands twice in `global` clauses is refused at its second mark, an exception with a second raise clause at that clause.
abbrev pub is_clause_again : List Entry → Entry → Bool
is_clause_again es e = (is_space e.space space.Globals && lists_again es e) || (is_kind e.kind kind.RaiseC && mark_again es (entry_at es (e.place ▸ 0)))

-- ---- `where` blocks

abbrev pub is_completion : Option Entry → Bool
is_completion (Some e) = is_space e.space space.Completions
is_completion None = false

-- A body whose declaration stands earlier has no `where` block: the declaration has it.
abbrev pub is_block_again : List Entry → Entry → Bool
is_block_again es e = is_kind e.kind kind.Where && is_completion (entry_at es (e.within ▸ 0))
