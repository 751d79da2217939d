-- The sizes of sorts, and the sort of a subtype.
use Rattle.std.specs.Prelude.{ℕ, ◌+◌, sum, List, Bool, ◌||◌, nat_lt, slice_get, Option, Some, None}
use Rattle.std.specs.Option.{option_map_or}
use Rattle.term_core.specs.declared.sort.Sort.{Sort}
use Rattle.term_core.specs.declared.sort.Sort.TheOpen.{Sort-F}
use Rattle.term_core.specs.declared.sort.Sort.TheViews.{out-Sort}
use Rattle.term_core.specs.declared.sort.Sort.TheFolds.{fold-Sort}
use Rattle.term_core.specs.declared.names.SortEntry.{SortEntry}
use Rattle.term_core.specs.Terms.{range, largest}
use Rattle.term_core.specs.Sorts.{whole}
use Rattle.type_definitions.specs.declared.limits.TheConstants.{LARGEST_SORT, DEEPEST_SORT}
use Rattle.static_values.specs.declared.entity.Subtype.{Subtype}

abbrev pub nodes_step : Sort-F ℕ → ℕ
nodes_step (Sort-F.Array low high element) = 1 + element
nodes_step (Sort-F.Record number parts) = 1 + sum parts
nodes_step _ = 1

-- the number of nodes: an array has its element once, however many indexes it has
abbrev pub nodes_of : Sort → ℕ
nodes_of = fold-Sort ℕ nodes_step

abbrev pub depth_step : Sort-F ℕ → ℕ
depth_step (Sort-F.Array low high element) = 1 + element
depth_step (Sort-F.Record number parts) = 1 + largest parts
depth_step _ = 1

-- the number of nodes on the longest way down
abbrev pub depth_of : Sort → ℕ
depth_of = fold-Sort ℕ depth_step

abbrev pub is_too_large : ℕ → ℕ → Bool
is_too_large nodes depth = nat_lt LARGEST_SORT nodes || nat_lt DEEPEST_SORT depth

-- ---- subtypes

-- a sort of numbers has the range of the subtype
abbrev pub bounded_layer : Subtype → Sort → Sort-F Sort → Sort
bounded_layer s sort (Sort-F.Range l h) = range s.low s.high
bounded_layer s sort _ = sort

abbrev pub bounded_by : Subtype → Sort → Sort
bounded_by s sort = bounded_layer s sort (out-Sort sort)

abbrev pub sort_with : Subtype → Option SortEntry → Sort
sort_with s (Some e) = bounded_by s e.sort
sort_with s None = whole

-- the sort of a subtype, by its entry in the list of type names
abbrev pub sort_of : List SortEntry → Subtype → Sort
sort_of names s = sort_with s (slice_get names s.entry)

-- as many nodes, and as deep, as that of its entry
abbrev pub nodes_at : List SortEntry → Subtype → ℕ
nodes_at names s = option_map_or (λ e. nodes_of e.sort) (slice_get names s.entry) 1

abbrev pub depth_at : List SortEntry → Subtype → ℕ
depth_at names s = option_map_or (λ e. depth_of e.sort) (slice_get names s.entry) 1
