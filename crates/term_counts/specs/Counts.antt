-- Counts of a term: the size and the depth after a substitution follow from them, without making a term. The sum of two
-- numbers is a parameter: it is `◌+◌`, or the one that stays below 2 ^ 64.
use Rattle.std.specs.Prelude.{ℕ, ◌+◌, ◌*◌, ◌-◌, ◌^◌, max, min, List, [], ◌∷◌, map, reverse, find, bytes_eq, if◌then◌else◌, Option}
use Rattle.std.specs.List.{sum_by}
use Rattle.std.specs.Option.{option_map_or}
use Rattle.term_counts.specs.declared.counting.NameCount.{NameCount}
use Rattle.term_counts.specs.declared.counting.TermCounts.{TermCounts}
use Rattle.term_counts.specs.declared.counting.Measure.{Measure}
use Rattle.term_core.specs.declared.term.Term.{Term}
use Rattle.term_core.specs.declared.term.Term.TheOpen.{Term-F}
use Rattle.term_core.specs.declared.term.Term.TheFolds.{fold-Term}
use Rattle.term_core.specs.Terms.{largest}

abbrev pub Plus : Type 0
Plus = ℕ → ℕ → ℕ

-- two counts of one name
abbrev pub together : Plus → NameCount → NameCount → NameCount
together plus a b = record { name = b.name; times = plus a.times b.times; above = max a.above b.above }

-- each name stands once
abbrev pub with_count : Plus → List NameCount → NameCount → List NameCount
with_count plus [] c = c ∷ []
with_count plus (d ∷ ds) c = if bytes_eq d.name c.name then together plus d c ∷ ds else d ∷ with_count plus ds c

abbrev pub with_counts : Plus → List NameCount → List NameCount → List NameCount
with_counts plus ds [] = ds
with_counts plus ds (c ∷ cs) = with_counts plus (with_count plus ds c) cs

-- of two terms, one beside the other
abbrev pub beside : Plus → TermCounts → TermCounts → TermCounts
beside plus a b = record { own = plus a.own b.own; depth = max a.depth b.depth; names = with_counts plus a.names b.names }

abbrev pub all_beside : Plus → TermCounts → List TermCounts → TermCounts
all_beside plus a [] = a
all_beside plus a (c ∷ cs) = all_beside plus (beside plus a c) cs

abbrev pub lowered : Plus → NameCount → NameCount
lowered plus n = record { name = n.name; times = n.times; above = plus n.above 1 }

-- with a node above
abbrev pub below : Plus → TermCounts → TermCounts
below plus c = record { own = plus c.own 1; depth = plus c.depth 1; names = map (lowered plus) c.names }

-- the own nodes, and the occurrences of a name
abbrev pub own_with : Plus → List ℕ → ℕ → List NameCount → ℕ
own_with plus x own [] = own
own_with plus x own (n ∷ ns) = own_with plus x (if bytes_eq n.name x then plus own n.times else own) ns

abbrev pub others : List ℕ → List NameCount → List NameCount
others x [] = []
others x (n ∷ ns) = if bytes_eq n.name x then others x ns else n ∷ others x ns

-- within a quantifier its name isn't free
abbrev pub within_bound : Plus → List ℕ → TermCounts → TermCounts
within_bound plus x c = record { own = own_with plus x c.own c.names; depth = c.depth; names = others x c.names }

abbrev pub of_leaf : TermCounts
of_leaf = record { own = 1; depth = 1; names = [] }

abbrev pub of_name : List ℕ → TermCounts
of_name x = record { own = 0; depth = 1; names = record { name = x; times = 1; above = 0 } ∷ [] }

abbrev pub of_none : TermCounts
of_none = record { own = 0; depth = 0; names = [] }

abbrev pub of_quantifier : Plus → List ℕ → TermCounts → TermCounts → TermCounts → TermCounts
of_quantifier plus x low high body = below plus (beside plus (beside plus low high) (within_bound plus x body))

abbrev pub counts_step : Plus → Term-F TermCounts → TermCounts
counts_step plus (Term-F.Int n) = of_leaf
counts_step plus (Term-F.Truth b) = of_leaf
counts_step plus (Term-F.Var x) = of_name x
counts_step plus (Term-F.Op o cs) = below plus (all_beside plus of_none cs)
counts_step plus (Term-F.All x low high body) = of_quantifier plus x low high body
counts_step plus (Term-F.Some x low high body) = of_quantifier plus x low high body

unfoldable pub counted_by : Plus → Term → TermCounts
counted_by plus = fold-Term TermCounts (counts_step plus)

-- the nodes that are no free name, the depth, and of each free name how often it stands free and what is above its deepest place
abbrev pub counted : Term → TermCounts
counted = counted_by ◌+◌

-- ---- as numbers of 64 bits

abbrev pub most : ℕ
most = 2 ^ 64 - 1

abbrev pub capped_sum : Plus
capped_sum a b = min (a + b) most

abbrev pub capped_count : NameCount → NameCount
capped_count n = record { name = n.name; times = min n.times most; above = min n.above most }

abbrev pub capped : TermCounts → TermCounts
capped c = record { own = min c.own most; depth = min c.depth most; names = map capped_count c.names }

-- ---- after a substitution

abbrev pub size_after : TermCounts → (List ℕ → ℕ) → ℕ
size_after c sizes = c.own + sum_by (λ n. n.times * sizes n.name) c.names

abbrev pub depth_after : TermCounts → (List ℕ → ℕ) → ℕ
depth_after c depths = max c.depth (largest (map (λ n. n.above + depths n.name) c.names))

-- what the last entry of a name says; a name without one stays a name
abbrev pub measure_of : List Measure → List ℕ → Option Measure
measure_of ms x = find (λ m. bytes_eq m.name x) (reverse ms)

abbrev pub size_in : List Measure → List ℕ → ℕ
size_in ms x = option_map_or (λ m. m.size) (measure_of ms x) 1

abbrev pub depth_in : List Measure → List ℕ → ℕ
depth_in ms x = option_map_or (λ m. m.depth) (measure_of ms x) 1
