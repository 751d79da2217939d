-- Values of which only what reading looks at is kept, and how many nodes there are among values.
use Rattle.std.specs.Prelude.{ℕ, ◌+◌, ◌-◌, ◌^◌, List, [], map, min, Bool, false, not, ◌&&◌, nat_le, Option, Some, None, if◌then◌else◌}
use Rattle.std.specs.List.{sum_by}
use Rattle.ada_tree.specs.declared.doc.Counts.{Counts}
use Rattle.ada_tree.specs.declared.kind.Kind.{Kind}
use Rattle.ada_tree.specs.declared.node.Node.{Node}
use Rattle.ada_tree.specs.Nodes.{node_of, kind_of, text_of, kids_of, count_of, is_step}
use Rattle.reading_table.specs.declared.held.Held.{Held}
use Rattle.reading_table.specs.declared.held.Held.TheVariants as held
use Rattle.reading_table.specs.Weighed.{Progress}

-- ---- what reading looks at

-- a node without comments and kids
abbrev pub bare : Held → Held
bare (held.Tree node) = held.Tree (node_of (kind_of node) (text_of node) [] [])
bare value = value

-- ---- numbers of nodes

-- how many nodes of a kind that passes a value has, and how many of them are no more there in a bare one
abbrev pub held_count : (Kind → Bool) → Held → ℕ
held_count test (held.Tree node) = count_of test node
held_count test value = 0

abbrev pub kids_held : Held → List Node
kids_held (held.Tree node) = kids_of node
kids_held value = []

abbrev pub lost_count : (Kind → Bool) → Held → ℕ
lost_count test value = sum_by (count_of test) (kids_held value)

abbrev pub count_in : (Kind → Bool) → List Held → ℕ
count_in test values = sum_by (held_count test) values

abbrev pub lost_in : (Kind → Bool) → List Held → ℕ
lost_in test values = sum_by (lost_count test) values

-- the kinds that aren't proof steps
abbrev pub is_tree : Kind → Bool
is_tree k = not (is_step k)

-- a greater number is given as this one
abbrev pub greatest_count : ℕ
greatest_count = 2 ^ 64 - 1

-- so many more
abbrev pub more_counts : Counts → ℕ → ℕ → Counts
more_counts counts tree proof = record { tree = min (counts.tree + tree) greatest_count; proof = min (counts.proof + proof) greatest_count }

-- with the nodes of the values, and with those that bare ones have lost
abbrev pub counts_with : Counts → List Held → Counts
counts_with counts values = more_counts counts (count_in is_tree values) (count_in is_step values)

abbrev pub lost_with : Counts → List Held → Counts
lost_with counts values = more_counts counts (lost_in is_tree values) (lost_in is_step values)

-- nothing was lost
abbrev pub nothing : Counts
nothing = record { tree = 0; proof = 0 }

-- one of them is past its limit, if there is a limit
abbrev pub passes : Option Counts → Counts → Bool
passes None counts = false
passes (Some most) counts = not (nat_le counts.tree most.tree && nat_le counts.proof most.proof)

-- ---- where reading stands

abbrev pub bare_progress : Progress → Progress
bare_progress p =
    record { stack = p.stack; weighed = record { state = record { values = map bare p.weighed.state.values; waiting = p.weighed.state.waiting }; masses = p.weighed.masses }; parentheses = p.parentheses }

-- bare where there are too many nodes, those among them that were lost before, and how many are lost then
abbrev pub thinned : Option Counts → Progress → Counts → Progress × Counts
thinned most p lost = if passes most (counts_with lost p.weighed.state.values) then (bare_progress p, lost_with lost p.weighed.state.values) else (p, lost)
