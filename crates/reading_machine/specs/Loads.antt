-- How high what is read may become, and how many parentheses may be open, by sums that are more than enough.
use Rattle.std.specs.Prelude.{ℕ, ◌+◌, ◌^◌, ◌-◌, ◌≤◌, List, [], ◌∷◌, min, max, slice_get, Bool, ◌&&◌, nat_le, nat_lt}
use Rattle.std.specs.Option.{option_map_or}
use Rattle.ada_tree.specs.declared.limits.TheConstants.{MOST_NESTED, MOST_NESTED_STEPS, MOST_OPEN}
use Rattle.reading_machine.specs.declared.load.Load.{Load}
use Rattle.reading_table.specs.declared.need.Height.{Height}
use Rattle.reading_table.specs.declared.need.Mass.{Mass}
use Rattle.reading_table.specs.declared.symbol.Symbol.{Symbol}
use Rattle.reading_table.specs.declared.symbol.Symbol.TheVariants as symbol
use Rattle.reading_table.specs.Heights.{flat, tallest, own_height, height_in}
use Rattle.reading_table.specs.Limits.{opened}
use Rattle.reading_table.specs.Rows.{Placed, need_of}

-- what a symbol adds to the height of what it finds, at most, and how many parentheses it opens
abbrev pub load_of : Symbol → Load
load_of (symbol.Part r) = record { nodes = (need_of r).3.0; steps = (need_of r).3.1; opens = 0 }
load_of (symbol.Build k count) = record { nodes = (own_height k).nodes; steps = (own_height k).steps; opens = 0 }
load_of (symbol.Take set) = record { nodes = 0; steps = 0; opens = opened 0 set }
load_of (symbol.Keep set) = record { nodes = 0; steps = 0; opens = opened 0 set }
load_of _ = record { nodes = 0; steps = 0; opens = 0 }

abbrev pub together : Load → Load → Load
together a b = record { nodes = a.nodes + b.nodes; steps = a.steps + b.steps; opens = a.opens + b.opens }

-- the same of all these symbols
abbrev pub load_in : List Placed → Load
load_in [] = record { nodes = 0; steps = 0; opens = 0 }
load_in (s ∷ ss) = together (load_of s.1) (load_in ss)

-- what there is without them: values so high, or what a rule makes of none, and so many open parentheses
abbrev pub load_on : Height → ℕ → Load
load_on height parentheses = record { nodes = max height.nodes 2; steps = max height.steps 1; opens = parentheses }

-- within the limits, where so many nodes that count are round it
abbrev pub is_light : ℕ → Load → Bool
is_light round l = (nat_le (round + l.nodes) MOST_NESTED && nat_le l.steps MOST_NESTED_STEPS) && nat_lt l.opens MOST_OPEN

-- numbers of the code stay at the greatest one
abbrev pub most : ℕ
most = 2 ^ 64 - 1

-- no more than this, as far as numbers of the code go
abbrev pub Bounds : Load → Load → Type 0
Bounds a b = (min a.nodes most ≤ b.nodes) × (min a.steps most ≤ b.steps) × (min a.opens most ≤ b.opens)

abbrev pub Covers : Height → Height → Type 0
Covers a b = (min a.nodes tallest ≤ b.nodes) × (min a.steps tallest ≤ b.steps)

-- how high the last value is
abbrev pub last_height : List Mass → Height
last_height ms = option_map_or height_in (slice_get ms 0) flat
