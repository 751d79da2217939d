-- How high the nodes that are read are, as far as limits go, and how high they become at least.
use Rattle.std.specs.Prelude.{ℕ, ◌+◌, List, [], ◌∷◌, map, take, drop, length, min, max, if◌then◌else◌, Option, Some, None}
use Rattle.ada_tree.specs.declared.kind.Kind.{Kind}
use Rattle.ada_tree.specs.declared.node.Node.{Node}
use Rattle.ada_tree.specs.Nodes.{nesting_of, is_nested, is_step}
use Rattle.reading_table.specs.declared.held.Held.{Held}
use Rattle.reading_table.specs.declared.held.Held.TheVariants as held
use Rattle.reading_table.specs.declared.need.Height.{Height}
use Rattle.reading_table.specs.declared.need.Mass.{Mass}
use Rattle.reading_table.specs.declared.need.Mass.TheVariants as mass
use Rattle.reading_table.specs.declared.need.Sort.{Sort}
use Rattle.reading_table.specs.declared.need.Sort.TheVariants as sort
use Rattle.reading_table.specs.declared.symbol.Symbol.{Symbol}
use Rattle.reading_table.specs.declared.symbol.Symbol.TheVariants as symbol
use Rattle.reading_table.specs.Rows.{Need, need_of, Placed}

-- ---- heights

-- heights above this one are none of the limits' business
abbrev pub tallest : ℕ
tallest = 255

abbrev pub flat : Height
flat = record { nodes = 0; steps = 0 }

abbrev pub above : ℕ → ℕ → ℕ
above low high = min (low + high) tallest

-- one on the other, and the higher of two
abbrev pub raised : Height → Height → Height
raised low high = record { nodes = above low.nodes high.nodes; steps = above low.steps high.steps }

abbrev pub higher : Height → Height → Height
higher a b = record { nodes = max a.nodes b.nodes; steps = max a.steps b.steps }

-- what a node adds by itself
abbrev pub own_height : Kind → Height
own_height k = record { nodes = if is_nested k then 1 else 0; steps = if is_step k then 1 else 0 }

abbrev pub height_of : Node → Height
height_of node = record { nodes = min (nesting_of is_nested node) tallest; steps = min (nesting_of is_step node) tallest }

abbrev pub mass_of : Held → Mass
mass_of (held.Text text) = mass.Text
mass_of (held.Comments comments) = mass.Comments
mass_of (held.Tree node) = mass.Tree (height_of node)

abbrev pub masses : List Held → List Mass
masses values = map mass_of values

abbrev pub height_in : Mass → Height
height_in mass.Text = flat
height_in mass.Comments = flat
height_in (mass.Tree height) = height

abbrev pub highest : List Mass → Height
highest [] = flat
highest (m ∷ ms) = higher (height_in m) (highest ms)

-- ---- what symbols make of them

abbrev pub built_mass : Kind → ℕ → List Mass → List Mass
built_mass k count ms = mass.Tree (raised (highest (take count ms)) (own_height k)) ∷ drop count ms

abbrev pub joined_mass : List Mass → List Mass
joined_mass (mass.Tree member ∷ mass.Tree list ∷ ms) = mass.Tree (higher member list) ∷ ms
joined_mass ms = ms

abbrev pub pasted_mass : List Mass → List Mass
pasted_mass (mass.Text ∷ mass.Text ∷ ms) = mass.Text ∷ ms
pasted_mass ms = ms

abbrev pub noted_mass : List Mass → List Mass
noted_mass (mass.Tree node ∷ mass.Comments ∷ ms) = mass.Tree node ∷ ms
noted_mass ms = ms

abbrev height_by : ℕ × ℕ → Height
height_by pair = record { nodes = pair.0; steps = pair.1 }

-- a part puts at least so many nodes round the values that it finds, and is at least so high
abbrev pub made_mass : Option Sort → Height → Height → List Mass → List Mass → List Mass
made_mass None own owed found ms = ms
made_mass (Some sort.Text) own owed found ms = mass.Text ∷ ms
made_mass (Some sort.Tree) own owed found ms = mass.Tree (higher own (raised (highest found) owed)) ∷ ms

abbrev pub needed_mass : Need → List Mass → List Mass
needed_mass need ms = made_mass need.1 (height_by need.2) (height_by need.3) (take (length need.0.now) ms) (drop (length need.0.now) ms)

-- what the values are after a symbol: exactly, but for a part, which is read by its least row
abbrev pub rise : Symbol → List Mass → List Mass
rise (symbol.Keep set) ms = mass.Text ∷ ms
rise (symbol.Part r) ms = needed_mass (need_of r) ms
rise (symbol.Build k count) ms = built_mass k count ms
rise symbol.Join ms = joined_mass ms
rise (symbol.Say w) ms = mass.Text ∷ ms
rise (symbol.Paste between) ms = pasted_mass ms
rise (symbol.Recall depth) ms = mass.Text ∷ ms
rise symbol.Notes ms = mass.Comments ∷ ms
rise symbol.Noted ms = noted_mass ms
rise _ ms = ms

-- what they are at least when all these symbols are read
abbrev pub least : List Placed → List Mass → List Mass
least [] ms = ms
least (s ∷ ss) ms = least ss (rise s.1 ms)
