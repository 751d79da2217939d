-- Values of the code as the table has them.
use Rattle.std.specs.Prelude.{List, [], ◌∷◌, Option, Some, None}
use Rattle.ada_tree.specs.declared.node.Node.{Node}
use Rattle.reading_machine.specs.declared.values.Values.{Values}
use Rattle.reading_table.specs.declared.held.Held.{Held}
use Rattle.reading_table.specs.declared.held.Held.TheVariants as held
use Rattle.reading_table.specs.States.{State}
use Rattle.reading_table.specs.Weighed.{Weighed}

abbrev pub state_of : Values → State
state_of v = record { values = v.values; waiting = v.waiting }

-- the same with what limits see of it
abbrev pub weighed_of : Values → Weighed
weighed_of v = record { state = state_of v; masses = v.masses }

-- the value put before the others, if there is one
abbrev pub with_option : {A : Type 0} → Option A → List A → List A
with_option None xs = xs
with_option (Some x) xs = x ∷ xs

abbrev pub only_node : List Held → Option Node
only_node (held.Tree node ∷ []) = Some node
only_node _ = None
