-- How much of a fresh attribution another one changes: the nodes that are new, or whose inherited attribute or list of children's
-- results differs from that of the corresponding node.
use Rattle.std.specs.Prelude.{ℕ, ◌+◌, List, [], ◌∷◌, map, sum, replicate, Bool, ◌&&◌, if◌then◌else◌}
use lib.Pointwise.{pointwise}
use Rattle.attr_engine.specs.declared.node.Node.{Node, fold-Node, para-Node}
use Rattle.attr_engine.specs.Nodes.{input_of, kids_of, outs}
use Rattle.attr_engine.specs.Edits.{placed, replaced}

-- each count of the item that stands in its place, added up
abbrev pub sum_at : {A : Type 0} → List (A → ℕ) → List A → ℕ
sum_at [] xs = 0
sum_at (count ∷ counts) [] = 0
sum_at (count ∷ counts) (x ∷ xs) = count x + sum_at counts xs

-- 1 where an inherited attribute or a list of children's results differs
abbrev pub moved_here : {In Out : Type 0} → (In → In → Bool) → (Out → Out → Bool) → In → List Out → In → List Out → ℕ
moved_here same_in same_out input results new_input new_results = if same_in input new_input && pointwise same_out results new_results then 0 else 1

module _ {Label Need In Out : Type 0} where
  -- all nodes of a tree, where it is new
  unfoldable pub all_new : Node Label Need In Out → ℕ
  all_new node = fold-Node _ _ _ _ ℕ (λ layer. sum layer.kids + 1) node

  -- the node itself, against this inherited attribute and these results of children, and what `below` counts of its children
  abbrev pub moved_from : (In → In → Bool) → (Out → Out → Bool) → In → List Out → List (Node Label Need In Out → ℕ) → Node Label Need In Out → ℕ
  moved_from same_in same_out input results below node =
      moved_here same_in same_out input results (input_of node) (outs (kids_of node)) + sum_at below (kids_of node)

  -- of a tree whose nodes all correspond to those of the old one, in order
  unfoldable pub moved : (In → In → Bool) → (Out → Out → Bool) → Node Label Need In Out → Node Label Need In Out → ℕ
  moved same_in same_out old = para-Node _ _ _ _ (Node Label Need In Out → ℕ)
      (λ layer. moved_from same_in same_out layer.input (outs (map (λ kid. kid.0) layer.kids)) (map (λ kid. kid.1) layer.kids)) old

  -- of a tree whose root corresponds to the old one's
  abbrev pub moved_below : (In → In → Bool) → (Out → Out → Bool) → Node Label Need In Out → List (Node Label Need In Out → ℕ) → Node Label Need In Out → ℕ
  moved_below same_in same_out old below = moved_from same_in same_out (input_of old) (outs (kids_of old)) below

  -- Of a tree where, at the node at a path, `number` new children stand in place of those from `from` up to but not `to`; all others correspond in order.
  abbrev pub moved_spliced : (In → In → Bool) → (Out → Out → Bool) → List ℕ → ℕ → ℕ → ℕ → Node Label Need In Out → Node Label Need In Out → ℕ
  moved_spliced same_in same_out [] from to number old =
      moved_below same_in same_out old (replaced from to (replicate number all_new) (moved same_in same_out) (kids_of old))
  moved_spliced same_in same_out (child ∷ path) from to number old =
      moved_below same_in same_out old (placed child (moved_spliced same_in same_out path from to number) (moved same_in same_out) (kids_of old))
