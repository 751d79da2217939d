-- Where an edit is made in a tree, and the shape that it gives.
use Rattle.std.specs.Prelude.{ℕ, zero, suc, List, [], ◌∷◌, ◌++◌, length, take, drop, map, Bool, false, ◌&&◌, nat_le, Option, Some, None, slice_get}
use Rattle.attr_engine.specs.declared.shape.Shape.{Shape}
use Rattle.attr_engine.specs.declared.node.Node.{Node}
use Rattle.attr_engine.specs.Nodes.{shape, shape_label, parts_of, kids_of}

-- the items, but for the one of this number as `others` has them
abbrev pub placed : {A B : Type 0} → ℕ → (A → B) → (A → B) → List A → List B
placed number here others [] = []
placed zero here others (x ∷ xs) = here x ∷ map others xs
placed (suc number) here others (x ∷ xs) = others x ∷ placed number here others xs

-- the items with `made` in place of those from `from` up to but not `to`, the others as `others` has them
abbrev pub replaced : {A B : Type 0} → ℕ → ℕ → List B → (A → B) → List A → List B
replaced from to made others xs = map others (take from xs) ++ made ++ map others (drop to xs)

module _ {G Label Need In Out : Type 0} where
  -- the shape in which `made` replaces the parts from `from` up to but not `to` of the node at a path: at each step the number of the part
  abbrev pub spliced : List ℕ → ℕ → ℕ → List (Shape G Label Need In Out) → Shape G Label Need In Out → Shape G Label Need In Out
  spliced [] from to made whole = shape (shape_label whole) (replaced from to made (λ part. part) (parts_of whole))
  spliced (number ∷ path) from to made whole = shape (shape_label whole) (placed number (spliced path from to made) (λ part. part) (parts_of whole))

abbrev pub any_some : {A : Type 0} → (A → Bool) → Option A → Bool
any_some test None = false
any_some test (Some x) = test x

module _ {Label Need In Out : Type 0} where
  -- the path leads to a node, and it has children from `from` up to `to`, which may be none
  abbrev pub is_there : List ℕ → ℕ → ℕ → Node Label Need In Out → Bool
  is_there [] from to node = nat_le from to && nat_le to (length (kids_of node))
  is_there (number ∷ path) from to node = any_some (is_there path from to) (slice_get (kids_of node) number)
