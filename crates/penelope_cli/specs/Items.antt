-- The items of files, and which of them aren't taken.
use Rattle.std.specs.Prelude.{ℕ, suc, List, [], ◌∷◌, ◌++◌, Bool, true, false, ◌||◌, Option, Some, None, if◌then◌else◌}
use Rattle.std.specs.Option.{is_none}
use Rattle.base_kit.specs.declared.fault.Code.TheVariants.{F23}
use Rattle.base_kit.specs.declared.fault.Fault.{Fault}
use Rattle.base_kit.specs.declared.fault.Place.TheVariants.{At}
use Rattle.ada_tree.specs.declared.node.Node.{Node}
use Rattle.ada_tree.specs.Nodes.{kids_of}
use Rattle.one_path.specs.Form.{form_of}

-- an item, and the path of its node
pub record Item : Type 0 where
  pub path : List ℕ
  pub node : Node

-- these nodes, in a file, from this number on
abbrev pub items_from : ℕ → ℕ → List Node → List Item
items_from file number [] = []
items_from file number (node ∷ nodes) = record { path = file ∷ number ∷ []; node = node } ∷ items_from file (suc number) nodes

-- the items of a file are the kids of its node, in order
abbrev pub items_of : ℕ → Node → List Item
items_of file node = items_from file 0 (kids_of node)

-- the items of files, from the file of this number on
abbrev pub items_in : ℕ → List Node → List Item
items_in number [] = []
items_in number (file ∷ files) = items_of number file ++ items_in (suc number) files

-- The first of these items that isn't of the form, or has an item before it. The Bool says whether there is one before all of these.
abbrev pub first_unfit_behind : Bool → List Item → Option Item
first_unfit_behind before [] = None
first_unfit_behind before (item ∷ items) = if before || is_none (form_of item.node) then Some item else first_unfit_behind true items

-- of all items there are: so at most one is taken, and it is of the form
abbrev pub first_unfit : List Item → Option Item
first_unfit items = first_unfit_behind false items

-- what isn't taken is unsupported, at the path of its node
abbrev pub unsupported_at : List ℕ → Fault
unsupported_at path = record { code = F23; place = At path; count = 0 }
