-- Nodes: what is asked of one, how they are reached, and how many there are.
use Rattle.std.specs.Prelude.{ℕ, zero, suc, ◌+◌, List, [], ◌∷◌, sum, sum_by, max, Bool, true, false, not, ◌&&◌, ◌||◌, if◌then◌else◌, Option, Some, slice_get}
use Rattle.std.specs.Option.{option_and_then}
use Rattle.ada_tree.specs.declared.kind.Kind.{Kind}
use Rattle.ada_tree.specs.declared.kind.Kind.TheVariants as kind
use Rattle.ada_tree.specs.declared.grammar.Choice.TheVariants as choice
use Rattle.ada_tree.specs.declared.node.Node.{Node, out-Node, roll-Node, fold-Node}
use Rattle.ada_tree.specs.Kinds.{is_kind, is_among}
use Rattle.ada_tree.specs.Choices.{kinds, expression_kinds}

abbrev pub kind_of : Node → Kind
kind_of node = (out-Node node).kind

abbrev pub text_of : Node → List ℕ
text_of node = (out-Node node).text

abbrev pub notes_of : Node → List (List ℕ)
notes_of node = (out-Node node).notes

abbrev pub kids_of : Node → List Node
kids_of node = (out-Node node).kids

abbrev pub node_of : Kind → List ℕ → List (List ℕ) → List Node → Node
node_of k text notes kids = roll-Node record { kind = k; text = text; notes = notes; kids = kids }

-- ---- what is asked of a node

abbrev pub is_empty : {A : Type 0} → List A → Bool
is_empty [] = true
is_empty (x ∷ xs) = false

-- no comments belong to it
abbrev pub is_silent : Node → Bool
is_silent node = is_empty (notes_of node)

abbrev pub is_list : Node → Bool
is_list node = is_kind (kind_of node) kind.List && is_empty (text_of node)

abbrev pub is_empty_list : Node → Bool
is_empty_list node = is_list node && is_silent node && is_empty (kids_of node)

-- a part that is left out
abbrev pub is_none : Node → Bool
is_none node = is_kind (kind_of node) kind.None && is_empty (text_of node) && is_silent node && is_empty (kids_of node)

-- the next so many kids are there, and are lists without members
abbrev pub are_empty : ℕ → List Node → Bool
are_empty zero kids = true
are_empty (suc count) [] = false
are_empty (suc count) (kid ∷ kids) = is_empty_list kid && are_empty count kids

-- ---- paths

-- the node that a path leads to: at each step the number of the kid, from 0
abbrev pub node_at : List ℕ → Node → Option Node
node_at [] node = Some node
node_at (number ∷ path) node = option_and_then (node_at path) (slice_get (kids_of node) number)

-- ---- numbers of nodes

-- how many nodes are of a kind that passes, the node itself and those below it
abbrev pub count_of : (Kind → Bool) → Node → ℕ
count_of test = fold-Node ℕ (λ layer. (if test layer.kind then 1 else 0) + sum layer.kids)

abbrev pub is_step : Kind → Bool
is_step k = is_kind k kind.Step

-- all nodes of a document but the Doc itself and proof steps
abbrev pub tree_count : Node → ℕ
tree_count doc = sum_by (count_of (λ k. not (is_step k))) (kids_of doc)

-- its proof steps
abbrev pub proof_count : Node → ℕ
proof_count doc = sum_by (count_of is_step) (kids_of doc)

-- ---- nesting

abbrev pub greatest : List ℕ → ℕ
greatest [] = 0
greatest (n ∷ ns) = max n (greatest ns)

-- how many nodes of a kind that passes contain each other, at most
abbrev pub nesting_of : (Kind → Bool) → Node → ℕ
nesting_of test = fold-Node ℕ (λ layer. (if test layer.kind then 1 else 0) + greatest layer.kids)

-- the kinds of expressions, terms and statements, wherever nodes of them stand
abbrev pub is_nested : Kind → Bool
is_nested k = is_among k (expression_kinds false) || is_among k (expression_kinds true) || is_among k (kinds choice.Stmt)
