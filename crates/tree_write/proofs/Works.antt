-- Tasks that are pushed, and what they cost.
use Rattle.std.proofs.Common.{◌≡◌, ℕ, zero, suc, ◌+◌, ◌-◌, ◌≤◌, ◌<◌, ◌&&◌, List, [], ◌∷◌, ◌++◌, length, Bool, true, false, refl, sym, ◌∙◌, ap, arith, append_assoc, drop}
use Rattle.std.specs.Prelude.{nat_le}
use Rattle.std.proofs.lemmas.Bool.{leb-true}
use Rattle.std.proofs.lemmas.List.Sums.{fold-append}
use Rattle.ada_tree.specs.declared.kind.Kind.{Kind}
use Rattle.ada_tree.specs.declared.kind.Kind.TheVariants as kind
use Rattle.ada_tree.specs.declared.grammar.Choice.{Choice}
use Rattle.ada_tree.specs.declared.grammar.Choice.TheVariants as choice
use Rattle.ada_tree.specs.declared.grammar.Piece.{Piece}
use Rattle.ada_tree.specs.declared.node.Node.{Node, fold_out-Node}
use Rattle.ada_tree.specs.Items.{Item}
use Rattle.ada_tree.specs.Nodes.{kind_of, text_of, kids_of}
use Rattle.ada_tree.specs.Lines.{line}
use Rattle.ada_tree.specs.Canonical.{Written, are_bare, arguments}
use Rattle.ada_tree.specs.declared.grammar.Argument.{Argument}
use Rattle.ada_tree.proofs.Found.{line_holds}
use Rattle.text_laws.proofs.round_trip.Written.{opened}
use Rattle.tree_write.specs.declared.work.Task.{Task}
use Rattle.tree_write.specs.Tasks.{as_written, all_written, task_items, work_items, node_cost, cost_of_all, node_steps, total, line_cost}

pub work_items-push : (tasks : List Task) (task : Task) → work_items (tasks ++ task ∷ []) ≡ task_items task ++ work_items tasks
work_items-push tasks task = fold-append (λ rest task. task_items task ++ rest) [] tasks (task ∷ [])

-- ---- a node, with what its kids are written as

pub arguments_written : (line : List Argument) (node : Node) (kids : List Node) → kids ≡ kids_of node → arguments line (all_written kids) ≡ (as_written node).as_arguments line
arguments_written line node kids e = ap (λ nodes. arguments line (all_written nodes)) e ∙ sym (ap (λ w. w.as_arguments line) (opened node))

-- ---- no line has more pieces

abbrev is_short : List Piece → Bool
is_short pieces = nat_le (length pieces) 40

pub short : (place : Choice) (k : Kind) (text : List ℕ) → is_short (line place k text) ≡ true
short choice.Mark kind.Select text = refl
short _ kind.Select text = refl
short place kind.Binary text = line_holds is_short refl refl kind.Binary text
short choice.Coefficient kind.Unary text = refl
short _ kind.Unary text = line_holds is_short refl refl kind.Unary text
short place kind.Member text = line_holds is_short refl refl kind.Member text
short place kind.Make text = line_holds is_short refl refl kind.Make text
short place _ text = refl

-- ---- costs

pub node_costs : (node : Node) → node_cost node ≡ node_steps + cost_of_all (kids_of node)
node_costs node = fold_out-Node ℕ (λ layer. node_steps + total layer.kids) node

pub line_costs : (place : Choice) (node : Node) → line_cost place node + 20 ≤ node_cost node
line_costs place node = let few = leb-true (length (line place (kind_of node) (text_of node))) 40 (short place (kind_of node) (text_of node)) in omega (arith, node_costs node, few)

pub regroup : (front middle back : List Item) → (front ++ middle) ++ back ≡ front ++ (middle ++ back)
regroup front middle back = append_assoc front middle back

pub dropped_costs : (count : ℕ) (nodes : List Node) → cost_of_all (drop count nodes) ≤ cost_of_all nodes
dropped_costs zero nodes = omega arith
dropped_costs (suc count) [] = omega arith
dropped_costs (suc count) (node ∷ nodes) = let less = dropped_costs count nodes in omega (arith, less)

-- ---- lists without members

pub bare_nowhere : (count : ℕ) → 0 < count → are_bare count [] ≡ false
bare_nowhere zero some = absurd (omega arith)
bare_nowhere (suc count) some = refl

pub bare_more : (count : ℕ) (k : Written) (ks : List Written) → 0 < count → are_bare count (k ∷ ks) ≡ (k.is_bare && are_bare (count - 1) ks)
bare_more zero k ks some = absurd (omega arith)
bare_more (suc count) k ks some = let e : suc count - 1 ≡ count = omega arith in rw e refl
