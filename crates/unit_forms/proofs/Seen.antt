-- What is read off a node, one field at a time.
use Rattle.std.proofs.Common.{◌≡◌, map, ap}
use Rattle.ada_tree.specs.declared.node.Node.{Node, fold_out-Node}
use Rattle.ada_tree.specs.Nodes.{kind_of, text_of, kids_of}
use Rattle.unit_forms.specs.Syntax.{Seen as Sight, see, seen, expr_by, step_by, range_by, arg_by, choices_by, choice_by, args_from, options_from}

pub seen_expr : (node : Node) → (seen node).expr ≡ expr_by (kind_of node) (text_of node) (map seen (kids_of node))
seen_expr node = ap (λ (s : Sight). s.expr) (fold_out-Node Sight see node)

pub seen_step : (node : Node) → (seen node).step ≡ step_by (kind_of node) (text_of node) (map seen (kids_of node))
seen_step node = ap (λ (s : Sight). s.step) (fold_out-Node Sight see node)

pub seen_range : (node : Node) → (seen node).range ≡ range_by (kind_of node) (expr_by (kind_of node) (text_of node) (map seen (kids_of node))) (map seen (kids_of node))
seen_range node = ap (λ (s : Sight). s.range) (fold_out-Node Sight see node)

pub seen_arg : (node : Node) → (seen node).arg ≡ arg_by (kind_of node) (expr_by (kind_of node) (text_of node) (map seen (kids_of node))) (map seen (kids_of node))
seen_arg node = ap (λ (s : Sight). s.arg) (fold_out-Node Sight see node)

pub seen_choices : (node : Node) → (seen node).choices ≡ choices_by (kind_of node) (map seen (kids_of node))
seen_choices node = ap (λ (s : Sight). s.choices) (fold_out-Node Sight see node)

pub seen_choice : (node : Node) → (seen node).choice ≡ choice_by (kind_of node) (expr_by (kind_of node) (text_of node) (map seen (kids_of node))) (map seen (kids_of node))
seen_choice node = ap (λ (s : Sight). s.choice) (fold_out-Node Sight see node)

pub seen_args : (node : Node) → (seen node).args ≡ args_from (map seen (kids_of node))
seen_args node = ap (λ (s : Sight). s.args) (fold_out-Node Sight see node)

pub seen_options : (node : Node) → (seen node).options ≡ options_from (map seen (kids_of node))
seen_options node = ap (λ (s : Sight). s.options) (fold_out-Node Sight see node)
