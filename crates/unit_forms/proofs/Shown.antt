-- What is read off a node of a body, one field at a time.
use Rattle.std.proofs.Common.{◌≡◌, map, refl, ap}
use Rattle.ada_tree.specs.declared.node.Node.{Node, fold_out-Node}
use Rattle.ada_tree.specs.Nodes.{kind_of, text_of, kids_of}
use Rattle.unit_forms.specs.Syntax.{Seen, see, seen, expr_of}
use Rattle.unit_forms.proofs.Fusion.{fused}
use Rattle.unit_forms.specs.Bodies.{Shown, show, shown, limits_by, definition_by, decl_by, head_by, stmt_by, stmts_from, condition_of, choices_of, inside_of, sequence_of, caught_of, elsifs_from, alts_from, handlers_from}

pub shown_stmt : (node : Node) → (shown node).stmt ≡ stmt_by (kind_of node) (map shown (kids_of node))
shown_stmt node = ap (λ (s : Shown). s.stmt) (fold_out-Node Shown show node)

pub shown_head : (node : Node) → (shown node).head ≡ head_by (kind_of node) (text_of node) (map shown (kids_of node))
shown_head node = ap (λ (s : Shown). s.head) (fold_out-Node Shown show node)

pub shown_decl : (node : Node) → (shown node).decl ≡ decl_by (kind_of node) (map shown (kids_of node))
shown_decl node = ap (λ (s : Shown). s.decl) (fold_out-Node Shown show node)

pub shown_definition : (node : Node) → (shown node).definition ≡ definition_by (kind_of node) (map shown (kids_of node))
shown_definition node = ap (λ (s : Shown). s.definition) (fold_out-Node Shown show node)

pub shown_limits : (node : Node) → (shown node).limits ≡ limits_by (map shown (kids_of node))
shown_limits node = ap (λ (s : Shown). s.limits) (fold_out-Node Shown show node)

pub shown_kind : (node : Node) → (shown node).kind ≡ kind_of node
shown_kind node = ap (λ (s : Shown). s.kind) (fold_out-Node Shown show node)

pub shown_condition : (node : Node) → (shown node).condition ≡ condition_of (map shown (kids_of node))
shown_condition node = ap (λ (s : Shown). s.condition) (fold_out-Node Shown show node)

pub shown_choices : (node : Node) → (shown node).choices ≡ choices_of (map shown (kids_of node))
shown_choices node = ap (λ (s : Shown). s.choices) (fold_out-Node Shown show node)

pub shown_inside : (node : Node) → (shown node).inside ≡ inside_of (map shown (kids_of node))
shown_inside node = ap (λ (s : Shown). s.inside) (fold_out-Node Shown show node)

pub shown_sequence : (node : Node) → (shown node).sequence ≡ sequence_of (map shown (kids_of node))
shown_sequence node = ap (λ (s : Shown). s.sequence) (fold_out-Node Shown show node)

pub shown_caught : (node : Node) → (shown node).caught ≡ caught_of (map shown (kids_of node))
shown_caught node = ap (λ (s : Shown). s.caught) (fold_out-Node Shown show node)

-- ---- expressions

pub shown_seen : (node : Node) → (shown node).seen ≡ seen node
shown_seen = fused show see (λ (s : Shown). s.seen) (λ layer. refl)

pub shown_expr : (node : Node) → (shown node).seen.expr ≡ expr_of node
shown_expr node = ap (λ (s : Seen). s.expr) (shown_seen node)

pub shown_range : (node : Node) → (shown node).seen.range ≡ (seen node).range
shown_range node = ap (λ (s : Seen). s.range) (shown_seen node)

pub shown_options : (node : Node) → (shown node).seen.choices ≡ (seen node).choices
shown_options node = ap (λ (s : Seen). s.choices) (shown_seen node)

-- ---- lists

pub shown_stmts : (node : Node) → (shown node).stmts ≡ stmts_from (map shown (kids_of node))
shown_stmts node = ap (λ (s : Shown). s.stmts) (fold_out-Node Shown show node)

pub shown_elsifs : (node : Node) → (shown node).elsifs ≡ elsifs_from (map shown (kids_of node))
shown_elsifs node = ap (λ (s : Shown). s.elsifs) (fold_out-Node Shown show node)

pub shown_alts : (node : Node) → (shown node).alts ≡ alts_from (map shown (kids_of node))
shown_alts node = ap (λ (s : Shown). s.alts) (fold_out-Node Shown show node)

pub shown_handlers : (node : Node) → (shown node).handlers ≡ handlers_from (map shown (kids_of node))
shown_handlers node = ap (λ (s : Shown). s.handlers) (fold_out-Node Shown show node)
