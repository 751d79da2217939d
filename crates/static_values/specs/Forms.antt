-- What the code finds a node to be.
use Rattle.std.specs.Prelude.{◌<◌}
use Rattle.ada_tree.specs.declared.node.Node.{Node, size-Node}
use Rattle.ada_tree.specs.Sights.{parts_of}
use Rattle.static_values.specs.declared.form.ExprForm.{ExprForm}
use Rattle.static_values.specs.declared.form.ExprForm.TheVariants as form
use Rattle.static_values.specs.Syntax.{Expr, int, name, unary, binary, attribute, applied, component, other, expr_of}

abbrev pub expr_in : ExprForm → Expr
expr_in (form.Int text) = int text.now
expr_in (form.Name n) = name (parts_of n.now)
expr_in (form.Unary o a) = unary o (expr_of a.now)
expr_in (form.Binary o a b) = binary o (expr_of a.now) (expr_of b.now)
expr_in (form.Attribute p text) = attribute (parts_of p.now) text.now
expr_in (form.Applied p text a) = applied (parts_of p.now) text.now (expr_of a.now)
expr_in (form.Component p text) = component (expr_of p.now) text.now
expr_in form.Other = other

-- the expressions in it are below the node
abbrev pub Below : Node → ExprForm → Type 0
Below node (form.Int text) = Unit {0}
Below node (form.Name n) = Unit {0}
Below node (form.Unary o a) = size-Node a.now < size-Node node
Below node (form.Binary o a b) = (size-Node a.now < size-Node node) × (size-Node b.now < size-Node node)
Below node (form.Attribute p text) = Unit {0}
Below node (form.Applied p text a) = size-Node a.now < size-Node node
Below node (form.Component p text) = size-Node p.now < size-Node node
Below node form.Other = Unit {0}
