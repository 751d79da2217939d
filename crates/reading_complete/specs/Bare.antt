-- What the table makes of a node: it has no comments, since those before it are read outside it. A file keeps those at its end.
use Rattle.std.specs.Prelude.{[], if◌then◌else◌}
use Rattle.ada_tree.specs.declared.kind.Kind.TheVariants as kind
use Rattle.ada_tree.specs.declared.node.Node.{Node}
use Rattle.ada_tree.specs.Kinds.{is_kind}
use Rattle.ada_tree.specs.Nodes.{kind_of}
use Rattle.reading_table.specs.States.{with_notes}

abbrev pub bare : Node → Node
bare node = if is_kind (kind_of node) kind.File then node else with_notes [] node
