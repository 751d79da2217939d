-- Which documents there are.
use Rattle.std.specs.Prelude.{List, [], false}
use Rattle.ada_tree.specs.declared.kind.Kind.TheVariants as kind
use Rattle.ada_tree.specs.declared.grammar.Choice.TheVariants.{Only}
use Rattle.ada_tree.specs.declared.node.Node.{Node}
use Rattle.ada_tree.specs.Tokens.{Event}
use Rattle.ada_tree.specs.Spelling.{SpellsNode}
use Rattle.ada_tree.specs.Reading.{IsNested}

-- Some tokens, with comments at their places, spell the document, and its nodes and proof steps are nested within the limits. So its kinds, own texts, comments and the order of its kids are those of the grammar. That a text of it has at most so many open parentheses follows: canonical text does.
pub record Fits (root : Node) : Type 0 where
  pub events : List Event
  pub spelling : SpellsNode false (Only kind.Doc) root events []
  pub nested : IsNested root
