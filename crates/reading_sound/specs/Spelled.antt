-- What it is for values to be the node that events spell.
use Rattle.std.specs.Prelude.{◌≡◌, List, [], ◌∷◌}
use Rattle.ada_tree.specs.declared.node.Node.{Node}
use Rattle.ada_tree.specs.declared.part.Part.{Part as GrammarPart}
use Rattle.ada_tree.specs.Tokens.{Event}
use Rattle.reading_table.specs.declared.held.Held.{Held}
use Rattle.reading_table.specs.declared.held.Held.TheVariants as held
use Rattle.reading_table.specs.Spelled.{SpelledAs}

-- the values are one node, and the events spell it as the part, all of them
pub record IsSpelled (part : GrammarPart) (events : List Event) (last : List Held) : Type 0 where
  pub node : Node
  pub only : last ≡ held.Tree node ∷ []
  pub spells : SpelledAs part node events []
