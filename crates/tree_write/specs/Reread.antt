-- What is written is read again.
use Rattle.std.specs.Prelude.{ℕ, List, false}
use Rattle.ada_tree.specs.declared.kind.Kind.TheVariants as kind
use Rattle.ada_tree.specs.declared.grammar.Choice.TheVariants.{Only}
use Rattle.ada_tree.specs.declared.node.Node.{Node}
use Rattle.ada_tree.specs.Reading.{IsReading}
use Rattle.lex_ada.specs.declared.token.Token.{Token}
use Rattle.lex_ada.specs.Lexis.{AreTokens}
use Rattle.lex_ada.specs.Meanings.{meanings}

-- the bytes have tokens, which are read as this file within the limits
pub record AreReadAs (bytes : List ℕ) (file : Node) : Type 0 where
  pub tokens : List Token
  pub fall : AreTokens bytes tokens
  pub reading : IsReading false (Only kind.File) (meanings bytes tokens) file
