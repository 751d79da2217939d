-- Texts of parts of the grammar.
use Rattle.std.specs.Prelude.{ℕ, List, [], ◌∷◌, ◌++◌, if◌then◌else◌}
use Rattle.ada_tree.specs.declared.node.Node.{Node}
use Rattle.ada_tree.specs.declared.part.Part.{Part}
use Rattle.ada_tree.specs.declared.part.Rule.{Rule}
use Rattle.ada_tree.specs.Parts.{place_of, has_noted_tokens}
use Rattle.ada_tree.specs.Reading.{takes_comments}
use Rattle.ada_tree.specs.Tokens.{Sign}
use Rattle.lex_ada.specs.declared.token.Token.{Token}
use Rattle.lex_ada.specs.Lexis.{AreTokens}
use Rattle.lex_ada.specs.Meanings.{meanings}
use Rattle.reading_limits.specs.Viable.{ReadsWithin}
use Rattle.reading_table.specs.declared.symbol.Symbol.{Symbol}
use Rattle.reading_table.specs.declared.symbol.Symbol.TheVariants as symbol
use Rattle.reading_table.specs.Starts.{start_line}
use Rattle.text_signs.specs.Fragments.{noted_tokens}

-- where the part stands in annotations, all tokens are annotation tokens
abbrev pub tokens_in : Part → List ℕ → List Token → List Token
tokens_in part source tokens = if has_noted_tokens part then noted_tokens source tokens else tokens

abbrev pub signs_in : Part → List ℕ → List Token → List Sign
signs_in part source tokens = meanings source (tokens_in part source tokens)

-- the text is one of the part, and spells the node, within the limits
pub record IsText (part : Part) (bytes : List ℕ) (node : Node) : Type 0 where
  pub tokens : List Token
  pub are_tokens : AreTokens bytes tokens
  pub reads : ReadsWithin 0 part (signs_in part bytes tokens) node

-- ---- how it is read

-- the symbols with which a text of the part is read whole, apart from their side
abbrev pub whole_line : Rule → List Symbol
whole_line r = if takes_comments (place_of r) then symbol.Notes ∷ start_line (place_of r) ++ symbol.Noted ∷ [] else start_line (place_of r)
