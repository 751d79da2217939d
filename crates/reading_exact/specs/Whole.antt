-- What it is for a text to be read whole as a part of the grammar: token by token, by the machine's definition.
use Rattle.std.specs.Prelude.{◌≡◌, ℕ, List, [], ◌∷◌, ◌++◌, Bool, Result, Ok, if◌then◌else◌}
use Rattle.std.specs.List.{list_all}
use Rattle.ada_tree.specs.declared.node.Node.{Node}
use Rattle.ada_tree.specs.declared.part.Part.{Part as GrammarPart}
use Rattle.ada_tree.specs.Parts.{place_of, is_noted}
use Rattle.ada_tree.specs.Reading.{takes_comments, IsUnlimitedReading}
use Rattle.ada_tree.specs.Texts.{is_comment}
use Rattle.ada_tree.specs.Tokens.{Sign, token, comment}
use Rattle.lex_ada.specs.Rendered.{is_fitting}
use Rattle.reading_table.specs.declared.held.Held.TheVariants as held
use Rattle.reading_table.specs.declared.symbol.Symbol.TheVariants as symbol
use Rattle.reading_table.specs.Machine.{run}
use Rattle.reading_table.specs.Reading.{reading_table, deepest}
use Rattle.reading_table.specs.Rows.{Placed}
use Rattle.reading_table.specs.Signs.{tokens_of, end_of}
use Rattle.reading_table.specs.Spelled.{start_of}
use Rattle.reading_table.specs.States.{State}
use Rattle.reading_table.specs.Tables.{arrived}

-- tokens and comments that there are in texts
abbrev pub is_sign : Sign → Bool
is_sign (token note lexeme) = is_fitting note lexeme
is_sign (comment text) = is_comment text

abbrev pub are_signs : List Sign → Bool
are_signs signs = list_all is_sign signs

-- with the comments before it, or without
abbrev pub start_with : Bool → GrammarPart → List Placed
start_with commented part = if commented then (is_noted part, symbol.Notes) ∷ start_of part ++ (is_noted part, symbol.Noted) ∷ [] else start_of part

-- with which symbols a text of the part is read whole
abbrev pub whole_start : GrammarPart → List Placed
whole_start part = start_with (takes_comments (place_of part.rule)) part

-- nothing has been read, but the comments before the first token have come
abbrev pub at_start : List Sign → State
at_start signs = arrived reading_table (end_of signs) (tokens_of signs) record { values = []; waiting = [] }

-- the state in the end, or the number of tokens before the first one that is refused
abbrev pub read_whole : GrammarPart → List Sign → Result State ℕ
read_whole part signs = run reading_table deepest (end_of signs) (whole_start part) (at_start signs) (tokens_of signs)

-- apart from the limits, the grammar reads the tokens and comments as the node
abbrev pub GrammarReads : GrammarPart → List Sign → Node → Type 0
GrammarReads part signs node = IsUnlimitedReading (is_noted part) (place_of part.rule) signs node

-- the table does
pub record TableReads (part : GrammarPart) (signs : List Sign) (node : Node) : Type 0 where
  pub state : State
  pub read : read_whole part signs ≡ Ok state
  pub only : state.values ≡ held.Tree node ∷ []

-- what has been read in the end is one node, as which the grammar reads the tokens and comments
pub record GivesNode (part : GrammarPart) (signs : List Sign) (state : State) : Type 0 where
  pub node : Node
  pub only : state.values ≡ held.Tree node ∷ []
  pub reading : GrammarReads part signs node
