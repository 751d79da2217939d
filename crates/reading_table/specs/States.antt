-- What has been read, and what the symbols of the table do with it.
use Rattle.std.specs.Prelude.{ℕ, List, [], ◌∷◌, ◌++◌, map, take, drop, slice_get, Bool, true, bytes_eq}
use Rattle.std.specs.Char.{to_ascii_lowercase}
use Rattle.std.specs.List.{list_any}
use Rattle.std.specs.Option.{option_map_or}
use denote.Enum.Bare.{sameb}
use Rattle.ada_tree.specs.declared.kind.Kind.{Kind}
use Rattle.ada_tree.specs.declared.node.Node.{Node}
use Rattle.ada_tree.specs.contracts.word.Word as word_row
use Rattle.ada_tree.specs.contracts.word.Mark as mark_row
use Rattle.ada_tree.specs.Nodes.{kind_of, text_of, notes_of, kids_of, node_of}
use Rattle.ada_tree.specs.Tokens.{Lexeme, a_name, a_number, a_word, a_mark}
use Rattle.ada_tree.specs.Words.{word_text}
use Rattle.ada_tree.specs.Rendering.{lexeme_text}
use Rattle.reading_table.specs.declared.held.Held.{Held}
use Rattle.reading_table.specs.declared.held.Held.TheVariants as held
use Rattle.reading_table.specs.declared.symbol.Symbol.{Symbol}
use Rattle.reading_table.specs.declared.symbol.Symbol.TheVariants as symbol
use Rattle.reading_table.specs.declared.symbol.Tokens.{Tokens}
use Rattle.reading_table.specs.declared.symbol.Tokens.TheVariants as tokens
use Rattle.reading_table.specs.TokenSets.{words_of, marks_of, has_name, has_number}

-- ---- tokens

-- a token, and the comments before it
pub record Token : Type 0 where
  pub comments : List (List ℕ)
  pub note : Bool
  pub lexeme : Lexeme

-- the token is of the set
abbrev pub is_of : Tokens → Lexeme → Bool
is_of set (a_name text) = has_name set text
is_of set (a_number text) = has_number set
is_of set (a_word w) = list_any (sameb word_row.the_type w) (words_of set)
is_of set (a_mark m) = list_any (sameb mark_row.the_type m) (marks_of set)

-- ---- values

-- the values, of which the last one is first, and the comments that no place has taken yet
pub record State : Type 0 where
  pub values : List Held
  pub waiting : List (List ℕ)

-- of values, the last one first: the text among them, and the nodes in order
abbrev pub text_in : List Held → List ℕ
text_in [] = []
text_in (held.Text text ∷ values) = text
text_in (_ ∷ values) = text_in values

abbrev pub nodes_in : List Held → List Node
nodes_in [] = []
nodes_in (held.Tree node ∷ values) = nodes_in values ++ node ∷ []
nodes_in (_ ∷ values) = nodes_in values

abbrev pub built : Kind → ℕ → List Held → List Held
built k count values = held.Tree (node_of k (text_in (take count values)) [] (nodes_in (take count values))) ∷ drop count values

abbrev pub joined : List Held → List Held
joined (held.Tree member ∷ held.Tree list ∷ values) = held.Tree (node_of (kind_of list) (text_of list) (notes_of list) (kids_of list ++ member ∷ [])) ∷ values
joined values = values

abbrev pub pasted : ℕ → List Held → List Held
pasted between (held.Text back ∷ held.Text front ∷ values) = held.Text (front ++ between ∷ back) ∷ values
pasted between values = values

abbrev pub lowered : List Held → List Held
lowered (held.Text text ∷ values) = held.Text (map to_ascii_lowercase text) ∷ values
lowered values = values

abbrev pub text_held : Held → List ℕ
text_held (held.Text text) = text
text_held (held.Comments comments) = []
text_held (held.Tree node) = text_of node

-- the text of the value so many below the last one
abbrev pub text_below : ℕ → List Held → List ℕ
text_below depth values = option_map_or text_held (slice_get values depth) []

abbrev pub with_notes : List (List ℕ) → Node → Node
with_notes notes node = node_of (kind_of node) (text_of node) notes (kids_of node)

abbrev pub noted : List Held → List Held
noted (held.Tree node ∷ held.Comments comments ∷ values) = held.Tree (with_notes comments node) ∷ values
noted values = values

abbrev pub end_noted : List (List ℕ) → List Held → List Held
end_noted comments (held.Tree node ∷ values) = held.Tree (with_notes comments node) ∷ values
end_noted comments values = values

abbrev pub with_values : State → List Held → State
with_values state values = record state { values = values }

-- ---- what symbols do

abbrev pub does : Symbol → State → State
does (symbol.Build k count) state = with_values state (built k count state.values)
does symbol.Join state = with_values state (joined state.values)
does (symbol.Say w) state = with_values state (held.Text (word_text w) ∷ state.values)
does (symbol.Paste between) state = with_values state (pasted between state.values)
does symbol.Lower state = with_values state (lowered state.values)
does (symbol.Recall depth) state = with_values state (held.Text (text_below depth state.values) ∷ state.values)
does symbol.Notes state = record { values = held.Comments state.waiting ∷ state.values; waiting = [] }
does symbol.Noted state = with_values state (noted state.values)
does symbol.EndNotes state = record { values = end_noted state.waiting state.values; waiting = [] }
does _ state = state

-- the tokens that may stand for a symbol
abbrev pub set_of : Symbol → Tokens
set_of (symbol.Take set) = set
set_of (symbol.Keep set) = set
set_of _ = tokens.Name

-- a closing name is the one that is closed
abbrev pub closes : Symbol → State → Lexeme → Bool
closes (symbol.Closing depth) state lexeme = bytes_eq (lexeme_text lexeme) (text_below depth state.values)
closes _ state lexeme = true

abbrev pub taken : Symbol → State → Lexeme → State
taken (symbol.Keep set) state lexeme = with_values state (held.Text (lexeme_text lexeme) ∷ state.values)
taken _ state lexeme = state
