-- What texts, and the spellings of nodes, are made of.
use Rattle.std.specs.Prelude.{ℕ, List, [], ◌∷◌, Bool}
use Rattle.ada_tree.specs.declared.word.Word.{Word}
use Rattle.ada_tree.specs.declared.word.Mark.{Mark}

-- What a token is. A name has its text in upper case, a number without underscores and leading zeros.
pub data Lexeme : Type 0 where
  a_name a_number : List ℕ → Lexeme
  a_word : Word → Lexeme
  a_mark : Mark → Lexeme

-- A text is made of tokens, each in annotation text or not, and of ordinary comments.
pub data Sign : Type 0 where
  token : Bool → Lexeme → Sign
  comment : List ℕ → Sign

-- The spelling of a node is made of tokens, and of the places to which comments belong, with those that belong there.
pub data Event : Type 0 where
  spelled : Bool → Lexeme → Event
  comments : List (List ℕ) → Event

-- these tokens, and then the others
abbrev pub spell : Bool → List Lexeme → List Event → List Event
spell note [] others = others
spell note (lexeme ∷ lexemes) others = spelled note lexeme ∷ spell note lexemes others
