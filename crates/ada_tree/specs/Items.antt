-- What canonical text is made of, before it is laid out.
use Rattle.std.specs.Prelude.{ℕ, List, [], ◌∷◌, map, Bool, true, false}
use Rattle.std.specs.Char.{to_ascii_uppercase}
use Rattle.ada_tree.specs.Tokens.{Lexeme, a_name, Sign, token, comment}

pub data Item : Type 0 where
  -- a token: a name in upper case, a word in lower case
  put : Lexeme → Item
  -- a name that is written in lower case
  put_small : List ℕ → Item
  -- no blank stands here
  glue : Item
  -- the line breaks here; so it does at the items that follow
  line_break indent outdent : Item
  -- an annotation begins and ends
  note_on note_off : Item
  -- a comment on a line of its own
  comment_line : List ℕ → Item

abbrev pub lexemes : List Item → List Lexeme
lexemes [] = []
lexemes (put lexeme ∷ items) = lexeme ∷ lexemes items
lexemes (put_small text ∷ items) = a_name (map to_ascii_uppercase text) ∷ lexemes items
lexemes (glue ∷ items) = lexemes items
lexemes (line_break ∷ items) = lexemes items
lexemes (indent ∷ items) = lexemes items
lexemes (outdent ∷ items) = lexemes items
lexemes (note_on ∷ items) = lexemes items
lexemes (note_off ∷ items) = lexemes items
lexemes (comment_line text ∷ items) = lexemes items

-- the tokens and comments of items that begin in an annotation or not
abbrev pub signs : Bool → List Item → List Sign
signs note [] = []
signs note (put lexeme ∷ items) = token note lexeme ∷ signs note items
signs note (put_small text ∷ items) = token note (a_name (map to_ascii_uppercase text)) ∷ signs note items
signs note (glue ∷ items) = signs note items
signs note (line_break ∷ items) = signs note items
signs note (indent ∷ items) = signs note items
signs note (outdent ∷ items) = signs note items
signs note (note_on ∷ items) = signs true items
signs note (note_off ∷ items) = signs false items
signs note (comment_line text ∷ items) = comment text ∷ signs note items
