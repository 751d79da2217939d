-- The word with which a text begins.
use Rattle.std.specs.Prelude.{List, [], ◌∷◌, Option, Some, None}
use Rattle.ada_tree.specs.declared.word.Word.{Word}
use Rattle.ada_tree.specs.Tokens.{Lexeme, a_word, Sign, token, comment}

abbrev pub word_in : Lexeme → Option Word
word_in (a_word w) = Some w
word_in _ = None

-- its first token, if that is a word; comments may stand before it
abbrev pub first_word : List Sign → Option Word
first_word [] = None
first_word (comment text ∷ signs) = first_word signs
first_word (token note lexeme ∷ signs) = word_in lexeme
