-- Tokens of the code as the table has them.
use Rattle.std.specs.Prelude.{[]}
use Rattle.ada_tree.specs.Tokens.{Lexeme, a_name, a_number, a_word, a_mark}
use Rattle.reading_machine.specs.declared.lexeme.Lexeme.{Lexeme as Read}
use Rattle.reading_machine.specs.declared.lexeme.Lexeme.TheVariants as read
use Rattle.reading_machine.specs.declared.lexeme.Token.{Token as ReadToken}
use Rattle.reading_table.specs.States.{Token}

abbrev pub lexeme_of : Read → Lexeme
lexeme_of (read.Name text) = a_name text
lexeme_of (read.Number text) = a_number text
lexeme_of (read.Word w) = a_word w
lexeme_of (read.Mark m) = a_mark m

-- the comments before it have come before
abbrev pub token_of : ReadToken → Token
token_of t = record { comments = []; note = t.note; lexeme = lexeme_of t.lexeme }
