-- What of a token tells how a part is read.
use Rattle.std.specs.Prelude.{map}
use Rattle.std.specs.Char.{to_ascii_lowercase}
use Rattle.ada_tree.specs.Rules.{rule_of}
use Rattle.ada_tree.specs.Tokens.{Lexeme, a_name, a_number, a_word, a_mark}
use Rattle.reading_machine.specs.declared.sight.Class.{Class}
use Rattle.reading_machine.specs.declared.sight.Class.TheVariants as class
use Rattle.reading_machine.specs.declared.sight.Sight.{Sight}
use Rattle.reading_table.specs.States.{Token}

-- a name by the rule of proof that bears it, if one does
abbrev pub class_of : Lexeme → Class
class_of (a_name text) = class.Name (rule_of (map to_ascii_lowercase text))
class_of (a_number text) = class.Number
class_of (a_word w) = class.Word w
class_of (a_mark m) = class.Mark m

abbrev pub sight_of : Token → Sight
sight_of t = record { note = t.note; class = class_of t.lexeme }
