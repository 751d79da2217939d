-- The tokens that serve at one place.
use Rattle.std.specs.Prelude.{ℕ, List, [], ◌∷◌, map, Bool, true, false}
use Rattle.std.specs.Cmp.Lexicographic.{pointwise}
use Rattle.std.specs.Char.{to_ascii_lowercase}
use denote.Enum.Bare.{sameb}
use Rattle.ada_tree.specs.declared.word.Word.{Word}
use Rattle.ada_tree.specs.declared.word.Word.TheVariants as word
use Rattle.ada_tree.specs.declared.word.Mark.{Mark}
use Rattle.ada_tree.specs.declared.word.Mark.TheVariants as mark
use Rattle.ada_tree.specs.declared.grammar.Argument.{Argument}
use Rattle.ada_tree.specs.declared.grammar.Argument.TheVariants as argument
use Rattle.ada_tree.specs.contracts.grammar.Argument as argument_row
use Rattle.ada_tree.specs.Rules.{arguments_of}
use Rattle.reading_table.specs.declared.symbol.Form.{Form}
use Rattle.reading_table.specs.declared.symbol.Form.TheVariants as form
use Rattle.reading_table.specs.declared.symbol.Tokens.{Tokens}
use Rattle.reading_table.specs.declared.symbol.Tokens.TheVariants as tokens

-- ---- names of rules of proof, by the form of their arguments

-- a table: each form, and the arguments of the rules that have it
abbrev pub arguments_in : Form → List Argument
arguments_in form.Plain = []
arguments_in form.Number = argument.Number ∷ []
arguments_in form.Name = argument.Name ∷ []
arguments_in form.NumberTerm = argument.Number ∷ argument.Term ∷ []
arguments_in form.Term = argument.Term ∷ []
arguments_in form.NumberName = argument.Number ∷ argument.Name ∷ []
arguments_in form.NumberIn = argument.Number ∷ argument.InNumber ∷ []
arguments_in form.NameIn = argument.Name ∷ argument.InNumber ∷ []
arguments_in form.NameNames = argument.Name ∷ argument.Names ∷ []
arguments_in form.Coefficients = argument.Coefficients ∷ []
arguments_in form.Lemma = argument.LemmaName ∷ argument.Terms ∷ []

-- the rule of proof of this name, in upper case, has arguments of the form
abbrev pub has_form : Form → List ℕ → Bool
has_form f text = pointwise (sameb argument_row.the_type) (arguments_of (map to_ascii_lowercase text)) (arguments_in f)

-- ---- sets of tokens

-- the words and the marks of a set
abbrev pub words_of : Tokens → List Word
words_of (tokens.Word w) = w ∷ []
words_of tokens.Multiplying = word.Mod ∷ word.Rem ∷ []
words_of tokens.Highest = word.Abs ∷ word.Not ∷ []
words_of tokens.Maker = word.Store ∷ word.Update ∷ word.Fill ∷ word.Make ∷ []
words_of _ = []

abbrev pub marks_of : Tokens → List Mark
marks_of (tokens.Mark m) = m ∷ []
marks_of tokens.Relational = mark.Equal ∷ mark.NotEqual ∷ mark.Less ∷ mark.LessEqual ∷ mark.Greater ∷ mark.GreaterEqual ∷ []
marks_of tokens.Adding = mark.Plus ∷ mark.Minus ∷ []
marks_of tokens.Multiplying = mark.Star ∷ mark.Slash ∷ []
marks_of _ = []

-- the set has the names whose rules of proof have arguments of its form, or all names
abbrev pub has_name : Tokens → List ℕ → Bool
has_name tokens.Name text = true
has_name (tokens.NameOf form) text = has_form form text
has_name _ text = false

abbrev pub has_number : Tokens → Bool
has_number tokens.Number = true
has_number _ = false
