-- What operators and modes are written with.
use Rattle.std.specs.Prelude.{ℕ, List, [], ◌∷◌, ◌++◌, Option, Some, None}
use Rattle.ada_tree.specs.declared.word.Word.{Word}
use Rattle.ada_tree.specs.declared.word.Mark.{Mark}
use Rattle.ada_tree.specs.declared.word.TheConstants.{WORDS}
use Rattle.ada_tree.specs.Words.{word_of, mark_of}
use Rattle.ada_tree.specs.Tokens.{a_number, a_word, a_mark}
use Rattle.ada_tree.specs.Texts.{name_items, label_item, dotted}
use Rattle.ada_tree.specs.Items.{Item, put}

abbrev pub word_part : Option Word → List Item
word_part None = []
word_part (Some w) = put (a_word w) ∷ []

abbrev pub mark_part : Option Mark → List Item
mark_part None = []
mark_part (Some m) = put (a_mark m) ∷ []

-- one of the parts between blanks
abbrev pub symbol_part : List ℕ → List Item
symbol_part text = word_part (word_of WORDS text) ++ mark_part (mark_of text)

-- the name of a unit, the label of a cut point and a number
abbrev pub point_items : List ℕ → List ℕ → List ℕ → List Item
point_items unit label number = dotted (name_items unit) (dotted (label_item label ∷ []) (put (a_number number) ∷ []))
