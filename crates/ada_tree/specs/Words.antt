-- How words and marks are written, by their tables.
use Rattle.std.specs.Prelude.{ℕ, List, [], Option, bytes_eq, take, drop, slice_get}
use Rattle.std.specs.Option.{option_map_or}
use denote.Enum.Declared.{tag_of}
use Rattle.ada_tree.specs.declared.word.Word.{Word}
use Rattle.ada_tree.specs.contracts.word.Word as word_row
use Rattle.ada_tree.specs.declared.word.Mark.{Mark}
use Rattle.ada_tree.specs.contracts.word.Mark as mark_row
use Rattle.ada_tree.specs.declared.word.TheConstants.{WORDS, RESERVED, MARKS}
use Rattle.ada_tree.specs.Tables.{first_value}

-- in lower case
abbrev pub word_text : Word → List ℕ
word_text w = option_map_or (λ row. row.1.now) (slice_get WORDS (tag_of word_row.the_type w)) []

abbrev pub mark_text : Mark → List ℕ
mark_text m = option_map_or (λ row. row.1.now) (slice_get MARKS (tag_of mark_row.the_type m)) []

-- a row of the words: the word, and how it is written
abbrev pub WordRow : Type 0
WordRow = Word × record { now : List ℕ }

-- the reserved words of Ada 83 (section 2.9 of its manual)
abbrev pub reserved_words : List WordRow
reserved_words = take RESERVED WORDS

-- the words that annotations have beside them
abbrev pub note_words : List WordRow
note_words = drop RESERVED WORDS

-- the word, and the mark, that is written so
abbrev pub word_of : List WordRow → List ℕ → Option Word
word_of rows text = first_value (λ (row : WordRow). row.0) (λ (row : WordRow). bytes_eq row.1.now text) rows

abbrev pub mark_of : List ℕ → Option Mark
mark_of text = first_value (λ row. row.0) (λ row. bytes_eq row.1.now text) MARKS
