-- How items are laid out: one blank between tokens, three for each step of indentation, `--| ` before each line of an annotation.
use Rattle.std.specs.Prelude.{ℕ, suc, ◌-◌, ◌*◌, List, [], ◌∷◌, ◌++◌, Bool, true, false, ◌||◌, if◌then◌else◌, Option, Some, None, replicate, codes, slice_get}
use denote.Enum.Bare.{sameb}
use Rattle.base_kit.specs.Bytes as byte
use Rattle.ada_tree.specs.contracts.word.Mark as mark_row
use Rattle.std.specs.List.{list_any}
use Rattle.ada_tree.specs.declared.kind.Kind.TheVariants as kind
use Rattle.ada_tree.specs.declared.word.Mark.{Mark}
use Rattle.ada_tree.specs.declared.word.Mark.TheVariants as mark
use Rattle.ada_tree.specs.declared.grammar.Choice.TheVariants as choice
use Rattle.ada_tree.specs.declared.grammar.Shape.TheVariants.{One}
use Rattle.ada_tree.specs.declared.node.Node.{Node}
use Rattle.ada_tree.specs.Words.{word_text, mark_text}
use Rattle.ada_tree.specs.Nodes.{kids_of}
use Rattle.ada_tree.specs.Tokens.{Lexeme, a_name, a_number, a_word, a_mark}
use Rattle.ada_tree.specs.Items.{Item, put, put_small, glue, line_break, indent, outdent, note_on, note_off, comment_line}
use Rattle.ada_tree.specs.Canonical.{items_of}

-- Where writing stands: how many steps the lines are indented by; for an annotation how many the text round it is; whether a line begins here; whether no blank stands before the next token.
pub record Pen : Type 0 where
  pub depth : ℕ
  pub outer : Option ℕ
  pub is_fresh : Bool
  pub is_tight : Bool

abbrev pub start : Pen
start = record { depth = 0; outer = None; is_fresh = true; is_tight = false }

abbrev pub blanks : ℕ → List ℕ
blanks steps = replicate (3 * steps) byte.space

-- what a line begins with
abbrev pub margin : ℕ → Option ℕ → List ℕ
margin depth None = blanks depth
margin depth (Some outer) = blanks outer ++ codes "--| " ++ blanks (depth - outer)

abbrev pub lexeme_text : Lexeme → List ℕ
lexeme_text (a_name text) = text
lexeme_text (a_number text) = text
lexeme_text (a_word w) = word_text w
lexeme_text (a_mark m) = mark_text m

abbrev pub is_one_of : List Mark → Lexeme → Bool
is_one_of marks (a_mark m) = list_any (λ wanted. sameb mark_row.the_type wanted m) marks
is_one_of marks _ = false

abbrev pub has_no_blank_before : Lexeme → Bool
has_no_blank_before lexeme = is_one_of (mark.Semicolon ∷ mark.Comma ∷ mark.Close ∷ mark.CloseBracket ∷ mark.Tick ∷ mark.Dot ∷ []) lexeme

abbrev pub has_no_blank_after : Lexeme → Bool
has_no_blank_after lexeme = is_one_of (mark.Open ∷ mark.OpenBracket ∷ mark.Tick ∷ mark.Dot ∷ []) lexeme

abbrev pub gap : Pen → Bool → List ℕ
gap pen no_blank = if pen.is_fresh then margin pen.depth pen.outer else if pen.is_tight || no_blank then [] else byte.space ∷ []

abbrev pub after_token : Pen → Bool → Pen
after_token pen tight = record pen { is_fresh = false; is_tight = tight }

-- the line ends, if anything stands in it
abbrev pub line_end : Pen → List ℕ
line_end pen = if pen.is_fresh then [] else byte.line_feed ∷ []

-- at the beginning of a line, so deep, in an annotation or not
abbrev pub fresh : ℕ → Option ℕ → Pen
fresh depth outer = record { depth = depth; outer = outer; is_fresh = true; is_tight = false }

abbrev pub render : Pen → List Item → List ℕ
render pen [] = line_end pen
render pen (put lexeme ∷ items) = gap pen (has_no_blank_before lexeme) ++ lexeme_text lexeme ++ render (after_token pen (has_no_blank_after lexeme)) items
render pen (put_small text ∷ items) = gap pen false ++ text ++ render (after_token pen false) items
render pen (glue ∷ items) = render (record pen { is_tight = true }) items
render pen (line_break ∷ items) = line_end pen ++ render (fresh pen.depth pen.outer) items
render pen (indent ∷ items) = line_end pen ++ render (fresh (suc pen.depth) pen.outer) items
render pen (outdent ∷ items) = line_end pen ++ render (fresh (pen.depth - 1) pen.outer) items
render pen (note_on ∷ items) = line_end pen ++ render (fresh pen.depth (Some pen.depth)) items
render pen (note_off ∷ items) = line_end pen ++ render (fresh pen.depth None) items
render pen (comment_line text ∷ items) = line_end pen ++ margin pen.depth pen.outer ++ text ++ byte.line_feed ∷ render (fresh pen.depth pen.outer) items

abbrev pub file_text : Option Node → List ℕ
file_text None = []
file_text (Some file) = render start (items_of (One (choice.Only kind.File)) file)

-- The canonical text of a document's file, counted from 0. A file that isn't there has no bytes.
abbrev pub text : Node → ℕ → List ℕ
text doc number = file_text (slice_get (kids_of doc) number)
