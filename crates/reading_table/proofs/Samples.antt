-- Whatever has been read by the reading table goes on to something that is read: each token has an example, and each part a sample.
use Rattle.std.proofs.Common.{◌≡◌, ℕ, List, [], ◌++◌, refl, ap, subst, Option, Some, None, Bool, true, false, ◌&&◌, ◌||◌, append-nil}
use Rattle.std.specs.Prelude.{is_some, codes}
use Rattle.std.proofs.lemmas.Bool.{and_from}
use denote.Enum.Bare.{true_same}
use Rattle.ada_tree.specs.contracts.word.Word as word_row
use Rattle.ada_tree.specs.contracts.word.Mark as mark_row
use Rattle.ada_tree.specs.declared.word.Word.TheVariants as word
use Rattle.ada_tree.specs.declared.word.Mark.TheVariants as mark
use Rattle.ada_tree.specs.Tokens.{Lexeme, a_name, a_number, a_word, a_mark}
use Rattle.reading_table.specs.declared.symbol.Form.{Form}
use Rattle.reading_table.specs.declared.symbol.Form.TheVariants as form
use Rattle.reading_table.specs.declared.symbol.Symbol.{Symbol}
use Rattle.reading_table.specs.declared.symbol.Symbol.TheVariants as symbol
use Rattle.reading_table.specs.declared.symbol.Tokens.{Tokens}
use Rattle.reading_table.specs.declared.symbol.Tokens.TheVariants as tokens
use Rattle.reading_table.specs.Rows.{Placed, Part}
use Rattle.reading_table.specs.States.{Token, State, is_of, closes}
use Rattle.reading_table.specs.Reading.{reading_table, may_be, is_side}
use Rattle.reading_table.proofs.Faults.{AreExamples, sample, rows_can_be}
use Rattle.reading_table.proofs.Parts.{tests, of_each_part}

-- a name of each form
abbrev name_of : Form → List ℕ
name_of form.Plain = codes "A"
name_of form.Number = codes "HYP"
name_of form.Name = codes "DESCEND"
name_of form.NumberTerm = codes "ALL_HYP"
name_of form.Term = codes "CUT"
name_of form.NumberName = codes "SOME_HYP"
name_of form.NumberIn = codes "REWRITE"
name_of form.NameIn = codes "UNFOLD"
name_of form.NameNames = codes "INDUCT"
name_of form.Coefficients = codes "LINEAR"
name_of form.Lemma = codes "LEMMA"

abbrev lexeme_of : Tokens → Lexeme
lexeme_of (tokens.Word w) = a_word w
lexeme_of (tokens.Mark m) = a_mark m
lexeme_of tokens.Name = a_name (codes "A")
lexeme_of (tokens.NameOf f) = a_name (name_of f)
lexeme_of tokens.Number = a_number (codes "1")
lexeme_of tokens.Relational = a_mark mark.Equal
lexeme_of tokens.Adding = a_mark mark.Plus
lexeme_of tokens.Multiplying = a_mark mark.Star
lexeme_of tokens.Highest = a_word word.Abs
lexeme_of tokens.Maker = a_word word.Store

abbrev token_of : Bool → Tokens → Token
token_of note set = record { comments = []; note = note; lexeme = lexeme_of set }

-- a closing name has none, since which it is depends on what has been read
abbrev pub example : Placed → Option Token
example s = by s.0 s.1
  where
    by : Bool → Symbol → Option Token
    by note (symbol.Take set) = Some (token_of note set)
    by note (symbol.Keep set) = Some (token_of note set)
    by note _ = None

example_of : (note : Bool) (set : Tokens) → is_of set (lexeme_of set) ≡ true
example_of note (tokens.Word w) = ap (λ b. b || false) (true_same word_row.the_type w w refl)
example_of note (tokens.Mark m) = ap (λ b. b || false) (true_same mark_row.the_type m m refl)
example_of note tokens.Name = refl
example_of note (tokens.NameOf f) = by f
  where
    by : (f : Form) → is_of (tokens.NameOf f) (lexeme_of (tokens.NameOf f)) ≡ true
    by form.Plain = refl
    by form.Number = refl
    by form.Name = refl
    by form.NumberTerm = refl
    by form.Term = refl
    by form.NumberName = refl
    by form.NumberIn = refl
    by form.NameIn = refl
    by form.NameNames = refl
    by form.Coefficients = refl
    by form.Lemma = refl
example_of note tokens.Number = refl
example_of note tokens.Relational = refl
example_of note tokens.Adding = refl
example_of note tokens.Multiplying = refl
example_of note tokens.Highest = refl
example_of note tokens.Maker = refl

itself : (b : Bool) → is_side b b ≡ true
itself true = refl
itself false = refl

fits_example : (note : Bool) (set : Tokens) → ((is_side note note && is_of set (lexeme_of set)) && true) ≡ true
fits_example note set = and_from (is_side note note && is_of set (lexeme_of set)) true (and_from (is_side note note) (is_of set (lexeme_of set)) (itself note) (example_of note set)) refl

nothing : (state : State) → record state { waiting = state.waiting ++ [] } ≡ state
nothing state = ap (λ waiting. record state { waiting = waiting }) (append-nil state.waiting)

serves : (note : Bool) (s : Symbol) (t : Token) (state : State) → example (note, s) ≡ Some t → (may_be (note, s) t && closes s state t.lexeme) ≡ true
serves note (symbol.Take set) t state h = let z : token_of note set ≡ t = cc in subst (λ t. (may_be (note, symbol.Take set) t && closes (symbol.Take set) state t.lexeme) ≡ true) z (fits_example note set)
serves note (symbol.Keep set) t state h = let z : token_of note set ≡ t = cc in subst (λ t. (may_be (note, symbol.Keep set) t && closes (symbol.Keep set) state t.lexeme) ≡ true) z (fits_example note set)
serves note _ t state h = absurd cc

brings_nothing : (note : Bool) (s : Symbol) (t : Token) (state : State) → example (note, s) ≡ Some t → reading_table.brings t state ≡ state
brings_nothing note (symbol.Take set) t state h = let z : token_of note set ≡ t = cc in subst (λ t. reading_table.brings t state ≡ state) z (nothing state)
brings_nothing note (symbol.Keep set) t state h = let z : token_of note set ≡ t = cc in subst (λ t. reading_table.brings t state ≡ state) z (nothing state)
brings_nothing note _ t state h = absurd cc

pub examples_serve : AreExamples reading_table example
examples_serve = record { serve = λ s t state h. serves s.0 s.1 t state h; plain = λ s t state h. brings_nothing s.0 s.1 t state h }

-- ---- computed

-- samples hold each other less deep
abbrev pub deepest_sample : ℕ
deepest_sample = 30

abbrev sampled : Part → Bool
sampled p = is_some (sample reading_table example deepest_sample p)

all_sampled : tests sampled ≡ true
all_sampled = refl

pub each_is_sampled : (p : Part) → is_some (sample reading_table example deepest_sample p) ≡ true
each_is_sampled = of_each_part sampled all_sampled

all_rows_can_be : tests (rows_can_be reading_table example) ≡ true
all_rows_can_be = refl

pub each_row_can_be : (p : Part) → rows_can_be reading_table example p ≡ true
each_row_can_be = of_each_part (rows_can_be reading_table example) all_rows_can_be
