-- A word that bytes spell is one of its side, and a mark is a mark.
use Rattle.std.proofs.Common.{◌≡◌, ℕ, List, [], ◌∷◌, ◌++◌, map, Bool, true, false, ◌&&◌, ◌||◌, refl, sym, ◌∙◌, ap, Option, Some, None}
use Rattle.std.specs.Prelude.{bytes_eq, cond, is_some, IfSome}
use Rattle.std.specs.Char.{to_ascii_lowercase}
use Rattle.std.proofs.lemmas.Bool.{and_parts, and_from, or_left, or_right}
use Rattle.ada_tree.specs.declared.word.Word.{Word}
use Rattle.ada_tree.specs.declared.word.Mark.{Mark}
use Rattle.ada_tree.specs.declared.word.TheConstants.{WORDS}
use Rattle.ada_tree.specs.Tables.{first_value}
use Rattle.ada_tree.specs.Words.{WordRow, reserved_words, note_words, word_of, mark_of}
use Rattle.ada_tree.specs.Texts.{is_word_among}
use Rattle.ada_tree.specs.Tokens.{Lexeme, a_word, a_mark, Sign, token}
use Rattle.ada_tree.proofs.Found.{found}
use Rattle.lex_ada.specs.declared.token.TokenKind.TheVariants as kind
use Rattle.lex_ada.specs.Lexis.{spells}
use Rattle.lex_ada.specs.Meanings.{meaning}
use Rattle.lex_ada.specs.Rendered.{is_word_of, is_fitting}
use Rattle.reading_exact.specs.Whole.{are_signs}

-- ---- the sign of what is found in a table

-- the sign of a value, where there is one
abbrev option_signs : {V : Type 0} → (V → Lexeme) → Bool → Option V → List Sign
option_signs make note None = []
option_signs make note (Some v) = token note (make v) ∷ []

-- it fits where the value does
option_fits : {V : Type 0} (make : V → Lexeme) (note : Bool) (o : Option V) → IfSome o (λ v. is_fitting note (make v) ≡ true) → are_signs (option_signs make note o) ≡ true
option_fits make note None h = refl
option_fits make note (Some v) h = and_from (is_fitting note (make v)) true h refl

-- what is found in one table before another is found in the first, or in the second where the first has nothing
found_in_both : {R V : Type 0} (value : R → V) (test : R → Bool) (P : V → Type 0) (rows others : List R) → IfSome (first_value value test rows) P
    → (is_some (first_value value test rows) ≡ false → IfSome (first_value value test others) P) → IfSome (first_value value test (rows ++ others)) P
found_in_both value test P [] others here there = there refl
found_in_both {V = V} value test P (row ∷ rows) others here there = by (test row) (first_value value test rows) here there (found_in_both value test P rows others)
  where
    by : (t : Bool) (more : Option V) → IfSome (cond t (Some (value row)) more) P → (is_some (cond t (Some (value row)) more) ≡ false → IfSome (first_value value test others) P)
        → (IfSome more P → (is_some more ≡ false → IfSome (first_value value test others) P) → IfSome (first_value value test (rows ++ others)) P)
        → IfSome (cond t (Some (value row)) (first_value value test (rows ++ others))) P
    by true more here there later = here
    by false more here there later = later here there

-- ---- words

-- a word is spelled on its side
abbrev IsOfSide : Bool → Word → Type 0
IsOfSide note w = is_fitting note (a_word w) ≡ true

-- what a word is found to be is of the side on which bytes spell it
word_of_side : (note : Bool) (bytes : List ℕ) → spells note kind.Word bytes ≡ true → IfSome (word_of WORDS (map to_ascii_lowercase bytes)) (IsOfSide note)
word_of_side note bytes e =
    let lower : List ℕ = map to_ascii_lowercase bytes in
    let is_here : WordRow → Bool = λ row. bytes_eq row.1.now lower in
    found_in_both (λ (row : WordRow). row.0) is_here (IsOfSide note) reserved_words note_words
    (found (λ (row : WordRow). row.0) is_here (λ row. is_word_of reserved_words row.0) (IsOfSide note) (λ row is here. or_left (is_word_of reserved_words row.0) _ here) reserved_words refl)
    (λ none.
    let noted = and_parts note (is_word_among note_words bytes) (sym (ap (λ (t : Bool). t || (note && is_word_among note_words bytes)) none) ∙ e) in
    found (λ (row : WordRow). row.0) is_here (λ row. is_word_of note_words row.0) (IsOfSide note)
    (λ row is here. or_right (is_word_of reserved_words row.0) _ (and_from note (is_word_of note_words row.0) noted.0 here)) note_words refl)

-- the sign of a word that bytes spell fits
pub word_fits : (note : Bool) (bytes : List ℕ) → spells note kind.Word bytes ≡ true → are_signs (meaning kind.Word note bytes) ≡ true
word_fits note bytes e = option_fits a_word note (word_of WORDS (map to_ascii_lowercase bytes)) (word_of_side note bytes e)

-- ---- marks

-- each mark fits
mark_of_side : (note : Bool) (o : Option Mark) → IfSome o (λ m. is_fitting note (a_mark m) ≡ true)
mark_of_side note None = tt
mark_of_side note (Some m) = refl

-- the sign of a mark fits
pub mark_fits : (note : Bool) (bytes : List ℕ) → are_signs (meaning kind.Mark note bytes) ≡ true
mark_fits note bytes = option_fits a_mark note (mark_of bytes) (mark_of_side note (mark_of bytes))
