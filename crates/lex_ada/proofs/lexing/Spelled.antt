-- What words, names and numbers are made of, and how far each goes in a text.
use Rattle.std.proofs.Common.{◌≡◌, ◌≤◌, ℕ, suc, ◌+◌, List, [], ◌∷◌, length, map, Bool, true, false, not, cond, refl, sym, ◌∙◌, ap, subst, arith}
use Rattle.std.specs.Prelude.{◌==◌, ◌&&◌, ◌||◌, nat_le, bytes_eq, count_by, is_some, Some}
use Rattle.std.specs.List.{list_all}
use Rattle.std.specs.Char.{is_ascii_alphabetic, is_ascii_alphanumeric, is_ascii_digit, to_ascii_lowercase}
use Rattle.std.proofs.lemmas.Bool.{and_parts, and_from, or_parts, or_left, or_from, not-true, not_from_false, cond_both, cond-true, cond-false, leb-true, le-leb}
use Rattle.std.proofs.lemmas.List.{length-map}
use Rattle.std.proofs.lemmas.Slice.Eq.{bytes_eq-Decides}
use Rattle.ada_tree.specs.declared.limits.TheConstants.{LONGEST_NAME}
use Rattle.base_kit.specs.Bytes.{underscore}
use Rattle.ada_tree.specs.Tables.{first_value}
use Rattle.ada_tree.specs.Words.{WordRow, reserved_words, note_words}
use Rattle.ada_tree.specs.Texts.{begins, is_spaced, is_identifier, is_word_among, is_free}
use Rattle.lex_ada.specs.declared.token.TokenKind.TheVariants as kind
use Rattle.lex_ada.specs.Lexis.{is_word_byte, is_numeral, spells, goes_on}
use Rattle.lex_ada.specs.Cutting.{longer, word_kind, name_length, number_length}
use Rattle.lex_ada.proofs.lexing.Letters.{letter_alphanumeric, letter_of_word, alphanumeric_no_underscore, digit_alphanumeric, lower_letter, lower_word, lower_underscore}
use Rattle.lex_ada.proofs.lexing.Runs.{IsRun, names, numbers, is_digit_byte, spaced_other, digit_weighs}

-- ---- words are identifiers

-- what the texts of all rows pass, a text that is found among them passes
pub found_passes : {R V : Type 0} (value : R → V) (spell : R → List ℕ) (good : List ℕ → Bool) (rows : List R) (text : List ℕ) → list_all (λ row. good (spell row)) rows ≡ true
    → is_some (first_value value (λ row. bytes_eq (spell row) text) rows) ≡ true → good text ≡ true
found_passes value spell good [] text e f = absurd (cc)
found_passes value spell good (row ∷ rows) text e f =
    let parts = and_parts (good (spell row)) (list_all (λ row. good (spell row)) rows) e in
    by (bytes_eq (spell row) text) refl parts (found_passes value spell good rows text parts.1)
  where
    by : (t : Bool) → bytes_eq (spell row) text ≡ t → (good (spell row) ≡ true) × (list_all (λ row. good (spell row)) rows ≡ true)
        → (is_some (first_value value (λ row. bytes_eq (spell row) text) rows) ≡ true → good text ≡ true) → good text ≡ true
    by true t parts more = subst (λ s. good s ≡ true) ((bytes_eq-Decides (spell row) text).0 t) parts.0
    by false t parts more = more (sym (ap is_some (cond-false (bytes_eq (spell row) text) (Some (value row)) _ t)) ∙ f)

-- a text that is found among the rows is that of a value
pub found_is : {R V : Type 0} (value : R → V) (spell : R → List ℕ) (own : V → List ℕ) (rows : List R) → list_all (λ row. bytes_eq (own (value row)) (spell row)) rows ≡ true
    → (text : List ℕ) → is_some (first_value value (λ row. bytes_eq (spell row) text) rows) ≡ true → (v : V) × (own v ≡ text)
found_is value spell own [] all text f = absurd (cc)
found_is {V = V} value spell own (row ∷ rows) all text f =
    let parts = and_parts (bytes_eq (own (value row)) (spell row)) (list_all (λ row. bytes_eq (own (value row)) (spell row)) rows) all in
    by (bytes_eq (spell row) text) refl parts.0 (found_is value spell own rows parts.1 text)
  where
    by : (t : Bool) → bytes_eq (spell row) text ≡ t → bytes_eq (own (value row)) (spell row) ≡ true
        → (is_some (first_value value (λ row. bytes_eq (spell row) text) rows) ≡ true → (v : V) × (own v ≡ text)) → (v : V) × (own v ≡ text)
    by true t same more = (value row, (bytes_eq-Decides (own (value row)) (spell row)).0 same ∙ (bytes_eq-Decides (spell row) text).0 t)
    by false t same more = more (sym (ap is_some (cond-false (bytes_eq (spell row) text) (Some (value row)) _ t)) ∙ f)

-- an identifier of a length within the limit
abbrev pub is_short : List ℕ → Bool
is_short text = is_identifier text && nat_le (length text) LONGEST_NAME

-- what each byte passes in lower case as well, all pass in lower case as well
pub list_all-lower : (test : ℕ → Bool) (text : List ℕ) → ((b : ℕ) → test (to_ascii_lowercase b) ≡ test b) → list_all test (map to_ascii_lowercase text) ≡ list_all test text
list_all-lower test [] h = refl
list_all-lower test (b ∷ text) h = ap (λ t. t && list_all test (map to_ascii_lowercase text)) (h b) ∙ ap (λ t. test b && t) (list_all-lower test text h)

begins-lower : (test : ℕ → Bool) (text : List ℕ) → ((b : ℕ) → test (to_ascii_lowercase b) ≡ test b) → begins test (map to_ascii_lowercase text) ≡ begins test text
begins-lower test [] h = refl
begins-lower test (b ∷ text) h = h b

-- underscores stay where they are
spaced-lower : (after : Bool) (text : List ℕ) → is_spaced after (map to_ascii_lowercase text) ≡ is_spaced after text
spaced-lower after [] = refl
spaced-lower after (b ∷ text) =
    ap (λ t. cond t (not after && is_spaced true (map to_ascii_lowercase text)) (is_spaced false (map to_ascii_lowercase text))) (lower_underscore b)
    ∙ ap (λ s. cond (b == underscore) (not after && s) (is_spaced false (map to_ascii_lowercase text))) (spaced-lower true text)
    ∙ ap (λ s. cond (b == underscore) (not after && is_spaced true text) s) (spaced-lower false text)

-- an identifier in lower case is one of as many bytes
pub short-lower : (text : List ℕ) → is_short (map to_ascii_lowercase text) ≡ is_short text
short-lower text = rw (begins-lower is_ascii_alphabetic text lower_letter, list_all-lower is_word_byte text lower_word, spaced-lower true text, length-map text to_ascii_lowercase) refl

-- a word is an identifier
word_short : (note : Bool) (text : List ℕ) → spells note kind.Word text ≡ true → is_short text ≡ true
word_short note text e = by (is_word_among reserved_words text) refl
  where
    among : (rows : List WordRow) → list_all (λ (row : WordRow). is_short row.1.now) rows ≡ true → is_word_among rows text ≡ true → is_short text ≡ true
    among rows all f = sym (short-lower text) ∙ found_passes (λ (row : WordRow). row.0) (λ (row : WordRow). row.1.now) is_short rows (map to_ascii_lowercase text) all f

    by : (t : Bool) → is_word_among reserved_words text ≡ t → is_short text ≡ true
    by true t = among reserved_words refl t
    by false t = among note_words refl (and_parts note (is_word_among note_words text) (sym (ap (λ r. r || (note && is_word_among note_words text)) t) ∙ e)).1

-- ---- the first byte of a name, and its others

-- an identifier of a length within the limit
pub short_run : (b : ℕ) (run : List ℕ) → is_short (b ∷ run) ≡ true → (is_ascii_alphabetic b ≡ true) × IsRun names false 1 run
short_run b run e =
    let parts = and_parts (is_identifier (b ∷ run)) (nat_le (length (b ∷ run)) 120) e in
    let shape = and_parts (is_ascii_alphabetic b && list_all is_word_byte (b ∷ run)) (is_spaced true (b ∷ run)) parts.0 in
    let made = and_parts (is_ascii_alphabetic b) (list_all is_word_byte (b ∷ run)) shape.0 in
    let short : suc (length run) ≤ 120 = leb-true (suc (length run)) 120 parts.1 in (
      made.0,
      record {
        made = (and_parts (is_word_byte b) (list_all is_word_byte run) made.1).1;
        spaced = sym (spaced_other true b run (alphanumeric_no_underscore b (letter_alphanumeric b made.0))) ∙ shape.1;
        short = omega arith;
      },
    )

-- and the other way round
pub short_from : (b : ℕ) (run : List ℕ) → is_ascii_alphabetic b ≡ true → IsRun names false 1 run → is_short (b ∷ run) ≡ true
short_from b run e r =
    let short : 1 + length run ≤ 120 = r.short in
    and_from (is_identifier (b ∷ run)) _
    (and_from (is_ascii_alphabetic b && list_all is_word_byte (b ∷ run)) _ (and_from (is_ascii_alphabetic b) _ e (and_from (is_word_byte b) _ (letter_of_word b e) r.made)) (spaced_other true b run (alphanumeric_no_underscore b (letter_alphanumeric b e)) ∙ r.spaced))
    (le-leb (suc (length run)) 120 (omega arith))

-- a name is no word
name_parts : (note : Bool) (text : List ℕ) → is_free note text ≡ true → (is_short text ≡ true) × (spells note kind.Word text ≡ false)
name_parts note text e =
    let last = and_parts (is_short text && not (is_word_among reserved_words text)) (not (note && is_word_among note_words text)) e in
    let parts = and_parts (is_short text) (not (is_word_among reserved_words text)) last.0 in
    (parts.0, or_from (is_word_among reserved_words text) _ (not-true _ parts.1) (not-true _ last.1))

-- and the other way round
name_from : (note : Bool) (text : List ℕ) → is_short text ≡ true → spells note kind.Word text ≡ false → is_free note text ≡ true
name_from note text e f =
    let parts = or_parts (is_word_among reserved_words text) (note && is_word_among note_words text) f in
    and_from (is_short text && not (is_word_among reserved_words text)) _ (and_from (is_short text) _ e (not_from_false _ parts.0)) (not_from_false _ parts.1)

-- what an identifier of at most 120 bytes spells
pub kind_spelled : (note : Bool) (text : List ℕ) → is_short text ≡ true → spells note (word_kind note text) text ≡ true
kind_spelled note text e = cond_both (spells note kind.Word text) kind.Word kind.Name (λ k. spells note k text ≡ true) (λ f. f) (λ f. name_from note text e f)

-- it goes on as long as there are bytes of words
pub kind_goes_on : (note : Bool) (text rest : List ℕ) → begins is_word_byte rest ≡ false → begins (goes_on (word_kind note text) text) rest ≡ false
kind_goes_on note text rest e = cond_both (spells note kind.Word text) kind.Word kind.Name (λ k. begins (goes_on k text) rest ≡ false) (λ f. e) (λ f. e)

-- a word or a name that is spelled is such an identifier, of this kind
pub word_spelled : (note : Bool) (text : List ℕ) → spells note kind.Word text ≡ true → (is_short text ≡ true) × (word_kind note text ≡ kind.Word)
word_spelled note text e = (word_short note text e, cond-true (spells note kind.Word text) _ _ e)

pub name_spelled : (note : Bool) (text : List ℕ) → spells note kind.Name text ≡ true → (is_short text ≡ true) × (word_kind note text ≡ kind.Name)
name_spelled note text e = let parts = name_parts note text e in (parts.0, cond-false (spells note kind.Word text) _ _ parts.1)

-- the length of a name is that after its first letter, and one
pub name_first : (b : ℕ) (rest : List ℕ) → is_ascii_alphabetic b ≡ true → name_length false 0 (b ∷ rest) ≡ longer (name_length false 1 rest)
name_first b rest e = cond-false (b == 95) _ _ (alphanumeric_no_underscore b (letter_alphanumeric b e)) ∙ cond-true (is_ascii_alphanumeric b) _ _ (letter_alphanumeric b e)

-- ---- numbers

-- the first digit of a number, and its other bytes
pub numeral_run : (b : ℕ) (run : List ℕ) → is_numeral (b ∷ run) ≡ true → (is_ascii_digit b ≡ true) × IsRun numbers false 1 run
numeral_run b run e =
    let parts = and_parts ((is_ascii_digit b && list_all is_digit_byte (b ∷ run)) && is_spaced true (b ∷ run)) (nat_le (count_by is_ascii_digit (b ∷ run)) 18) e in
    let shape = and_parts (is_ascii_digit b && list_all is_digit_byte (b ∷ run)) (is_spaced true (b ∷ run)) parts.0 in
    let made = and_parts (is_ascii_digit b) (list_all is_digit_byte (b ∷ run)) shape.0 in
    let short : count_by is_ascii_digit (b ∷ run) ≤ 18 = leb-true _ 18 parts.1 in (
      made.0,
      record {
        made = (and_parts (is_digit_byte b) (list_all is_digit_byte run) made.1).1;
        spaced = sym (spaced_other true b run (alphanumeric_no_underscore b (digit_alphanumeric b made.0))) ∙ shape.1;
        short = omega (arith, digit_weighs b run made.0);
      },
    )

-- and the other way round
pub numeral_from : (b : ℕ) (run : List ℕ) → is_ascii_digit b ≡ true → IsRun numbers false 1 run → is_numeral (b ∷ run) ≡ true
numeral_from b run e r =
    let short : 1 + count_by is_ascii_digit run ≤ 18 = r.short in
    and_from ((is_ascii_digit b && list_all is_digit_byte (b ∷ run)) && is_spaced true (b ∷ run)) _
    (and_from (is_ascii_digit b && list_all is_digit_byte (b ∷ run)) _ (and_from (is_ascii_digit b) _ e (and_from (is_digit_byte b) _ (or_left _ (b == 95) e) r.made)) (spaced_other true b run (alphanumeric_no_underscore b (digit_alphanumeric b e)) ∙ r.spaced))
    (le-leb _ 18 (omega (arith, digit_weighs b run e)))

-- the length of a number is that after its first digit, and one
pub number_first : (b : ℕ) (rest : List ℕ) → is_ascii_digit b ≡ true → number_length false 0 (b ∷ rest) ≡ longer (number_length false 1 rest)
number_first b rest e = cond-false (b == 95) _ _ (alphanumeric_no_underscore b (digit_alphanumeric b e)) ∙ cond-true (is_ascii_digit b) _ _ e
