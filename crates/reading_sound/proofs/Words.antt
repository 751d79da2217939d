-- Texts that are made of the texts of tokens: names in lower case, names joined by `@`, keys.
use Rattle.std.proofs.Common.{◌≡◌, ℕ, suc, ◌+◌, List, [], ◌∷◌, ◌++◌, map, length, Bool, true, false, not, ◌&&◌, ◌||◌, refl, sym, ◌∙◌, ap, subst, append_assoc, length-append, if◌then◌else◌, arith}
use Rattle.std.specs.Prelude.{bytes_eq, codes, ◌==◌, take, drop, is_some}
use Rattle.std.specs.Char.{to_ascii_lowercase, to_ascii_uppercase, is_ascii_alphanumeric, is_ascii_digit}
use Rattle.std.specs.List.{list_any, before_first, after_first, position_or_len}
use Rattle.std.proofs.Math.Seq.{take-append_seam, drop-append_seam}
use Rattle.std.proofs.Math.Bool.{or-true}
use Rattle.std.proofs.lemmas.Bool.{and_from, or_left}
use Rattle.std.proofs.lemmas.Bool.Decides.{nat_tests}
use Rattle.std.proofs.lemmas.List.Folds.{list_any-append}
use Rattle.std.proofs.lemmas.Slice.Eq.{bytes_eq-Decides}
use Rattle.std.proofs.lemmas.Str.Ascii.{lowercase-lowercase}
use Rattle.base_kit.specs.Bytes as byte
use Rattle.ada_tree.specs.declared.word.Mark.TheVariants as mark
use Rattle.ada_tree.specs.declared.word.Word.TheVariants as word
use Rattle.ada_tree.specs.Items.{lexemes, put, put_small, glue}
use Rattle.ada_tree.specs.Texts.{is_big, is_small, is_free, is_number, is_joined, is_identifier, is_word_among, is_at_sign, is_dot, front_item, is_lower_case}
use Rattle.ada_tree.specs.Tokens.{Lexeme, a_name, a_word, a_mark}
use Rattle.ada_tree.specs.Words.{WordRow, reserved_words, note_words, word_of}
use Rattle.lex_ada.proofs.lexing.Heads.{none_of}
use Rattle.lex_ada.proofs.lexing.Spelled.{is_short, short-lower}
use Rattle.text_laws.proofs.apart.Texts.{no_at_sign}
use Rattle.text_laws.proofs.round_trip.Places.{both}
use Rattle.reading_sound.proofs.Meaning.{IsWord}
use Rattle.reading_sound.proofs.Traces.{big, named, small}

identifier_of : (note : Bool) (text : List ℕ) → is_big note text ≡ true → is_identifier text ≡ true
identifier_of note text h = (both (both (both (both h).0).0).0).0

pub identifier_dotless : (text : List ℕ) → is_identifier text ≡ true → list_any is_dot text ≡ false
identifier_dotless text h = none_of (λ b. is_ascii_alphanumeric b || b == byte.underscore) is_dot text no_dot (both (both h).0).1
  where
    no_dot : (b : ℕ) → is_ascii_alphanumeric b || b == 95 ≡ true → (b == 46) ≡ false
    no_dot b h = grind (arith, nat_tests)

pub number_dotless : (text : List ℕ) → is_number text ≡ true → list_any is_dot text ≡ false
number_dotless text h = none_of is_ascii_digit is_dot text no_dot (both (both (both h).0).0).1
  where
    no_dot : (b : ℕ) → is_ascii_digit b ≡ true → (b == 46) ≡ false
    no_dot b h = grind (arith, nat_tests)

unjoined : (note : Bool) (text : List ℕ) → is_big note text ≡ true → list_any is_at_sign text ≡ false
unjoined note text h = no_at_sign text (both (both (identifier_of note text h)).0).1

-- an identifier is a name
pub big_is_named : (note : Bool) (text : List ℕ) (ls : List Lexeme) → IsWord note big text ls → IsWord note named text ls
big_is_named note text ls m =
    let none : list_any is_at_sign text ≡ false = unjoined note text m.0 in
    (rw none m.0, identifier_dotless text (identifier_of note text m.0), m.1 ∙ sym (rw none refl))

pub small_identifier : (text : List ℕ) → is_small text ≡ true → is_identifier text ≡ true
small_identifier text h = (both (both (both (both h).0).0).0).0

-- ---- lower case

raised : (b : ℕ) → to_ascii_uppercase (to_ascii_lowercase b) ≡ to_ascii_uppercase b
raised b = grind (arith, nat_tests)

all_raised : (text : List ℕ) → map to_ascii_uppercase (map to_ascii_lowercase text) ≡ map to_ascii_uppercase text
all_raised [] = refl
all_raised (b ∷ text) = ap (λ c. c ∷ map to_ascii_uppercase (map to_ascii_lowercase text)) (raised b) ∙ ap (λ cs. to_ascii_uppercase b ∷ cs) (all_raised text)

all_lowered : (text : List ℕ) → map to_ascii_lowercase (map to_ascii_lowercase text) ≡ map to_ascii_lowercase text
all_lowered [] = refl
all_lowered (b ∷ text) = ap (λ c. c ∷ map to_ascii_lowercase (map to_ascii_lowercase text)) (lowercase-lowercase b) ∙ ap (λ cs. to_ascii_lowercase b ∷ cs) (all_lowered text)

free_lowered : (text : List ℕ) → is_free true (map to_ascii_lowercase text) ≡ is_free true text
free_lowered text =
    ap (λ s. (s && not (is_word_among reserved_words (map to_ascii_lowercase text))) && not (true && is_word_among note_words (map to_ascii_lowercase text))) (short-lower text)
    ∙ ap (λ t. (is_short text && not (is_among reserved_words t)) && not (true && is_among note_words t)) (all_lowered text)
  where
    is_among : List WordRow → List ℕ → Bool
    is_among rows t = is_some (word_of rows t)

-- an identifier in lower case, whose token is the identifier
pub small_of : (text : List ℕ) → is_big true text ≡ true → IsWord true small (map to_ascii_lowercase text) (a_name text ∷ [])
small_of text h =
    let upper : text ≡ map to_ascii_uppercase text = (bytes_eq-Decides text (map to_ascii_uppercase text)).0 (both h).1 in
    let lower : is_lower_case (map to_ascii_lowercase text) ≡ true = (bytes_eq-Decides (map to_ascii_lowercase text) (map to_ascii_lowercase (map to_ascii_lowercase text))).1 (sym (all_lowered text)) in (
      and_from (is_free true (map to_ascii_lowercase text)) (is_lower_case (map to_ascii_lowercase text)) (free_lowered text ∙ (both h).0) lower,
      ap (λ t. a_name t ∷ []) (upper ∙ sym (all_raised text)),
    )

-- ---- names joined by `@`

first_at : (front back : List ℕ) → list_any is_at_sign front ≡ false → position_or_len is_at_sign (front ++ byte.at_sign ∷ back) ≡ length front
first_at [] back h = refl
first_at (b ∷ front) back h = by (is_at_sign b) refl h (first_at front back)
  where
    by : (t : Bool) → is_at_sign b ≡ t → t || list_any is_at_sign front ≡ false → (list_any is_at_sign front ≡ false → position_or_len is_at_sign (front ++ byte.at_sign ∷ back) ≡ length front)
        → position_or_len is_at_sign (b ∷ front ++ byte.at_sign ∷ back) ≡ suc (length front)
    by true e h more = absurd cc
    by false e h more = rw e (ap (λ n. 1 + n) (more h) ∙ omega arith)

at_inside : (front back : List ℕ) → list_any is_at_sign (front ++ byte.at_sign ∷ back) ≡ true
at_inside front back = list_any-append is_at_sign front (byte.at_sign ∷ back) ∙ or-true (list_any is_at_sign front)

before_at : (front back : List ℕ) → list_any is_at_sign front ≡ false → before_first is_at_sign (front ++ byte.at_sign ∷ back) ≡ front
before_at front back h = ap (λ n. take n (front ++ byte.at_sign ∷ back)) (first_at front back h) ∙ take-append_seam front (byte.at_sign ∷ back)

after_at : (front back : List ℕ) → list_any is_at_sign front ≡ false → after_first is_at_sign (front ++ byte.at_sign ∷ back) ≡ back
after_at front back h =
    ap (λ n. drop (n + 1) (front ++ byte.at_sign ∷ back)) (first_at front back h) ∙ ap (λ text. drop (length front + 1) text) (sym (append_assoc front (byte.at_sign ∷ []) back))
    ∙ ap (λ n. drop n ((front ++ byte.at_sign ∷ []) ++ back)) (sym (length-append front (byte.at_sign ∷ []))) ∙ drop-append_seam (front ++ byte.at_sign ∷ []) back

-- two names with `@` between them, the first of which may be `return`
joined_name : (front back : List ℕ) (ls : List Lexeme) → list_any is_at_sign front ≡ false → list_any is_dot front ≡ false → is_joined front back ≡ true
    → ls ≡ lexemes (front_item front ∷ glue ∷ put (a_mark mark.AtSign) ∷ glue ∷ put_small back ∷ []) → IsWord true named (front ++ byte.at_sign ∷ back) ls
joined_name front back ls none dotless joined q =
    let at : list_any is_at_sign (front ++ byte.at_sign ∷ back) ≡ true = at_inside front back in
    let front_same = before_at front back none in
    let back_same = after_at front back none in (
      rw (at, front_same, back_same) joined,
      list_any-append is_dot front (byte.at_sign ∷ back) ∙ ap (λ b. b || list_any is_dot back) dotless ∙ identifier_dotless back (small_identifier back (both joined).1),
      q ∙ sym (rw (at, front_same, back_same) refl),
    )

pub big_at_small : (front back : List ℕ) → is_big true front ≡ true → is_small back ≡ true
    → IsWord true named (front ++ byte.at_sign ∷ back) (a_name front ∷ a_mark mark.AtSign ∷ a_name (map to_ascii_uppercase back) ∷ [])
big_at_small front back f b =
    joined_name front back _ (unjoined true front f) (identifier_dotless front (identifier_of true front f)) (and_from _ _ (or_left (is_big true front) _ f) b) (by (bytes_eq front (codes "return")) refl)
  where
    by : (t : Bool) → bytes_eq front (codes "return") ≡ t
        → a_name front ∷ a_mark mark.AtSign ∷ a_name (map to_ascii_uppercase back) ∷ [] ≡ lexemes ((if t then put (a_word word.Return) else put (a_name front)) ∷ glue ∷ put (a_mark mark.AtSign) ∷ glue ∷ put_small back ∷ [])
    by true e = absurd (let z : is_big true (codes "return") ≡ true = subst (λ t. is_big true t ≡ true) ((bytes_eq-Decides front (codes "return")).0 e) f in cc)
    by false e = refl

pub return_at_small : (back : List ℕ) → is_small back ≡ true → IsWord true named (codes "return" ++ byte.at_sign ∷ back) (a_word word.Return ∷ a_mark mark.AtSign ∷ a_name (map to_ascii_uppercase back) ∷ [])
return_at_small back b = joined_name (codes "return") back _ refl refl b refl
