-- The text of a comment, without the blanks at its end, is a comment.
use Rattle.std.proofs.Common.{◌≡◌, ℕ, List, [], ◌∷◌, ◌++◌, reverse, Bool, true, false, not, cond, ◌&&◌, refl, sym, ◌∙◌, ap, subst, arith}
use Rattle.std.specs.Prelude.{◌==◌, nat_eq, codes}
use Rattle.std.specs.List.{list_any, starts_with}
use Rattle.std.proofs.lemmas.Bool.{and_from, or_parts, or_from, cond_both, cond-false, not_from_false}
use Rattle.std.proofs.lemmas.Bool.Decides.{nat_tests}
use Rattle.std.proofs.lemmas.List.{reverse-append, reverse-reverse}
use Rattle.std.proofs.lemmas.List.Folds.{list_any-append}
use Rattle.base_kit.specs.Bytes as byte
use Rattle.ada_tree.specs.Texts.{begins, ends_line, is_blank, ends_blank, is_comment}
use Rattle.lex_ada.specs.Meanings.{without_blanks, comment_text}

-- ---- blanks left out

-- some bytes are left out before the others
blanks_before : (bytes : List ℕ) → (front : List ℕ) × (bytes ≡ front ++ without_blanks bytes)
blanks_before [] = ([], refl)
blanks_before (b ∷ bytes) =
    cond_both (is_blank b) (without_blanks bytes) (b ∷ bytes) (λ (rest : List ℕ). (front : List ℕ) × (b ∷ bytes ≡ front ++ rest))
    (λ e. let more = blanks_before bytes in (b ∷ more.0, ap (λ (rest : List ℕ). b ∷ rest) more.1)) (λ e. ([], refl))

-- then no blank stands first
no_blank_first : (bytes : List ℕ) → begins is_blank (without_blanks bytes) ≡ false
no_blank_first [] = refl
no_blank_first (b ∷ bytes) = cond_both (is_blank b) (without_blanks bytes) (b ∷ bytes) (λ (rest : List ℕ). begins is_blank rest ≡ false) (λ e. no_blank_first bytes) (λ e. e)

-- one more byte at the end, which is no blank, stays
without_blanks-push : (bytes : List ℕ) (b : ℕ) → is_blank b ≡ false → without_blanks (bytes ++ b ∷ []) ≡ without_blanks bytes ++ b ∷ []
without_blanks-push [] b e = cond-false (is_blank b) [] (b ∷ []) e
without_blanks-push (c ∷ bytes) b e = by (is_blank c) (without_blanks-push bytes b e)
  where
    by : (t : Bool) → without_blanks (bytes ++ b ∷ []) ≡ without_blanks bytes ++ b ∷ []
        → cond t (without_blanks (bytes ++ b ∷ [])) (c ∷ (bytes ++ b ∷ [])) ≡ cond t (without_blanks bytes) (c ∷ bytes) ++ b ∷ []
    by true same = same
    by false same = refl

-- the last byte of some
ends_blank-push : (bytes : List ℕ) (b : ℕ) → ends_blank (bytes ++ b ∷ []) ≡ is_blank b
ends_blank-push [] b = refl
ends_blank-push (c ∷ []) b = refl
ends_blank-push (c ∷ d ∷ bytes) b = ends_blank-push (d ∷ bytes) b

-- where no blank stands first, none stands last in the reverse
ends_blank-reverse : (bytes : List ℕ) → begins is_blank bytes ≡ false → ends_blank (reverse bytes) ≡ false
ends_blank-reverse [] e = refl
ends_blank-reverse (b ∷ bytes) e = ap ends_blank (reverse-append (b ∷ []) bytes) ∙ ends_blank-push (reverse bytes) b ∙ e

-- ---- a text without the blanks at its end

abbrev stripped : List ℕ → List ℕ
stripped bytes = reverse (without_blanks (reverse bytes))

-- it ends with no blank
stripped_end : (bytes : List ℕ) → ends_blank (stripped bytes) ≡ false
stripped_end bytes = ends_blank-reverse (without_blanks (reverse bytes)) (no_blank_first (reverse bytes))

-- some bytes follow it
stripped_before : (bytes : List ℕ) → (end : List ℕ) × (bytes ≡ stripped bytes ++ end)
stripped_before bytes =
    let before = blanks_before (reverse bytes) in
    (reverse before.0, sym (reverse-reverse bytes) ∙ ap reverse before.1 ∙ reverse-append before.0 (without_blanks (reverse bytes)))

-- a byte before it that is no blank stays
stripped-cons : (b : ℕ) (bytes : List ℕ) → is_blank b ≡ false → stripped (b ∷ bytes) ≡ b ∷ stripped bytes
stripped-cons b bytes e =
    ap (λ (back : List ℕ). reverse (without_blanks back)) (reverse-append (b ∷ []) bytes)
    ∙ ap reverse (without_blanks-push (reverse bytes) b e)
    ∙ reverse-append (without_blanks (reverse bytes)) (b ∷ [])

-- a text begins with what its front begins with
begins_front : (test : ℕ → Bool) (front rest : List ℕ) → begins test (front ++ rest) ≡ false → begins test front ≡ false
begins_front test [] rest e = refl
begins_front test (b ∷ front) rest e = e

-- ---- comments

abbrev is_bar : ℕ → Bool
is_bar b = b == byte.bar

-- a bar follows two dashes
bar_follows : (text : List ℕ) → starts_with nat_eq (byte.dash ∷ byte.dash ∷ text) (codes "--|") ≡ begins is_bar text
bar_follows [] = refl
bar_follows (b ∷ text) = grind (arith, nat_tests)

-- two dashes without a bar after them, and the rest of a line, are a comment
dashes_comment : (text : List ℕ) → list_any ends_line text ≡ false → begins is_bar text ≡ false → ends_blank (byte.dash ∷ byte.dash ∷ text) ≡ false → is_comment (byte.dash ∷ byte.dash ∷ text) ≡ true
dashes_comment text line bar blank =
    and_from (not (starts_with nat_eq (byte.dash ∷ byte.dash ∷ text) (codes "--|")) && not (list_any ends_line text)) _
    (and_from (not (starts_with nat_eq (byte.dash ∷ byte.dash ∷ text) (codes "--|"))) _ (not_from_false _ (bar_follows text ∙ bar)) (not_from_false _ line))
    (not_from_false _ blank)

-- without the blanks at its end as well
stripped_comment : (text : List ℕ) → list_any ends_line text ≡ false → begins is_bar text ≡ false → is_comment (stripped (byte.dash ∷ byte.dash ∷ text)) ≡ true
stripped_comment text line bar =
    let same : stripped (byte.dash ∷ byte.dash ∷ text) ≡ byte.dash ∷ byte.dash ∷ stripped text = stripped-cons byte.dash (byte.dash ∷ text) refl ∙ ap (λ (rest : List ℕ). byte.dash ∷ rest) (stripped-cons byte.dash text refl) in
    let before = stripped_before text in
    let lines : (list_any ends_line (stripped text) ≡ false) × (list_any ends_line before.0 ≡ false) =
    or_parts (list_any ends_line (stripped text)) (list_any ends_line before.0) (sym (list_any-append ends_line (stripped text) before.0) ∙ sym (ap (list_any ends_line) before.1) ∙ line) in
    let front : begins is_bar (stripped text) ≡ false = begins_front is_bar (stripped text) before.0 (sym (ap (begins is_bar) before.1) ∙ bar) in
    subst (λ (bytes : List ℕ). is_comment bytes ≡ true) (sym same)
    (dashes_comment (stripped text) lines.0 front (sym (ap ends_blank same) ∙ stripped_end (byte.dash ∷ byte.dash ∷ text)))

-- the text of a comment with these bytes, a bar after its dashes or not, is a comment
pub comment_fits : (text : List ℕ) → list_any ends_line text ≡ false → is_comment (comment_text (byte.dash ∷ byte.dash ∷ text)) ≡ true
comment_fits text line =
    cond_both (starts_with nat_eq (byte.dash ∷ byte.dash ∷ text) (codes "--|")) (byte.dash ∷ byte.dash ∷ byte.space ∷ text) (byte.dash ∷ byte.dash ∷ text) (λ (bytes : List ℕ). is_comment (stripped bytes) ≡ true)
    (λ bar. stripped_comment (byte.space ∷ text) (or_from (ends_line byte.space) (list_any ends_line text) refl line) refl)
    (λ bar. stripped_comment text line (sym (bar_follows text) ∙ bar))
