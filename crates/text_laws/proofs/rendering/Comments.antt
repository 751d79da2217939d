-- The text of a comment line is read back as that comment.
use Rattle.std.proofs.Common.{◌≡◌, ℕ, List, [], ◌∷◌, ◌++◌, drop, reverse, Bool, true, false, not, ◌&&◌, refl, sym, ◌∙◌, ap, subst, arith}
use Rattle.std.specs.Prelude.{nat_eq, codes}
use Rattle.std.specs.List.{list_any, starts_with}
use Rattle.std.proofs.lemmas.Bool.{and_parts, cond-false, not-true, eqb-true, eq-eqb}
use Rattle.std.proofs.lemmas.Bool.Decides.{nat_tests}
use Rattle.std.proofs.lemmas.List.{reverse-append, reverse-reverse}
use Rattle.std.proofs.lemmas.Slice.Eq.{starts_is}
use Rattle.ada_tree.specs.Texts.{begins, ends_line, is_blank, ends_blank, is_comment}
use Rattle.ada_tree.specs.Tokens.{Sign, comment}
use Rattle.lex_ada.specs.Lexis.{begins_note}
use Rattle.lex_ada.specs.Meanings.{without_blanks, comment_text}
use Rattle.text_laws.proofs.rendering.Words.{is_filled}
use Rattle.text_laws.proofs.rendering.Steps.{Reads, read_comment, read_line_end}

-- what bytes begin with, more after them begin with too
pub begins-append : (test : ℕ → Bool) (bytes rest : List ℕ) → is_filled bytes ≡ true → begins test (bytes ++ rest) ≡ begins test bytes
begins-append test [] rest filled = cc
begins-append test (b ∷ bytes) rest filled = refl

-- ---- blanks at the end

-- one more byte at the end
filled_push : (bytes : List ℕ) (b : ℕ) → is_filled (bytes ++ b ∷ []) ≡ true
filled_push [] b = refl
filled_push (c ∷ bytes) b = refl

-- the last byte of some comes first in their reverse
begins-reverse : (b : ℕ) (bytes : List ℕ) → begins is_blank (reverse (b ∷ bytes)) ≡ ends_blank (b ∷ bytes)
begins-reverse b [] = refl
begins-reverse b (c ∷ bytes) =
    let filled : is_filled (reverse (c ∷ bytes)) ≡ true = ap is_filled (reverse-append (c ∷ []) bytes) ∙ filled_push (reverse bytes) c in
    ap (begins is_blank) (reverse-append (b ∷ []) (c ∷ bytes))
    ∙ begins-append is_blank (reverse (c ∷ bytes)) (b ∷ []) filled
    ∙ begins-reverse c bytes

-- where no blank stands first, none is left out
without_blanks_same : (bytes : List ℕ) → begins is_blank bytes ≡ false → without_blanks bytes ≡ bytes
without_blanks_same [] e = refl
without_blanks_same (b ∷ bytes) e = cond-false (is_blank b) _ _ e

-- ---- a comment by its parts

-- what follows the dashes has no bar first
no_bar : (text : List ℕ) → starts_with nat_eq (45 ∷ 45 ∷ text) (codes "--|") ≡ false → (rest : List ℕ) → begins_note false (text ++ 10 ∷ rest) ≡ false
no_bar [] e rest = refl
no_bar (b ∷ text) e rest = grind (arith, nat_tests)

-- its text is its meaning
comment_same : (text : List ℕ) → starts_with nat_eq (45 ∷ 45 ∷ text) (codes "--|") ≡ false → ends_blank (45 ∷ 45 ∷ text) ≡ false → comment_text (45 ∷ 45 ∷ text) ≡ 45 ∷ 45 ∷ text
comment_same text no_note no_blank =
    ap (λ (bytes : List ℕ). reverse (without_blanks (reverse bytes))) (cond-false (starts_with nat_eq (45 ∷ 45 ∷ text) (codes "--|")) _ (45 ∷ 45 ∷ text) no_note)
    ∙ ap reverse (without_blanks_same (reverse (45 ∷ 45 ∷ text)) (begins-reverse 45 (45 ∷ text) ∙ no_blank))
    ∙ reverse-reverse (45 ∷ 45 ∷ text)

-- it is read back, by what follows its dashes
read_dashes : (text rest : List ℕ) (found : List Sign) → is_comment (45 ∷ 45 ∷ text) ≡ true → Reads false rest found → Reads false (45 ∷ 45 ∷ (text ++ 10 ∷ rest)) (comment (45 ∷ 45 ∷ text) ∷ found)
read_dashes text rest found e reads =
    let noted : Bool = starts_with nat_eq (45 ∷ 45 ∷ text) (codes "--|") in
    let ended : Bool = list_any ends_line (45 ∷ 45 ∷ text) in
    let blank = and_parts (not noted && not ended) (not (ends_blank (45 ∷ 45 ∷ text))) e in
    let line = and_parts (not noted) (not ended) blank.0 in
    let no_note = not-true noted line.0 in
    read_comment false text (10 ∷ rest) found (no_bar text no_note rest) (not-true ended line.1) refl
    (comment_same text no_note (not-true (ends_blank (45 ∷ 45 ∷ text)) blank.1))
    (read_line_end false 10 rest found refl refl reads)

-- any is
pub read_comment_line : (text rest : List ℕ) (found : List Sign) → is_comment text ≡ true → Reads false rest found → Reads false (text ++ 10 ∷ rest) (comment text ∷ found)
read_comment_line text rest found e reads =
    let blank = and_parts (starts_with nat_eq text (codes "--") && not (starts_with nat_eq text (codes "--|")) && not (list_any ends_line text)) (not (ends_blank text)) e in
    let line = and_parts (starts_with nat_eq text (codes "--") && not (starts_with nat_eq text (codes "--|"))) (not (list_any ends_line text)) blank.0 in
    let note = and_parts (starts_with nat_eq text (codes "--")) (not (starts_with nat_eq text (codes "--|"))) line.0 in
    let dashes : text ≡ 45 ∷ 45 ∷ drop 2 text = (starts_is {E = nat_eq} (λ a b. (eqb-true a b, eq-eqb a b)) text (codes "--") _ refl).0 note.0 in
    subst (λ (t : List ℕ). Reads false (t ++ 10 ∷ rest) (comment t ∷ found)) (sym dashes)
    (read_dashes (drop 2 text) rest found (subst (λ (t : List ℕ). is_comment t ≡ true) dashes e) reads)
