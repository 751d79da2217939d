-- What items that can be told apart are laid out as has their tokens and comments.
use Rattle.std.proofs.Common.{◌≡◌, ℕ, suc, ◌-◌, List, [], ◌∷◌, ◌++◌, map, Bool, true, false, not, ◌&&◌, ◌||◌, refl, sym, ◌∙◌, subst, append_assoc, Option, Some, None}
use Rattle.std.specs.Prelude.{is_some}
use Rattle.std.specs.Char.{to_ascii_uppercase}
use Rattle.std.proofs.lemmas.Bool.{and_parts, not-true}
use Rattle.std.proofs.lemmas.List.{append-nil}
use Rattle.ada_tree.specs.Texts.{is_free, is_small, is_lower_case, is_comment}
use Rattle.ada_tree.specs.Tokens.{Sign, comment}
use Rattle.ada_tree.specs.Items.{Item, put, put_small, glue, line_break, indent, outdent, note_on, note_off, comment_line, signs}
use Rattle.ada_tree.specs.Rendering.{start, margin, gap, line_end, lexeme_text, has_no_blank_before, has_no_blank_after, render}
use Rattle.lex_ada.specs.declared.token.TokenKind.{TokenKind}
use Rattle.lex_ada.specs.declared.token.TokenKind.TheVariants.{Name}
use Rattle.lex_ada.specs.Rendered.{is_fitting, kind_of_lexeme, may_follow, are_apart, HasSigns}
use Rattle.text_laws.proofs.rendering.Steps.{Reads, read_nothing, read_token}
use Rattle.text_laws.proofs.rendering.Fitting.{IsSpelled, spelled, spelled_name}
use Rattle.text_laws.proofs.rendering.Comments.{read_comment_line}
use Rattle.text_laws.proofs.rendering.Lines.{Last, Ends, Laid, pen_after, laid_line_end, laid_gap, read_margin}

-- a token that fits, with what stands before it, where the rest is laid out after it
laid_token : (depth : ℕ) (outer : Option ℕ) (last : Last) (tight no_blank : Bool) (kind : TokenKind) (text rest : List ℕ) (s : Sign) (found : List Sign) → Ends last → IsSpelled (is_some outer) kind text s → may_follow last (tight || no_blank) text ≡ true → Laid outer (Some (kind, text)) rest found
    → Laid outer last (gap (pen_after depth outer last tight) no_blank ++ text ++ rest) (s ∷ found)
laid_token depth outer last tight no_blank kind text rest s found ends spelling may laid =
    subst (λ (bytes : List ℕ). Laid outer last bytes (s ∷ found)) (sym (append_assoc (gap (pen_after depth outer last tight) no_blank) text rest))
    (laid_gap depth outer last tight no_blank text rest (s ∷ found) ends may spelling.filled (read_token (is_some outer) kind text rest s found spelling.fits spelling.means laid.apart laid.reads))

-- a comment on a line of its own, outside annotation text
laid_comment : (depth : ℕ) (outer : Option ℕ) (last : Last) (tight : Bool) (text rest : List ℕ) (found : List Sign) → Ends last → is_some outer ≡ false → is_comment text ≡ true → Reads false rest found
    → Laid outer last (line_end (pen_after depth outer last tight) ++ margin depth outer ++ text ++ 10 ∷ rest) (comment text ∷ found)
laid_comment depth outer last tight text rest found ends plain e reads =
    let line : List ℕ = line_end (pen_after depth outer last tight) in
    let same : line ++ margin depth outer ++ text ++ 10 ∷ rest ≡ line ++ (margin depth outer ++ (text ++ 10 ∷ rest)) =
    append_assoc (line ++ margin depth outer) text (10 ∷ rest) ∙ append_assoc line (margin depth outer) (text ++ 10 ∷ rest) in
    subst (λ (bytes : List ℕ). Laid outer last bytes (comment text ∷ found)) (sym same)
    (laid_line_end depth outer last tight (margin depth outer ++ (text ++ 10 ∷ rest)) (comment text ∷ found) ends
    (read_margin depth outer (text ++ 10 ∷ rest) (comment text ∷ found)
    (subst (λ (note : Bool). Reads note (text ++ 10 ∷ rest) (comment text ∷ found)) (sym plain) (read_comment_line text rest found e reads))))

-- a token that asks for nothing else may follow if it may follow
may_follow_plain : (last : Last) (tight : Bool) (text : List ℕ) → may_follow last tight text ≡ true → may_follow last (tight || false) text ≡ true
may_follow_plain last true text e = e
may_follow_plain last false text e = e

-- Items after the token before on the line, in an annotation or not.
laid : (depth : ℕ) (outer : Option ℕ) (last : Last) (tight : Bool) (items : List Item) → Ends last → are_apart (is_some outer) last tight items ≡ true → Laid outer last (render (pen_after depth outer last tight) items) (signs (is_some outer) items)
laid depth outer last tight [] ends e =
    subst (λ (bytes : List ℕ). Laid outer last bytes []) (append-nil (line_end (pen_after depth outer last tight)))
    (laid_line_end depth outer last tight [] [] ends (read_nothing false))
laid depth outer last tight (put lexeme ∷ items) ends e =
    let parts = and_parts (is_fitting (is_some outer) lexeme && may_follow last (tight || has_no_blank_before lexeme) (lexeme_text lexeme)) _ e in
    let first = and_parts (is_fitting (is_some outer) lexeme) _ parts.0 in
    let spelling = spelled (is_some outer) lexeme first.0 in
    laid_token depth outer last tight (has_no_blank_before lexeme) (kind_of_lexeme lexeme) (lexeme_text lexeme) _ _ _ ends spelling first.1
    (laid depth outer (Some (kind_of_lexeme lexeme, lexeme_text lexeme)) (has_no_blank_after lexeme) items (spelling.no_blank, spelling.no_end) parts.1)
laid depth outer last tight (put_small text ∷ items) ends e =
    let parts = and_parts (is_some outer && is_small text && may_follow last tight text) _ e in
    let first = and_parts (is_some outer && is_small text) _ parts.0 in
    let sides = and_parts (is_some outer) (is_small text) first.0 in
    let small = and_parts (is_free true text) (is_lower_case text) sides.1 in
    let free : is_free (is_some outer) text ≡ true = rw sides.0 small.0 in
    let spelling = spelled_name (is_some outer) text (map to_ascii_uppercase text) free refl in
    laid_token depth outer last tight false Name text _ _ _ ends spelling (may_follow_plain last tight text first.1)
    (laid depth outer (Some (Name, text)) false items (spelling.no_blank, spelling.no_end) parts.1)
laid depth outer last tight (glue ∷ items) ends e = laid depth outer last true items ends e
laid depth outer last tight (line_break ∷ items) ends e = laid_line_end depth outer last tight _ _ ends (laid depth outer None false items tt e).reads
laid depth outer last tight (indent ∷ items) ends e = laid_line_end depth outer last tight _ _ ends (laid (suc depth) outer None false items tt e).reads
laid depth outer last tight (outdent ∷ items) ends e = laid_line_end depth outer last tight _ _ ends (laid (depth - 1) outer None false items tt e).reads
laid depth outer last tight (note_on ∷ items) ends e =
    let parts = and_parts (not (is_some outer)) _ e in
    laid_line_end depth outer last tight _ _ ends (laid depth (Some depth) None false items tt parts.1).reads
laid depth outer last tight (note_off ∷ items) ends e =
    let parts = and_parts (is_some outer) _ e in
    laid_line_end depth outer last tight _ _ ends (laid depth None None false items tt parts.1).reads
laid depth outer last tight (comment_line text ∷ items) ends e =
    let parts = and_parts (not (is_some outer) && is_comment text) _ e in
    let first = and_parts (not (is_some outer)) (is_comment text) parts.0 in
    laid_comment depth outer last tight text _ _ ends (not-true (is_some outer) first.0) first.1 (laid depth outer None false items tt parts.1).reads

-- the law of a whole text
pub rendered_has_signs : (items : List Item) → are_apart false None false items ≡ true → HasSigns (render start items) (signs false items)
rendered_has_signs items e =
    let all = (laid 0 None None false items tt e).reads [] 1 in
    record { tokens = all.tokens; fall = all.fall; mean = all.mean }
