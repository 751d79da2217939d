-- Lines: how they end and begin, and what stands between tokens.
use Rattle.std.proofs.Common.{◌≡◌, ℕ, zero, suc, ◌-◌, ◌*◌, List, [], ◌∷◌, ◌++◌, replicate, Bool, true, false, not, ◌&&◌, ◌||◌, refl, sym, ◌∙◌, ap, subst, append_assoc, Option, Some, None}
use Rattle.std.specs.Prelude.{is_some, is_none, IfSome, codes}
use Rattle.std.proofs.lemmas.Bool.{cond_both, not-true}
use Rattle.ada_tree.specs.Texts.{begins}
use Rattle.ada_tree.specs.Tokens.{Sign}
use Rattle.ada_tree.specs.Rendering.{Pen, blanks, margin, gap, line_end}
use Rattle.lex_ada.specs.declared.token.TokenKind.{TokenKind}
use Rattle.lex_ada.specs.Lexis.{goes_on}
use Rattle.lex_ada.specs.Rendered.{is_apart, may_follow}
use Rattle.text_laws.proofs.rendering.Words.{is_filled}
use Rattle.text_laws.proofs.rendering.Steps.{Reads, read_blank, read_line_end, read_annotation}
use Rattle.text_laws.proofs.rendering.Comments.{begins-append}

-- the token before on the line, if there is one
abbrev pub Last : Type 0
Last = Option (TokenKind × List ℕ)

-- neither a blank nor a line end makes it longer
abbrev pub Ends : Last → Type 0
Ends last = IfSome last (λ l. (goes_on l.0 l.1 32 ≡ false) × (goes_on l.0 l.1 10 ≡ false))

-- the pen after that token; a line begins where there is none
abbrev pub pen_after : ℕ → Option ℕ → Last → Bool → Pen
pen_after depth outer last tight = record { depth = depth; outer = outer; is_fresh = is_none last; is_tight = tight }

-- Bytes after that token don't make it longer, and stand for these signs. A line begins outside annotation text.
pub record Laid (outer : Option ℕ) (last : Last) (bytes : List ℕ) (found : List Sign) : Type 0 where
  pub apart : IfSome last (λ l. begins (goes_on l.0 l.1) bytes ≡ false)
  pub reads : Reads (is_some last && is_some outer) bytes found

-- the line ends
pub laid_line_end : (depth : ℕ) (outer : Option ℕ) (last : Last) (tight : Bool) (rest : List ℕ) (found : List Sign) → Ends last → Reads false rest found → Laid outer last (line_end (pen_after depth outer last tight) ++ rest) found
laid_line_end depth outer None tight rest found ends reads = record { apart = tt; reads = reads }
laid_line_end depth outer (Some l) tight rest found ends reads = record { apart = ends.1; reads = read_line_end (is_some outer) 10 rest found refl refl reads }

-- blanks
read_blanks : (note : Bool) (size : ℕ) (rest : List ℕ) (found : List Sign) → Reads note rest found → Reads note (replicate size 32 ++ rest) found
read_blanks note zero rest found reads = reads
read_blanks note (suc size) rest found reads = read_blank note 32 (replicate size 32 ++ rest) found refl (read_blanks note size rest found reads)

-- what a line begins with
pub read_margin : (depth : ℕ) (outer : Option ℕ) (rest : List ℕ) (found : List Sign) → Reads (is_some outer) rest found → Reads false (margin depth outer ++ rest) found
read_margin depth None rest found reads = read_blanks false (3 * depth) rest found reads
read_margin depth (Some outer) rest found reads =
    let inner : List ℕ = blanks (depth - outer) in
    let same : margin depth (Some outer) ++ rest ≡ blanks outer ++ (codes "--| " ++ (inner ++ rest)) = append_assoc (blanks outer ++ codes "--| ") inner rest ∙ append_assoc (blanks outer) (codes "--| ") (inner ++ rest) in
    subst (λ (bytes : List ℕ). Reads false bytes found) (sym same)
    (read_blanks false (3 * outer) _ found (read_annotation (32 ∷ (inner ++ rest)) found (read_blank true 32 (inner ++ rest) found refl (read_blanks true (3 * (depth - outer)) rest found reads))))

-- where no blank comes between, the token before doesn't go on
apart_joined : (kind : TokenKind) (bytes : List ℕ) (joined : Bool) (text : List ℕ) → joined ≡ true → may_follow (Some (kind, bytes)) joined text ≡ true → begins (goes_on kind bytes) text ≡ false
apart_joined kind bytes joined text e may = not-true (begins (goes_on kind bytes) text) (ap (λ (t : Bool). not t || is_apart (Some (kind, bytes)) text) (sym e) ∙ may)

-- a token that may follow, with what stands before it
pub laid_gap : (depth : ℕ) (outer : Option ℕ) (last : Last) (tight no_blank : Bool) (text rest : List ℕ) (found : List Sign) → Ends last → may_follow last (tight || no_blank) text ≡ true → is_filled text ≡ true → Reads (is_some outer) (text ++ rest) found
    → Laid outer last (gap (pen_after depth outer last tight) no_blank ++ (text ++ rest)) found
laid_gap depth outer None tight no_blank text rest found ends may filled reads = record { apart = tt; reads = read_margin depth outer (text ++ rest) found reads }
laid_gap depth outer (Some l) tight no_blank text rest found ends may filled reads = cond_both (tight || no_blank) [] (32 ∷ []) (λ (front : List ℕ). Laid outer (Some l) (front ++ (text ++ rest)) found)
    (λ e. record { apart = begins-append (goes_on l.0 l.1) text rest filled ∙ apart_joined l.0 l.1 (tight || no_blank) text e may; reads = reads })
    (λ e. record { apart = ends.0; reads = read_blank (is_some outer) 32 (text ++ rest) found refl reads })
