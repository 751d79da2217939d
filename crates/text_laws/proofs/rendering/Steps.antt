-- Bytes that fall into tokens that stand for given signs: what comes before such bytes.
use Rattle.std.proofs.Common.{◌≡◌, ℕ, suc, ◌+◌, ◌-◌, List, [], ◌∷◌, ◌++◌, length, take, drop, Bool, true, false, not, refl, ◌∙◌, ap, append_assoc, arith}
use Rattle.std.proofs.lemmas.List.{length-append, take_at, drop_at}
use Rattle.std.specs.List.{list_any}
use Rattle.ada_tree.specs.Texts.{begins, ends_line, is_blank}
use Rattle.ada_tree.specs.Tokens.{Sign, comment}
use Rattle.lex_ada.specs.declared.token.Token.{Token}
use Rattle.lex_ada.specs.declared.token.TokenKind.{TokenKind}
use Rattle.lex_ada.specs.declared.token.TokenKind.TheVariants.{Comment}
use Rattle.lex_ada.specs.Lexis.{Lexed, nothing, blank, line_end, annotation, comment as comment_token, token, spells, goes_on, is_return_before_feed, begins_note, token_at}
use Rattle.lex_ada.specs.Meanings.{comment_text, meaning, meanings}

-- the rest of a source, from a byte and a line on, falls into tokens that stand for these signs
pub record Falls (note : Bool) (source : List ℕ) (at line : ℕ) (rest : List ℕ) (found : List Sign) : Type 0 where
  pub tokens : List Token
  pub fall : Lexed note at line rest tokens
  pub mean : meanings source tokens ≡ found

-- wherever they stand, these bytes do
abbrev pub Reads : Bool → List ℕ → List Sign → Type 0
Reads note bytes found = (before : List ℕ) (line : ℕ) → Falls note (before ++ bytes) (length before) line bytes found

-- they do after more bytes, counted on
after : (note : Bool) (rest : List ℕ) (found : List Sign) (before front : List ℕ) (at line : ℕ) → length before + length front ≡ at → Reads note rest found → Falls note (before ++ (front ++ rest)) at line rest found
after note rest found before front at line e reads =
    let here = reads (before ++ front) line in
    let counted : length (before ++ front) ≡ at = length-append before front ∙ e in
    record {
      tokens = here.tokens;
      fall = rw counted at here.fall;
      mean = rw append_assoc at here.mean;
    }

-- no bytes have no signs
pub read_nothing : (note : Bool) → Reads note [] []
read_nothing note before line = record { tokens = []; fall = nothing note (length before) line; mean = refl }

-- a blank comes before
pub read_blank : (note : Bool) (b : ℕ) (rest : List ℕ) (found : List Sign) → is_blank b ≡ true → Reads note rest found → Reads note (b ∷ rest) found
read_blank note b rest found e reads before line =
    let more = after note rest found before (b ∷ []) (suc (length before)) line (omega arith) reads in
    record { tokens = more.tokens; fall = blank note (length before) line b rest more.tokens e more.fall; mean = more.mean }

-- a line ends before
pub read_line_end : (note : Bool) (b : ℕ) (rest : List ℕ) (found : List Sign) → ends_line b ≡ true → is_return_before_feed b rest ≡ false → Reads false rest found → Reads note (b ∷ rest) found
read_line_end note b rest found e f reads before line =
    let more = after false rest found before (b ∷ []) (suc (length before)) (suc line) (omega arith) reads in
    record { tokens = more.tokens; fall = line_end note (length before) line b rest more.tokens e f more.fall; mean = more.mean }

-- annotation text begins before
pub read_annotation : (rest : List ℕ) (found : List Sign) → Reads true rest found → Reads false (45 ∷ 45 ∷ 124 ∷ rest) found
read_annotation rest found reads before line =
    let more = after true rest found before (45 ∷ 45 ∷ 124 ∷ []) (suc (suc (suc (length before)))) line (omega arith) reads in
    record { tokens = more.tokens; fall = annotation (length before) line rest more.tokens more.fall; mean = more.mean }

-- the bytes between two places
between : (before front rest : List ℕ) (size : ℕ) → length front ≡ size → take (length before + size - length before) (drop (length before) (before ++ (front ++ rest))) ≡ front
between before front rest size e =
    ap (take (length before + size - length before)) (drop_at before (front ++ rest) (length before) refl)
    ∙ take_at front rest (length before + size - length before) (omega arith)

-- a token comes before, which the bytes do not go on
pub read_token : (note : Bool) (kind : TokenKind) (spelling rest : List ℕ) (s : Sign) (found : List Sign) → spells note kind spelling ≡ true → meaning kind note spelling ≡ s ∷ [] → begins (goes_on kind spelling) rest ≡ false → Reads note rest found → Reads note (spelling ++ rest) (s ∷ found)
read_token note kind spelling rest s found fits means apart reads before line =
    let more = after note rest found before spelling (length before + length spelling) line refl reads in
    record {
      tokens = token_at note kind (length before) (length spelling) line ∷ more.tokens;
      fall = token note kind (length before) line (spelling ++ rest) spelling rest more.tokens refl fits apart more.fall;
      mean = ap (λ (bytes : List ℕ). meaning kind note bytes ++ meanings (before ++ (spelling ++ rest)) more.tokens) (between before spelling rest (length spelling) refl)
          ∙ ap (λ (signs : List Sign). signs ++ meanings (before ++ (spelling ++ rest)) more.tokens) means
          ∙ ap (λ (signs : List Sign). s ∷ signs) more.mean;
    }

-- a comment comes before, up to the end of its line
pub read_comment : (note : Bool) (text rest : List ℕ) (found : List Sign) → begins_note note (text ++ rest) ≡ false → list_any ends_line text ≡ false → begins (λ b. not (ends_line b)) rest ≡ false → comment_text (45 ∷ 45 ∷ text) ≡ 45 ∷ 45 ∷ text → Reads note rest found → Reads note (45 ∷ 45 ∷ (text ++ rest)) (comment (45 ∷ 45 ∷ text) ∷ found)
read_comment note text rest found e f g same reads before line =
    let more = after note rest found before (45 ∷ 45 ∷ text) (length before + (2 + length text)) line (omega arith) reads in
    record {
      tokens = token_at false Comment (length before) (2 + length text) line ∷ more.tokens;
      fall = comment_token note (length before) line (45 ∷ 45 ∷ (text ++ rest)) text rest more.tokens refl e f g more.fall;
      mean = ap (λ (bytes : List ℕ). comment (comment_text bytes) ∷ meanings (before ++ (45 ∷ 45 ∷ (text ++ rest))) more.tokens) (between before (45 ∷ 45 ∷ text) rest (2 + length text) (omega arith))
          ∙ ap (λ (bytes : List ℕ). comment bytes ∷ meanings (before ++ (45 ∷ 45 ∷ (text ++ rest))) more.tokens) same
          ∙ ap (λ (signs : List Sign). comment (45 ∷ 45 ∷ text) ∷ signs) more.mean;
    }
