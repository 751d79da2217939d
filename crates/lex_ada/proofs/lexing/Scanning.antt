-- The scan of a text gives the tokens that it falls into.
use Rattle.std.proofs.Common.{◌≡◌, ℕ, suc, ◌+◌, List, [], ◌∷◌, ◌++◌, length, Bool, true, false, refl, sym, ◌∙◌, ap, subst, arith}
use Rattle.std.specs.Prelude.{Result, Ok, Err}
use Rattle.lex_ada.specs.declared.token.Token.{Token}
use Rattle.lex_ada.specs.declared.token.TokenKind.{TokenKind}
use Rattle.lex_ada.specs.declared.token.TokenKind.TheVariants as kind
use Rattle.lex_ada.specs.declared.cut.Cut.{Cut}
use Rattle.lex_ada.specs.declared.cut.Cut.TheVariants.{Blank, LineEnd, Note, Piece, Bad}
use Rattle.lex_ada.specs.declared.scan.Refusal.{Refusal}
use Rattle.lex_ada.specs.Lexis.{spells, token_at, Lexed, nothing, blank, line_end, two_byte_end, annotation, comment, token}
use Rattle.lex_ada.specs.Cutting.{note_of, scanned}
use Rattle.lex_ada.proofs.lexing.Fronts.{Front, a_blank, an_end, an_end_of_two, a_note, a_comment, a_token, note_after, line_after, with_cut}
use Rattle.lex_ada.proofs.lexing.Scans.{added, scanned_front, Scan, ended, went, refused, scan}

-- ---- the constructors of `Lexed`, and those of `Front`

-- a token that is spelled is no comment
token_note : (note : Bool) (k : TokenKind) (spelling : List ℕ) → spells note k spelling ≡ true → note_of note k ≡ note
token_note note kind.Name spelling e = refl
token_note note kind.Word spelling e = refl
token_note note kind.Number spelling e = refl
token_note note kind.Mark spelling e = refl
token_note note kind.Comment spelling e = absurd (cc)

-- the same tokens at the same number
lexed_at : (note : Bool) (line : ℕ) (rest : List ℕ) (tokens : List Token) (m n : ℕ) → m ≡ n → Lexed note m line rest tokens → Lexed note n line rest tokens
lexed_at note line rest tokens m n e h = subst (λ (k : ℕ). Lexed note k line rest tokens) e h

-- a text falls into the token at its front, if there is one, and those of what follows
pub lexed_more : (note : Bool) (at line : ℕ) (piece rest : List ℕ) (cut : Cut) (tokens : List Token) → Front note piece rest cut → Lexed (note_after cut note) (at + length piece) (line_after cut line) rest tokens → Lexed note at line (piece ++ rest) (with_cut cut note at line tokens)
lexed_more note at line piece rest cut tokens (a_blank _ b _ is) h = blank note at line b rest tokens is (lexed_at note line rest tokens (at + 1) (suc at) (omega arith) h)
lexed_more note at line piece rest cut tokens (an_end _ b _ is alone) h = line_end note at line b rest tokens is alone (lexed_at false (suc line) rest tokens (at + 1) (suc at) (omega arith) h)
lexed_more note at line piece rest cut tokens (an_end_of_two _ _) h = two_byte_end note at line rest tokens (lexed_at false (suc line) rest tokens (at + 2) (suc (suc at)) (omega arith) h)
lexed_more note at line piece rest cut tokens (a_note _) h = annotation at line rest tokens (lexed_at true line rest tokens (at + 3) (suc (suc (suc at))) (omega arith) h)
lexed_more note at line piece rest cut tokens (a_comment _ text _ no_note one_line stops) h =
    comment note at line (45 ∷ 45 ∷ (text ++ rest)) text rest tokens refl no_note one_line stops (lexed_at note line rest tokens (at + suc (suc (length text))) (at + (2 + length text)) (omega arith) h)
lexed_more note at line piece rest cut tokens (a_token _ k _ _ is stops) h =
    subst (λ n. Lexed note at line (piece ++ rest) (token_at n k at (length piece) line ∷ tokens)) (sym (token_note note k piece is)) (token note k at line (piece ++ rest) piece rest tokens refl is stops h)

-- what holds at the end of a text, and of a text if of what follows its front, holds of each text that falls into tokens
pub lexed_by : (P : Bool → ℕ → ℕ → List ℕ → List Token → Type 0) → ((note : Bool) (at line : ℕ) → P note at line [] [])
    → ((note : Bool) (at line : ℕ) (piece rest : List ℕ) (cut : Cut) (tokens : List Token) → Front note piece rest cut → P (note_after cut note) (at + length piece) (line_after cut line) rest tokens → P note at line (piece ++ rest) (with_cut cut note at line tokens))
    → (note : Bool) (at line : ℕ) (bytes : List ℕ) (tokens : List Token) → Lexed note at line bytes tokens → P note at line bytes tokens
lexed_by P none more note at line bytes tokens (nothing _ _ _) = none note at line
lexed_by P none more note at line bytes tokens (blank _ _ _ b rest _ is h) =
    more note at line (b ∷ []) rest Blank tokens (a_blank note b rest is) (subst (λ (n : ℕ). P note n line rest tokens) (omega arith) (lexed_by P none more note (suc at) line rest tokens h))
lexed_by P none more note at line bytes tokens (line_end _ _ _ b rest _ is alone h) =
    more note at line (b ∷ []) rest (LineEnd 1) tokens (an_end note b rest is alone) (subst (λ (n : ℕ). P false n (suc line) rest tokens) (omega arith) (lexed_by P none more false (suc at) (suc line) rest tokens h))
lexed_by P none more note at line bytes tokens (two_byte_end _ _ _ rest _ h) =
    more note at line (13 ∷ 10 ∷ []) rest (LineEnd 2) tokens (an_end_of_two note rest) (subst (λ (n : ℕ). P false n (suc line) rest tokens) (omega arith) (lexed_by P none more false (suc (suc at)) (suc line) rest tokens h))
lexed_by P none more note at line bytes tokens (annotation _ _ rest _ h) =
    more false at line (45 ∷ 45 ∷ 124 ∷ []) rest Note tokens (a_note rest) (subst (λ (n : ℕ). P true n line rest tokens) (omega arith) (lexed_by P none more true (suc (suc (suc at))) line rest tokens h))
lexed_by P none more note at line bytes tokens (comment _ _ _ _ text rest others is no_note one_line stops h) =
    subst (λ s. P note at line s (token_at false kind.Comment at (2 + length text) line ∷ others)) (sym is)
    (more note at line (45 ∷ 45 ∷ text) rest (Piece kind.Comment (2 + length text)) others (a_comment note text rest no_note one_line stops)
    (subst (λ (n : ℕ). P note n line rest others) (omega arith) (lexed_by P none more note (at + (2 + length text)) line rest others h)))
lexed_by P none more note at line bytes tokens (token _ k _ _ _ spelling rest others is spelled stops h) =
    subst (λ s. P note at line s (token_at note k at (length spelling) line ∷ others)) (sym is)
    (subst (λ n. P note at line (spelling ++ rest) (token_at n k at (length spelling) line ∷ others)) (token_note note k spelling spelled)
    (more note at line spelling rest (Piece k (length spelling)) others (a_token note k spelling rest spelled stops) (lexed_by P none more note (at + length spelling) line rest others h)))

-- ---- both ways

-- the result after a cut, where there are tokens
pub added_tokens : (cut : Cut) (note : Bool) (at line : ℕ) (tokens : List Token) → added cut note at line (Ok tokens) ≡ Ok (with_cut cut note at line tokens)
added_tokens Blank note at line tokens = refl
added_tokens (LineEnd n) note at line tokens = refl
added_tokens Note note at line tokens = refl
added_tokens (Piece k n) note at line tokens = refl
added_tokens (Bad n) note at line tokens = refl

-- where there are none
pub added_refusal : (cut : Cut) (note : Bool) (at line : ℕ) (refusal : Refusal) → added cut note at line (Err refusal) ≡ Err refusal
added_refusal Blank note at line refusal = refl
added_refusal (LineEnd n) note at line refusal = refl
added_refusal Note note at line refusal = refl
added_refusal (Piece k n) note at line refusal = refl
added_refusal (Bad n) note at line refusal = refl

-- the scan of a text whose front is cut
pub scanned_more : (note : Bool) (at line : ℕ) (piece rest : List ℕ) (cut : Cut) (tokens : List Token) → Front note piece rest cut → scanned 0 (note_after cut note) (at + length piece) (line_after cut line) rest ≡ Ok tokens → scanned 0 note at line (piece ++ rest) ≡ Ok (with_cut cut note at line tokens)
scanned_more note at line piece rest cut tokens f e = scanned_front note at line piece rest cut f ∙ ap (added cut note at line) e ∙ added_tokens cut note at line tokens

-- the tokens that a text falls into are what its scan gives
pub lexed_scanned : (note : Bool) (at line : ℕ) (bytes : List ℕ) (tokens : List Token) → Lexed note at line bytes tokens → scanned 0 note at line bytes ≡ Ok tokens
lexed_scanned note at line bytes tokens h = lexed_by (λ note at line bytes tokens. scanned 0 note at line bytes ≡ Ok tokens) (λ note at line. refl) scanned_more note at line bytes tokens h

-- one result has the same tokens
pub same_tokens : (a b : List Token) (r : Result (List Token) Refusal) → r ≡ Ok a → r ≡ Ok b → a ≡ b
same_tokens a b r e f = cc

-- a scan's tokens
scan_lexed : (note : Bool) (at line : ℕ) (bytes : List ℕ) (r : Result (List Token) Refusal) (tokens : List Token) → Scan note at line bytes r → r ≡ Ok tokens → Lexed note at line bytes tokens
scan_lexed note at line bytes r tokens (ended _ _ _) e = subst (Lexed note at line []) (same_tokens [] tokens r refl e) (nothing note at line)
scan_lexed note at line bytes r tokens (went _ _ _ piece rest cut (Ok others) f s) e =
    let same : with_cut cut note at line others ≡ tokens = same_tokens _ _ _ (added_tokens cut note at line others) e in
    subst (Lexed note at line (piece ++ rest)) same (lexed_more note at line piece rest cut others f (scan_lexed (note_after cut note) (at + length piece) (line_after cut line) rest (Ok others) others s refl))
scan_lexed note at line bytes r tokens (went _ _ _ piece rest cut (Err refusal) f s) e = let never : Err refusal ≡ Ok tokens = sym (added_refusal cut note at line refusal) ∙ e in absurd (cc)
scan_lexed note at line bytes r tokens (refused _ _ _ n _ bad) e = absurd (cc)

-- a text falls into the tokens that its scan gives
pub scanned_lexed : (note : Bool) (at line : ℕ) (bytes : List ℕ) (tokens : List Token) → scanned 0 note at line bytes ≡ Ok tokens → Lexed note at line bytes tokens
scanned_lexed note at line bytes tokens e = scan_lexed note at line bytes (scanned 0 note at line bytes) tokens (scan note at line bytes) e
