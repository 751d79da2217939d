-- The scan of a text, cut by cut.
use Rattle.std.proofs.Common.{◌≡◌, ◌≤◌, ◌<◌, ℕ, zero, suc, ◌+◌, ◌-◌, List, [], ◌∷◌, ◌++◌, length, drop, Bool, true, false, refl, sym, ◌∙◌, ap, subst, length-append, arith}
use Rattle.std.specs.Prelude.{Result, Ok, Err}
use Rattle.std.proofs.lemmas.List.{drop_at}
use Rattle.lex_ada.specs.declared.token.Token.{Token}
use Rattle.lex_ada.specs.declared.token.TokenKind.{TokenKind}
use Rattle.lex_ada.specs.declared.token.TokenKind.TheVariants as kind
use Rattle.lex_ada.specs.declared.cut.Cut.{Cut}
use Rattle.lex_ada.specs.declared.cut.Cut.TheVariants.{Blank, LineEnd, Note, Piece, Bad}
use Rattle.lex_ada.specs.declared.scan.Refusal.{Refusal}
use Rattle.lex_ada.specs.Lexis.{spells, token_at}
use Rattle.lex_ada.specs.Cutting.{with_token, note_of, after_cut, cut_of, cut_at, scanned}
use Rattle.lex_ada.proofs.lexing.Spelled.{word_spelled}
use Rattle.lex_ada.proofs.lexing.Fronts.{Front, a_blank, an_end, an_end_of_two, a_note, a_comment, a_token, note_after, line_after}
use Rattle.lex_ada.proofs.lexing.Cuts.{Cuts, IsBad, TellsCut, front_cut, cut_tells}

-- skipped bytes are dropped ones
scanned-skip : (skip : ℕ) (note : Bool) (at line : ℕ) (bytes : List ℕ) → scanned skip note at line bytes ≡ scanned 0 note (at + skip) line (drop skip bytes)
scanned-skip zero note at line bytes = ap (λ (n : ℕ). scanned 0 note n line bytes) (omega arith)
scanned-skip (suc skip) note at line [] = refl
scanned-skip (suc skip) note at line (b ∷ rest) = scanned-skip skip note (suc at) line rest ∙ ap (λ (n : ℕ). scanned 0 note n line (drop skip rest)) (omega arith)

-- the rest of a piece, skipped
skip_piece : (tail rest : List ℕ) (skip : ℕ) (note : Bool) (at line : ℕ) → skip ≡ length tail → scanned skip note (suc at) line (tail ++ rest) ≡ scanned 0 note (at + suc (length tail)) line rest
skip_piece tail rest skip note at line e =
    scanned-skip skip note (suc at) line (tail ++ rest)
    ∙ ap (λ (s : List ℕ). scanned 0 note (suc at + skip) line s) (drop_at tail rest skip (sym e))
    ∙ ap (λ (n : ℕ). scanned 0 note n line rest) (omega arith)

-- the result after a cut, with its token
abbrev pub added : Cut → Bool → ℕ → ℕ → Result (List Token) Refusal → Result (List Token) Refusal
added (Piece k size) note at line r = with_token (token_at (note_of note k) k at size line) r
added _ note at line r = r

-- a cut of so many bytes
abbrev pub Moves : Cut → ℕ → Type 0
Moves Blank n = n ≡ 1
Moves (LineEnd size) n = size ≡ n
Moves Note n = n ≡ 3
Moves (Piece k size) n = size ≡ n
Moves (Bad size) n = ⊥

-- a cut by the rules takes the bytes that stand there
pub front_moves : (note : Bool) (piece rest : List ℕ) (cut : Cut) → Front note piece rest cut → Moves cut (length piece)
front_moves note piece rest cut (a_blank _ _ _ _) = refl
front_moves note piece rest cut (an_end _ _ _ _ _) = refl
front_moves note piece rest cut (an_end_of_two _ _) = refl
front_moves note piece rest cut (a_note _) = refl
front_moves note piece rest cut (a_comment _ text _ _ _ _) = omega arith
front_moves note piece rest cut (a_token _ k _ _ _ _) = refl

-- no token is empty
spelled_some : (note : Bool) (k : TokenKind) → spells note k [] ≡ true → ⊥
spelled_some note kind.Name e = cc
spelled_some note kind.Word e = let never : false ≡ true = (word_spelled note [] e).0 in cc
spelled_some note kind.Number e = cc
spelled_some note kind.Mark e = cc
spelled_some note kind.Comment e = cc

-- no piece is
pub front_some : (note : Bool) (piece rest : List ℕ) (cut : Cut) → Front note piece rest cut → 0 < length piece
front_some note piece rest cut (a_blank _ _ _ _) = omega arith
front_some note piece rest cut (an_end _ _ _ _ _) = omega arith
front_some note piece rest cut (an_end_of_two _ _) = omega arith
front_some note piece rest cut (a_note _) = omega arith
front_some note piece rest cut (a_comment _ text _ _ _ _) = omega arith
front_some note piece rest cut (a_token _ k [] _ is _) = absurd (spelled_some note k is)
front_some note piece rest cut (a_token _ k (b ∷ run) _ _ _) = omega arith

-- the scan goes on after the piece
after_piece : (cut : Cut) (note : Bool) (at line : ℕ) (tail rest : List ℕ) → Moves cut (suc (length tail)) → after_cut cut note at line (λ skip next line_after. scanned skip next (suc at) line_after (tail ++ rest)) ≡ added cut note at line (scanned 0 (note_after cut note) (at + suc (length tail)) (line_after cut line) rest)
after_piece Blank note at line tail rest m = skip_piece tail rest 0 note at line (omega arith)
after_piece (LineEnd size) note at line tail rest m = skip_piece tail rest (size - 1) false at (suc line) (omega arith)
after_piece Note note at line tail rest m = skip_piece tail rest 2 true at line (omega arith)
after_piece (Piece k size) note at line tail rest m = ap (with_token (token_at (note_of note k) k at size line)) (skip_piece tail rest (size - 1) note at line (omega arith))
after_piece (Bad size) note at line tail rest m = absurd m

-- the scan of a text is that of what follows the piece at its front, with its token
pub scanned_front : (note : Bool) (at line : ℕ) (piece rest : List ℕ) (cut : Cut) → Front note piece rest cut → scanned 0 note at line (piece ++ rest) ≡ added cut note at line (scanned 0 (note_after cut note) (at + length piece) (line_after cut line) rest)
scanned_front note at line [] rest cut f = let some = front_some note [] rest cut f in absurd (omega arith)
scanned_front note at line (b ∷ tail) rest cut f =
    ap (λ cut. after_cut cut note at line (λ skip next line_after. scanned skip next (suc at) line_after (tail ++ rest))) (front_cut note (b ∷ tail) rest cut f)
    ∙ after_piece cut note at line tail rest (front_moves note (b ∷ tail) rest cut f)

-- the scan ends where no token admits a byte
pub scanned_bad : (note : Bool) (at line n : ℕ) (bytes : List ℕ) → cut_at note bytes ≡ Bad n → scanned 0 note at line bytes ≡ Err (record { at = at + n; line = line })
scanned_bad note at line n [] e = absurd (cc)
scanned_bad note at line n (b ∷ rest) e = ap (λ cut. after_cut cut note at line (λ skip next line_after. scanned skip next (suc at) line_after rest)) e

-- ---- the steps of a scan

-- a text's scan gives this
pub data Scan : Bool → ℕ → ℕ → List ℕ → Result (List Token) Refusal → Type 0 where
  ended : (note : Bool) (at line : ℕ) → Scan note at line [] (Ok [])
  went : (note : Bool) (at line : ℕ) (piece rest : List ℕ) (cut : Cut) (r : Result (List Token) Refusal) → Front note piece rest cut
      → Scan (note_after cut note) (at + length piece) (line_after cut line) rest r → Scan note at line (piece ++ rest) (added cut note at line r)
  refused : (note : Bool) (at line n : ℕ) (bytes : List ℕ) → IsBad note bytes n → Scan note at line bytes (Err (record { at = at + n; line = line }))

-- a text whose front is cut, if what follows is scanned
scan_cut : (note : Bool) (at line : ℕ) (bytes : List ℕ) (cut : Cut) → ((next : Bool) (at line : ℕ) (rest : List ℕ) → length rest < length bytes → Scan next at line rest (scanned 0 next at line rest)) → Cuts note bytes cut → Scan note at line bytes (scanned 0 note at line bytes)
scan_cut note at line bytes cut more c =
    let some = front_some note c.piece c.rest cut c.front in
    let less : length c.rest < length bytes = omega (arith, ap length c.whole, length-append c.piece c.rest) in
    subst (λ s. Scan note at line s (scanned 0 note at line s)) (sym c.whole)
    (subst (Scan note at line (c.piece ++ c.rest)) (sym (scanned_front note at line c.piece c.rest cut c.front))
    (went note at line c.piece c.rest cut _ c.front (more (note_after cut note) (at + length c.piece) (line_after cut line) c.rest less)))

-- a text by what its cut tells
scan_told : (note : Bool) (at line b : ℕ) (rest : List ℕ) (cut : Cut) → cut_of note b rest ≡ cut → TellsCut note (b ∷ rest) cut → ((next : Bool) (at line : ℕ) (others : List ℕ) → length others < suc (length rest) → Scan next at line others (scanned 0 next at line others)) → Scan note at line (b ∷ rest) (scanned 0 note at line (b ∷ rest))
scan_told note at line b rest Blank e t more = scan_cut note at line (b ∷ rest) Blank more t
scan_told note at line b rest (LineEnd n) e t more = scan_cut note at line (b ∷ rest) (LineEnd n) more t
scan_told note at line b rest Note e t more = scan_cut note at line (b ∷ rest) Note more t
scan_told note at line b rest (Piece k n) e t more = scan_cut note at line (b ∷ rest) (Piece k n) more t
scan_told note at line b rest (Bad n) e t more = subst (Scan note at line (b ∷ rest)) (sym (scanned_bad note at line n (b ∷ rest) e)) (refused note at line n (b ∷ rest) t)

-- a text of at most so many bytes
scan_within : (fuel : ℕ) (note : Bool) (at line : ℕ) (bytes : List ℕ) → length bytes ≤ fuel → Scan note at line bytes (scanned 0 note at line bytes)
scan_within fuel note at line [] short = ended note at line
scan_within zero note at line (b ∷ rest) short = absurd (omega arith)
scan_within (suc fuel) note at line (b ∷ rest) short = scan_told note at line b rest (cut_of note b rest) refl (cut_tells note b rest) (λ next at line others less. scan_within fuel next at line others (omega arith))

-- each text is scanned so
pub scan : (note : Bool) (at line : ℕ) (bytes : List ℕ) → Scan note at line bytes (scanned 0 note at line bytes)
scan note at line bytes = scan_within (length bytes) note at line bytes (omega arith)
