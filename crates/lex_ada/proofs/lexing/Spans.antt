-- Where tokens stand, and the tokens of two texts in a row.
use Rattle.std.proofs.Common.{◌≡◌, ◌≤◌, ◌<◌, ℕ, suc, ◌+◌, List, [], ◌∷◌, ◌++◌, length, Bool, true, false, refl, sym, ◌∙◌, ap, subst, inl, inr, ◌⊎◌, append_assoc, length-append, arith}
use Rattle.std.specs.List.{list_any}
use Rattle.std.proofs.lemmas.Bool.{or_left, or_right, or_from, both_ways}
use Rattle.ada_tree.specs.Texts.{ends_line}
use Rattle.lex_ada.specs.declared.token.Token.{Token}
use Rattle.lex_ada.specs.declared.cut.Cut.{Cut}
use Rattle.lex_ada.specs.declared.cut.Cut.TheVariants.{Blank, LineEnd, Note, Piece, Bad}
use Rattle.lex_ada.specs.Lexis.{is_return_before_feed, Lexed, InOrder}
use Rattle.lex_ada.specs.Faults.{line_ends}
use Rattle.lex_ada.proofs.lexing.Letters.{blank_in_line}
use Rattle.lex_ada.proofs.lexing.Fronts.{Front, a_blank, an_end, an_end_of_two, a_note, a_comment, a_token, note_after, line_after, with_cut, front_agree}
use Rattle.lex_ada.proofs.lexing.Heads.{Agree}
use Rattle.lex_ada.proofs.lexing.Lines.{token_one_line, front_lines}
use Rattle.lex_ada.proofs.lexing.Scans.{Moves, front_moves, front_some}
use Rattle.lex_ada.proofs.lexing.Scanning.{lexed_more, lexed_by}

-- ---- spans in order

-- spans in order from a later byte on
order_from : (m n to : ℕ) (tokens : List Token) → m ≤ n → InOrder n to tokens → InOrder m to tokens
order_from m n to [] le h = omega arith
order_from m n to (token ∷ tokens) le h = (omega (arith, h.0), h.1, h.2)

-- a cut of so many bytes before spans in order
order_cut : (cut : Cut) (note : Bool) (at line size to : ℕ) (tokens : List Token) → 0 < size → Moves cut size → InOrder (at + size) to tokens → InOrder at to (with_cut cut note at line tokens)
order_cut Blank note at line size to tokens some m h = order_from at (at + size) to tokens (omega arith) h
order_cut (LineEnd n) note at line size to tokens some m h = order_from at (at + size) to tokens (omega arith) h
order_cut Note note at line size to tokens some m h = order_from at (at + size) to tokens (omega arith) h
order_cut (Piece k n) note at line size to tokens some m h = (omega arith, omega arith, subst (λ (n : ℕ). InOrder (at + n) to tokens) (sym m) h)
order_cut (Bad n) note at line size to tokens some m h = absurd m

-- a front before a text whose spans are in order
order_more : (note : Bool) (at line : ℕ) (piece rest : List ℕ) (cut : Cut) (tokens : List Token) → Front note piece rest cut → InOrder (at + length piece) ((at + length piece) + length rest) tokens → InOrder at (at + length (piece ++ rest)) (with_cut cut note at line tokens)
order_more note at line piece rest cut tokens f h =
    order_cut cut note at line (length piece) (at + length (piece ++ rest)) tokens (front_some note piece rest cut f) (front_moves note piece rest cut f)
    (subst (λ (to : ℕ). InOrder (at + length piece) to tokens) (omega (arith, length-append piece rest)) h)

-- the tokens of a text stand in order in it
pub spans_in_order : (note : Bool) (at line : ℕ) (bytes : List ℕ) (tokens : List Token) → Lexed note at line bytes tokens → InOrder at (at + length bytes) tokens
spans_in_order note at line bytes tokens h = lexed_by (λ note at line bytes tokens. InOrder at (at + length bytes) tokens) (λ note at line. omega arith) order_more note at line bytes tokens h

-- ---- two texts in a row

-- a text of one byte ends with it
lone : (c b : ℕ) (front : List ℕ) → c ∷ [] ≡ front ++ b ∷ [] → c ≡ b
lone c b [] e = cc
lone c b (d ∷ []) e = absurd (cc)
lone c b (d ∷ f ∷ front) e = absurd (cc)

-- a text that ends with a byte isn't empty
ends_some : (b : ℕ) (front : List ℕ) → [] ≡ front ++ b ∷ [] → ⊥
ends_some b [] e = cc
ends_some b (c ∷ front) e = cc

-- it has the end of a line where that byte is one
ends_a_line : (b : ℕ) (front : List ℕ) → ends_line b ≡ true → list_any ends_line (front ++ b ∷ []) ≡ true
ends_a_line b [] e = or_left (ends_line b) false e
ends_a_line b (c ∷ front) e = or_right (ends_line c) _ (ends_a_line b front e)

-- the last byte of two texts in a row is that of the second, or the second is empty
last_of_two : (piece rest front : List ℕ) (b : ℕ) → piece ++ rest ≡ front ++ b ∷ [] → ((rest ≡ []) × (piece ≡ front ++ b ∷ [])) ⊎ ((others : List ℕ) × (rest ≡ others ++ b ∷ []))
last_of_two [] rest front b e = inr (front, e)
last_of_two (a ∷ []) [] [] b e = inl (refl, e)
last_of_two (a ∷ []) (c ∷ rest) [] b e = absurd (cc)
last_of_two (a ∷ d ∷ piece) rest [] b e = absurd (cc)
last_of_two (a ∷ piece) rest (c ∷ front) b e =
    let first : a ≡ c = cc in
    let others : piece ++ rest ≡ front ++ b ∷ [] = cc in
    elim (last_of_two piece rest front b others) as (λ _. ((rest ≡ []) × (a ∷ piece ≡ (c ∷ front) ++ b ∷ [])) ⊎ ((others : List ℕ) × (rest ≡ others ++ b ∷ []))) [
      | inl h ↦ inl (h.0, ap (λ (t : List ℕ). a ∷ t) h.1 ∙ ap (λ (x : ℕ). x ∷ (front ++ b ∷ [])) first)
      | inr h ↦ inr h
    ]

-- more tokens after those of a cut
with_cut-append : (cut : Cut) (note : Bool) (at line : ℕ) (tokens after : List Token) → with_cut cut note at line (tokens ++ after) ≡ with_cut cut note at line tokens ++ after
with_cut-append Blank note at line tokens after = refl
with_cut-append (LineEnd n) note at line tokens after = refl
with_cut-append Note note at line tokens after = refl
with_cut-append (Piece k n) note at line tokens after = refl
with_cut-append (Bad n) note at line tokens after = refl

-- a text that is not empty agrees with what goes on from it
agree_longer : (b : ℕ) (front rest : List ℕ) → Agree (front ++ b ∷ []) ((front ++ b ∷ []) ++ rest)
agree_longer b [] rest = refl
agree_longer b (c ∷ front) rest = refl

-- a text that ends a line, and then another, whose tokens are these
module _ (b : ℕ) (rest : List ℕ) (after : List Token) (ends : ends_line b ≡ true) (alone : is_return_before_feed b rest ≡ false) where
  -- a piece in one line isn't its last
  no_last : (piece front : List ℕ) → list_any ends_line piece ≡ false → piece ≡ front ++ b ∷ [] → ⊥
  no_last piece front e is = both_ways (list_any ends_line piece) e (ap (list_any ends_line) is ∙ ends_a_line b front ends)

  -- the last piece of the first text is the end of a line
  last_piece : (note : Bool) (at line : ℕ) (piece front : List ℕ) (cut : Cut) → Front note piece [] cut → piece ≡ front ++ b ∷ [] → Lexed false (at + length (piece ++ [])) (line + line_ends (piece ++ [])) rest after → Lexed note at line ((piece ++ []) ++ rest) (with_cut cut note at line [] ++ after)
  last_piece note at line piece front cut (a_blank _ c _ blank) is h = absurd (no_last piece front (or_from (ends_line c) false (blank_in_line c blank) refl) is)
  last_piece note at line piece front cut (an_end _ c _ end alone_there) is h =
      let alone_here = subst (λ (c : ℕ). is_return_before_feed c rest ≡ false) (sym (lone c b front is)) alone in
      let next : line + line_ends ((c ∷ []) ++ []) ≡ suc line = front_lines note line (c ∷ []) [] (LineEnd 1) (an_end note c [] end alone_there) ∙ omega arith in
      lexed_more note at line (c ∷ []) rest (LineEnd 1) after (an_end note c rest end alone_here) (subst (λ (n : ℕ). Lexed false (at + 1) n rest after) next h)
  last_piece note at line piece front cut (an_end_of_two _ _) is h = lexed_more note at line (13 ∷ 10 ∷ []) rest (LineEnd 2) after (an_end_of_two note rest) (subst (λ (n : ℕ). Lexed false (at + 2) n rest after) (omega arith) h)
  last_piece note at line piece front cut (a_note _) is h = absurd (no_last piece front refl is)
  last_piece note at line piece front cut (a_comment _ text _ _ one_line _) is h = absurd (no_last piece front one_line is)
  last_piece note at line piece front cut (a_token _ k _ _ spelled _) is h = absurd (no_last piece front (token_one_line note k piece spelled) is)

  -- the same, where nothing is known to follow that piece, and no tokens
  last_cut : (note : Bool) (at line : ℕ) (piece others front : List ℕ) (cut : Cut) (tokens : List Token) → others ≡ [] → tokens ≡ [] → Front note piece others cut → piece ≡ front ++ b ∷ [] → Lexed false (at + length (piece ++ others)) (line + line_ends (piece ++ others)) rest after → Lexed note at line ((piece ++ others) ++ rest) (with_cut cut note at line tokens ++ after)
  last_cut note at line piece [] front cut [] e none f is h = last_piece note at line piece front cut f is h
  last_cut note at line piece (c ∷ others) front cut tokens e none f is h = absurd (cc)
  last_cut note at line piece [] front cut (token ∷ tokens) e none f is h = absurd (cc)

  -- what is said of the first text and its tokens
  abbrev Before : Bool → ℕ → ℕ → List ℕ → List Token → Type 0
  Before note at line bytes before = (bytes ≡ [] → before ≡ []) × ((front : List ℕ) → bytes ≡ front ++ b ∷ [] → Lexed false (at + length bytes) (line + line_ends bytes) rest after → Lexed note at line (bytes ++ rest) (before ++ after))

  -- a piece before more of the first text
  longer_front : (note : Bool) (at line : ℕ) (piece others front : List ℕ) (cut : Cut) (tokens : List Token) → Front note piece others cut → others ≡ front ++ b ∷ [] → Before (note_after cut note) (at + length piece) (line_after cut line) others tokens → Lexed false (at + length (piece ++ others)) (line + line_ends (piece ++ others)) rest after → Lexed note at line ((piece ++ others) ++ rest) (with_cut cut note at line tokens ++ after)
  longer_front note at line piece others front cut tokens f is before h =
      let there = subst (λ (n : ℕ). Lexed false n (line + line_ends (piece ++ others)) rest after) (omega (arith, length-append piece others)) h in
      let here : Lexed false ((at + length piece) + length others) (line_after cut line + line_ends others) rest after = subst (λ (n : ℕ). Lexed false ((at + length piece) + length others) n rest after) (front_lines note line piece others cut f) there in
      let alike : Agree others (others ++ rest) = subst (λ s. Agree s (s ++ rest)) (sym is) (agree_longer b front rest) in
      subst (λ s. Lexed note at line s (with_cut cut note at line tokens ++ after)) (sym (append_assoc piece others rest))
      (subst (Lexed note at line (piece ++ (others ++ rest))) (with_cut-append cut note at line tokens after)
      (lexed_more note at line piece (others ++ rest) cut (tokens ++ after) (front_agree note piece others (others ++ rest) cut alike f) (before.1 front is here)))

  -- any piece of the first text
  before_more : (note : Bool) (at line : ℕ) (piece others : List ℕ) (cut : Cut) (tokens : List Token) → Front note piece others cut → Before (note_after cut note) (at + length piece) (line_after cut line) others tokens → Before note at line (piece ++ others) (with_cut cut note at line tokens)
  before_more note at line piece others cut tokens f before =
      let some = front_some note piece others cut f in (
        λ e. absurd (omega (arith, ap length e, length-append piece others)),
        λ front is h. elim (last_of_two piece others front b is) [
          | inl last ↦ last_cut note at line piece others front cut tokens last.0 (before.0 last.0) f last.1 h
          | inr more ↦ longer_front note at line piece others more.0 cut tokens f more.1 before h
        ],
      )

  -- the whole first text
  before_all : (note : Bool) (at line : ℕ) (bytes : List ℕ) (before : List Token) → Lexed note at line bytes before → Before note at line bytes before
  before_all = lexed_by Before (λ note at line. (λ e. refl, λ front is h. absurd (ends_some b front is))) before_more

-- two texts, the first of which ends with the end of a line that the second doesn't go on, have the tokens of both
pub lexed-append : (note : Bool) (at line : ℕ) (front : List ℕ) (b : ℕ) (rest : List ℕ) (before after : List Token) → ends_line b ≡ true → is_return_before_feed b rest ≡ false → Lexed note at line (front ++ b ∷ []) before → Lexed false (at + length front + 1) (line + line_ends (front ++ b ∷ [])) rest after → Lexed note at line ((front ++ b ∷ []) ++ rest) (before ++ after)
lexed-append note at line front b rest before after ends alone h t =
    (before_all b rest after ends alone note at line (front ++ b ∷ []) before h).1 front refl
    (subst (λ (n : ℕ). Lexed false n (line + line_ends (front ++ b ∷ [])) rest after) (omega (arith, length-append front (b ∷ []))) t)
