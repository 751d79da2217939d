-- Tokens and comments of texts, and the tokens with the comments before each.
use Rattle.std.proofs.Common.{◌≡◌, ℕ, List, [], ◌∷◌, ◌++◌, refl, sym, ◌∙◌, ap, subst, Bool, true, map, append-nil}
use Rattle.std.proofs.lemmas.Bool.{and_parts, and_from}
use Rattle.ada_tree.specs.Nodes.{is_empty}
use Rattle.ada_tree.specs.Tokens.{Lexeme, Sign, token, comment}
use Rattle.lex_ada.specs.Rendered.{is_fitting}
use Rattle.reading_table.specs.Reading.{reading_table}
use Rattle.reading_table.specs.Rows.{Placed}
use Rattle.reading_table.specs.Signs.{tokens_from, trailing_from}
use Rattle.reading_table.specs.States.{Token, State}
use Rattle.reading_table.specs.Tables.{Derives, ends, takes, acts, opens, omits}
use Rattle.reading_table.proofs.Faults.{same}
use Rattle.reading_exact.specs.Whole.{are_signs}
use Rattle.reading_limits.proofs.Finishing.{fitting_example, is_plain_token, are_plain, none_waits}
use Rattle.reading_limits.proofs.Opens.{open_along}
use Rattle.reading_limits.proofs.Runs.{with_comments, Comes}

pub tokens-append : (front more : List Sign) (waiting : List (List ℕ)) → tokens_from waiting (front ++ more) ≡ tokens_from waiting front ++ tokens_from (trailing_from waiting front) more
tokens-append [] more waiting = refl
tokens-append (comment text ∷ front) more waiting = tokens-append front more (waiting ++ text ∷ [])
tokens-append (token note lexeme ∷ front) more waiting = ap (λ (ts : List Token). record { comments = waiting; note = note; lexeme = lexeme } ∷ ts) (tokens-append front more [])

pub trailing-append : (front more : List Sign) (waiting : List (List ℕ)) → trailing_from waiting (front ++ more) ≡ trailing_from (trailing_from waiting front) more
trailing-append [] more waiting = refl
trailing-append (comment text ∷ front) more waiting = trailing-append front more (waiting ++ text ∷ [])
trailing-append (token note lexeme ∷ front) more waiting = trailing-append front more []

-- ---- tokens without comments

abbrev pub sign_of : Token → Sign
sign_of t = token t.note t.lexeme

-- these comments come before the first of them
abbrev pub marked : List (List ℕ) → List Token → List Token
marked comments [] = []
marked comments (t ∷ ts) = record { comments = comments; note = t.note; lexeme = t.lexeme } ∷ ts

-- or else at the end
abbrev pub left_over : List (List ℕ) → List Token → List (List ℕ)
left_over comments [] = comments
left_over comments (t ∷ ts) = []

pub marked_comes : (comments : List (List ℕ)) (ts : List Token) → Comes comments (left_over comments ts) (marked comments ts)
marked_comes comments [] = refl
marked_comes comments (t ∷ ts) = refl

plain_marked : (ts : List Token) → are_plain ts ≡ true → marked [] ts ≡ ts
plain_marked [] h = refl
plain_marked (t ∷ ts) h =
    let e = none_waits t.comments (and_parts (is_fitting t.note t.lexeme) (is_empty t.comments) (and_parts (is_plain_token t) (are_plain ts) h).0).1 in
    ap (λ (c : List (List ℕ)). record { comments = c; note = t.note; lexeme = t.lexeme } ∷ ts) (sym e)

pub signs_tokens : (ts : List Token) (comments : List (List ℕ)) → are_plain ts ≡ true → tokens_from comments (map sign_of ts) ≡ marked comments ts
signs_tokens [] comments h = refl
signs_tokens (t ∷ ts) comments h =
    let p = (and_parts (is_plain_token t) (are_plain ts) h).1 in
    ap (λ (us : List Token). record { comments = comments; note = t.note; lexeme = t.lexeme } ∷ us) (signs_tokens ts [] p ∙ plain_marked ts p)

pub signs_left : (ts : List Token) (comments : List (List ℕ)) → trailing_from comments (map sign_of ts) ≡ left_over comments ts
signs_left [] comments = refl
signs_left (t ∷ ts) comments = none_left ts
  where
    none_left : (ts : List Token) → trailing_from [] (map sign_of ts) ≡ []
    none_left [] = refl
    none_left (t ∷ ts) = none_left ts

pub signs_fit : (ts : List Token) → are_plain ts ≡ true → are_signs (map sign_of ts) ≡ true
signs_fit [] h = refl
signs_fit (t ∷ ts) h =
    let p = and_parts (is_plain_token t) (are_plain ts) h in
    and_from (is_fitting t.note t.lexeme) (are_signs (map sign_of ts)) (and_parts (is_fitting t.note t.lexeme) (is_empty t.comments) p.0).0 (signs_fit ts p.1)

pub open_marked : (count : ℕ) (comments : List (List ℕ)) (ts : List Token) → open_along count (marked comments ts) ≡ open_along count ts
open_marked count comments [] = refl
open_marked count comments (t ∷ ts) = refl

-- ---- what derives, derives with comments before the first token

any_end : {end other : State → State} {ss : List Placed} {state last : State} → Derives reading_table end ss state [] last → Derives reading_table other ss state [] last
any_end ends = ends
any_end (acts v d) = acts v (any_end d)
any_end (opens v m d) = opens v m (any_end d)
any_end (omits v e d) = omits v e (any_end d)

any_comments : {end : State → State} {ss : List Placed} {state last : State} {t : Token} {ts : List Token} (comments : List (List ℕ)) → Derives reading_table end ss state (t ∷ ts) last
    → Derives reading_table end ss state (record { comments = comments; note = t.note; lexeme = t.lexeme } ∷ ts) last
any_comments comments (takes v f d) = takes v f d
any_comments comments (acts v d) = acts v (any_comments comments d)
any_comments comments (opens v m d) = opens v m (any_comments comments d)
any_comments comments (omits v e d) = omits v e (any_comments comments d)

none_come : same reading_table fitting_example ≡ with_comments []
none_come = λ i state. by state i
  where
    by : (state : State) → state ≡ with_comments [] state
    by state = sym (ap (λ (w : List (List ℕ)). record state { waiting = w }) (append-nil state.waiting))

pub marked_derives : (comments : List (List ℕ)) (ts : List Token) (ss : List Placed) (state last : State) → Derives reading_table (same reading_table fitting_example) ss state ts last
    → Derives reading_table (with_comments (left_over comments ts)) ss state (marked comments ts) last
marked_derives comments [] ss state last d = any_end d
marked_derives comments (t ∷ ts) ss state last d = any_comments comments (subst (λ (end : State → State). Derives reading_table end ss state (t ∷ ts) last) none_come d)

-- ---- a text cut before a token

abbrev pub Rest : List Token → List Sign → Type 0
Rest [] rest = rest ≡ []
Rest (t ∷ ts) rest = (others : List Sign) × (rest ≡ token t.note t.lexeme ∷ others)

pub record Split (waiting : List (List ℕ)) (signs : List Sign) (pre post : List Token) (comments : List (List ℕ)) : Type 0 where
  pub front : List Sign
  pub rest : List Sign
  pub whole : front ++ rest ≡ signs
  pub tokens : tokens_from waiting front ≡ pre
  pub left : trailing_from waiting front ≡ comments
  pub follows : Rest post rest

both_same : {t u : Token} {ts us : List Token} → t ≡ u → ts ≡ us → t ∷ ts ≡ u ∷ us
both_same {t = t} {us = us} e h = ap (λ (ts : List Token). t ∷ ts) h ∙ ap (λ (t : Token). t ∷ us) e

its_comments : (waiting : List (List ℕ)) (note : Bool) (lexeme : Lexeme) (t : Token) → record { comments = waiting; note = note; lexeme = lexeme } ≡ t → waiting ≡ t.comments
its_comments waiting note lexeme t e = ap (λ (t : Token). t.comments) e

its_sign : (waiting : List (List ℕ)) (note : Bool) (lexeme : Lexeme) (t : Token) (signs : List Sign) → record { comments = waiting; note = note; lexeme = lexeme } ≡ t → token note lexeme ∷ signs ≡ sign_of t ∷ signs
its_sign waiting note lexeme t signs e = ap (λ (t : Token). sign_of t ∷ signs) e

behind_token : (waiting : List (List ℕ)) (note : Bool) (lexeme : Lexeme) (u : Token) (signs : List Sign) (pre post : List Token) (comments : List (List ℕ)) → record { comments = waiting; note = note; lexeme = lexeme } ≡ u
    → Split [] signs pre post comments → Split waiting (token note lexeme ∷ signs) (u ∷ pre) post comments
behind_token waiting note lexeme u signs pre post comments e s = record {
  front = token note lexeme ∷ s.front;
  rest = s.rest;
  whole = ap (λ r. token note lexeme ∷ r) s.whole;
  tokens = both_same e s.tokens;
  left = s.left;
  follows = s.follows;
}

pub split : (signs : List Sign) (waiting : List (List ℕ)) (pre post : List Token) (comments : List (List ℕ)) → tokens_from waiting signs ≡ pre ++ post → Comes comments (trailing_from waiting signs) post → Split waiting signs pre post comments
split [] waiting [] [] comments e c = record { front = []; rest = []; whole = refl; tokens = refl; left = sym c; follows = refl }
split [] waiting [] (t ∷ post) comments e c = absurd cc
split [] waiting (t ∷ pre) post comments e c = absurd cc
split (comment text ∷ signs) waiting pre post comments e c =
    let s = split signs (waiting ++ text ∷ []) pre post comments e c in
    record { front = comment text ∷ s.front; rest = s.rest; whole = ap (λ r. comment text ∷ r) s.whole; tokens = s.tokens; left = s.left; follows = s.follows }
split (token note lexeme ∷ signs) waiting [] [] comments e c = absurd cc
split (token note lexeme ∷ signs) waiting [] (t ∷ post) comments e c =
    let z : record { comments = waiting; note = note; lexeme = lexeme } ≡ t = cc in
    record {
      front = [];
      rest = token note lexeme ∷ signs;
      whole = refl;
      tokens = refl;
      left = its_comments waiting note lexeme t z ∙ c;
      follows = (signs, its_sign waiting note lexeme t signs z);
    }
split (token note lexeme ∷ signs) waiting (u ∷ pre) post comments e c =
    let z : record { comments = waiting; note = note; lexeme = lexeme } ≡ u = cc in
    let y : tokens_from [] signs ≡ pre ++ post = cc in
    behind_token waiting note lexeme u signs pre post comments z (split signs [] pre post comments y c)
