-- The longest mark at the front of a text.
use Rattle.std.proofs.Common.{◌≡◌, ℕ, List, [], ◌∷◌, ◌++◌, length, Bool, true, false, refl, sym, ◌∙◌, ap, subst}
use Rattle.std.specs.Prelude.{◌==◌, ◌||◌, is_some, codes}
use Rattle.std.specs.List.{list_any}
use Rattle.std.proofs.lemmas.Bool.{cond_both, cond-false, or_parts, eqb-true, both_ways, false_from_ne_true}
use Rattle.ada_tree.specs.declared.word.Mark.{Mark}
use Rattle.ada_tree.specs.declared.word.Mark.TheVariants as mark
use Rattle.ada_tree.specs.Words.{mark_of, mark_text}
use Rattle.ada_tree.specs.Texts.{begins}
use Rattle.lex_ada.specs.declared.token.TokenKind.TheVariants as kind
use Rattle.lex_ada.specs.declared.cut.Cut.{Cut}
use Rattle.lex_ada.specs.declared.cut.Cut.TheVariants.{Piece, Bad}
use Rattle.lex_ada.specs.Lexis.{goes_on}
use Rattle.lex_ada.specs.Cutting.{longer_mark, mark_cut, dash_cut, cut_at}

-- a byte that makes a mark longer
abbrev pub adds : List ℕ → ℕ → Bool
adds seconds c = list_any (λ second. second == c) seconds

-- the cut of a byte at the front is a mark's: of one byte, or of two
pub data IsMark : ℕ → List ℕ → ℕ → Type 0 where
  one : (b : ℕ) (rest : List ℕ) → is_some (mark_of (b ∷ [])) ≡ true → begins (goes_on kind.Mark (b ∷ [])) rest ≡ false → IsMark b rest 1
  two : (b c : ℕ) (rest : List ℕ) → is_some (mark_of (b ∷ c ∷ [])) ≡ true → begins (goes_on kind.Mark (b ∷ c ∷ [])) rest ≡ false → IsMark b (c ∷ rest) 2

-- what the cut tells
abbrev pub TellsMark : ℕ → List ℕ → Cut → Type 0
TellsMark b rest (Piece kind.Mark n) = IsMark b rest n
TellsMark b rest (Bad n) = (n ≡ 0) × ((other : List ℕ) → mark_cut b other ≡ Bad 0)
TellsMark b rest _ = ⊥

-- no mark of three bytes begins with these two
abbrev EndsThere : ℕ → ℕ → Type 0
EndsThere b c = (rest : List ℕ) → begins (goes_on kind.Mark (b ∷ c ∷ [])) rest ≡ false

ends_there : (b c : ℕ) → ((d : ℕ) → goes_on kind.Mark (b ∷ c ∷ []) d ≡ false) → EndsThere b c
ends_there b c h [] = refl
ends_there b c h (d ∷ rest) = h d

-- each of some bytes has a property
abbrev Each : (ℕ → Type 0) → List ℕ → Type 0
Each P [] = Unit {0}
Each P (s ∷ seconds) = P s × Each P seconds

-- and so has a byte that is one of them
among : (P : ℕ → Type 0) (seconds : List ℕ) (c : ℕ) → Each P seconds → adds seconds c ≡ true → P c
among P [] c each e = absurd (cc)
among P (s ∷ seconds) c each e = by (s == c) refl (among P seconds c each.1)
  where
    by : (t : Bool) → (s == c) ≡ t → (adds seconds c ≡ true → P c) → P c
    by true t more = subst P (eqb-true s c t) each.0
    by false t more = more (sym (ap (λ x. x || adds seconds c) t) ∙ e)

-- these two bytes are a mark, and no three bytes are one that begins with them
abbrev Pair : ℕ → ℕ → Type 0
Pair b c = (is_some (mark_of (b ∷ c ∷ [])) ≡ true) × ((d : ℕ) → goes_on kind.Mark (b ∷ c ∷ []) d ≡ false)

-- a mark of one byte, or of two where one of some bytes follows
tells_longer : (b : ℕ) (seconds rest : List ℕ) → is_some (mark_of (b ∷ [])) ≡ true → ((c : ℕ) → adds seconds c ≡ true → Pair b c) → ((c : ℕ) → adds seconds c ≡ false → goes_on kind.Mark (b ∷ []) c ≡ false) → TellsMark b rest (longer_mark seconds rest)
tells_longer b seconds [] single pair stops = one b [] single refl
tells_longer b seconds (c ∷ rest) single pair stops = cond_both (adds seconds c) _ _ (TellsMark b (c ∷ rest))
    (λ e. let is = pair c e in two b c rest is.0 (ends_there b c is.1 rest))
    (λ e. one b (c ∷ rest) single (stops c e))

-- the same where one byte makes it longer
tells_one : (b s : ℕ) (rest : List ℕ) → is_some (mark_of (b ∷ [])) ≡ true → Pair b s → ((c : ℕ) → (s == c) ≡ false → goes_on kind.Mark (b ∷ []) c ≡ false) → TellsMark b rest (longer_mark (s ∷ []) rest)
tells_one b s rest single pair stops = tells_longer b (s ∷ []) rest single (λ c. among (Pair b) (s ∷ []) c (pair, tt)) (λ c e. stops c (or_parts (s == c) _ e).0)

tells_star : (rest : List ℕ) → TellsMark 42 rest (longer_mark (42 ∷ []) rest)
tells_star rest = tells_one 42 42 rest refl (refl, λ d. refl) (λ c e. rw e refl)

tells_dot : (rest : List ℕ) → TellsMark 46 rest (longer_mark (46 ∷ []) rest)
tells_dot rest = tells_one 46 46 rest refl (refl, λ d. refl) (λ c e. rw e refl)

tells_slash : (rest : List ℕ) → TellsMark 47 rest (longer_mark (61 ∷ []) rest)
tells_slash rest = tells_one 47 61 rest refl (refl, λ d. refl) (λ c e. rw e refl)

tells_colon : (rest : List ℕ) → TellsMark 58 rest (longer_mark (61 ∷ []) rest)
tells_colon rest = tells_one 58 61 rest refl (refl, λ d. refl) (λ c e. rw e refl)

tells_less : (rest : List ℕ) → TellsMark 60 rest (longer_mark (61 ∷ 60 ∷ 62 ∷ []) rest)
tells_less rest =
    let P : ℕ → Type 0 = Pair 60 in
    tells_longer 60 (61 ∷ 60 ∷ 62 ∷ []) rest refl
    (λ c. among P (61 ∷ 60 ∷ 62 ∷ []) c ((refl, λ d. refl), ((refl, λ d. refl), ((refl, λ d. refl), tt))))
    (λ c e. let first = or_parts (61 == c) _ e in let second = or_parts (60 == c) _ first.1 in let third = or_parts (62 == c) _ second.1 in rw (first.0, second.0, third.0) refl)

tells_equal : (rest : List ℕ) → TellsMark 61 rest (longer_mark (62 ∷ 61 ∷ []) rest)
tells_equal rest =
    let P : ℕ → Type 0 = Pair 61 in
    tells_longer 61 (62 ∷ 61 ∷ []) rest refl
    (λ c. among P (62 ∷ 61 ∷ []) c ((refl, λ d. refl), ((refl, λ d. refl), tt)))
    (λ c e. let first = or_parts (62 == c) _ e in let second = or_parts (61 == c) _ first.1 in rw (first.0, second.0) refl)

tells_greater : (rest : List ℕ) → TellsMark 62 rest (longer_mark (61 ∷ 62 ∷ []) rest)
tells_greater rest =
    let P : ℕ → Type 0 = Pair 62 in
    tells_longer 62 (61 ∷ 62 ∷ []) rest refl
    (λ c. among P (61 ∷ 62 ∷ []) c ((refl, λ d. refl), ((refl, λ d. refl), tt)))
    (λ c e. let first = or_parts (61 == c) _ e in let second = or_parts (62 == c) _ first.1 in rw (first.0, second.0) refl)

-- a dash that no other follows
pub tells_dash : (rest : List ℕ) → begins (λ c. c == 45) rest ≡ false → TellsMark 45 rest (longer_mark (62 ∷ []) rest)
tells_dash [] f = one 45 [] refl refl
tells_dash (c ∷ rest) f = cond_both (adds (62 ∷ []) c) _ _ (TellsMark 45 (c ∷ rest))
    (λ e. let is = among (Pair 45) (62 ∷ []) c ((refl, λ d. refl), tt) e in two 45 c rest is.0 (ends_there 45 c is.1 rest))
    (λ e. one 45 (c ∷ rest) refl (rw ((or_parts (62 == c) _ e).0, f) refl))

-- a byte that is a mark, and begins no other
abbrev Single : ℕ → Type 0
Single b = (is_some (mark_of (b ∷ [])) ≡ true) × ((c : ℕ) → goes_on kind.Mark (b ∷ []) c ≡ false)

single_ends : (b : ℕ) (rest : List ℕ) → ((c : ℕ) → goes_on kind.Mark (b ∷ []) c ≡ false) → begins (goes_on kind.Mark (b ∷ [])) rest ≡ false
single_ends b [] h = refl
single_ends b (c ∷ rest) h = h c

single_mark : (b : ℕ) → adds (codes "&'()+,;|[]@") b ≡ true → Single b
single_mark b = among Single (codes "&'()+,;|[]@") b ((refl, λ c. refl), ((refl, λ c. refl), ((refl, λ c. refl), ((refl, λ c. refl), ((refl, λ c. refl), ((refl, λ c. refl), ((refl, λ c. refl), ((refl, λ c. refl), ((refl, λ c. refl), ((refl, λ c. refl), ((refl, λ c. refl), tt)))))))))))

-- what the cut of a mark tells
pub mark_tells : (b : ℕ) (rest : List ℕ) → (b == 45) ≡ false → TellsMark b rest (mark_cut b rest)
mark_tells b rest dash =
    let P : Cut → Type 0 = TellsMark b rest in
    let at = λ (n : ℕ) (e : (b == n) ≡ true) (seconds : List ℕ) (h : TellsMark n rest (longer_mark seconds rest)). subst (λ (b : ℕ). TellsMark b rest (longer_mark seconds rest)) (sym (eqb-true b n e)) h in
    cond_both (b == 42) _ _ P (λ e. at 42 e (42 ∷ []) (tells_star rest))
    (λ e1. cond_both (b == 45) _ _ P (λ e. absurd (cc))
    (λ e2. cond_both (b == 46) _ _ P (λ e. at 46 e (46 ∷ []) (tells_dot rest))
    (λ e3. cond_both (b == 47) _ _ P (λ e. at 47 e (61 ∷ []) (tells_slash rest))
    (λ e4. cond_both (b == 58) _ _ P (λ e. at 58 e (61 ∷ []) (tells_colon rest))
    (λ e5. cond_both (b == 60) _ _ P (λ e. at 60 e (61 ∷ 60 ∷ 62 ∷ []) (tells_less rest))
    (λ e6. cond_both (b == 61) _ _ P (λ e. at 61 e (62 ∷ 61 ∷ []) (tells_equal rest))
    (λ e7. cond_both (b == 62) _ _ P (λ e. at 62 e (61 ∷ 62 ∷ []) (tells_greater rest))
    (λ e8. cond_both (adds (codes "&'()+,;|[]@") b) _ _ P
    (λ e. let is = single_mark b e in one b rest is.0 (single_ends b rest is.1))
    (λ e9. (
      refl,
      λ other. cond-false (b == 42) _ _ e1 ∙ cond-false (b == 45) _ _ e2 ∙ cond-false (b == 46) _ _ e3 ∙ cond-false (b == 47) _ _ e4 ∙ cond-false (b == 58) _ _ e5
          ∙ cond-false (b == 60) _ _ e6 ∙ cond-false (b == 61) _ _ e7 ∙ cond-false (b == 62) _ _ e8 ∙ cond-false (adds (codes "&'()+,;|[]@") b) _ _ e9,
    ))))))))))

-- ---- the mark that a text spells is cut from its front

-- a mark of one byte, where no byte follows that makes it longer
longer_stops : (b : ℕ) (seconds rest : List ℕ) → Each (λ c. goes_on kind.Mark (b ∷ []) c ≡ true) seconds → begins (goes_on kind.Mark (b ∷ [])) rest ≡ false → longer_mark seconds rest ≡ Piece kind.Mark 1
longer_stops b seconds [] each e = refl
longer_stops b seconds (c ∷ rest) each e = cond-false (adds seconds c) _ _ (false_from_ne_true (adds seconds c) (λ t. both_ways _ e (among (λ c. goes_on kind.Mark (b ∷ []) c ≡ true) seconds c each t)))

-- a dash, where neither another follows nor a byte that makes it longer
dash_stops : (note : Bool) (rest : List ℕ) → begins (goes_on kind.Mark (45 ∷ [])) rest ≡ false → dash_cut note rest ≡ Piece kind.Mark 1
dash_stops note [] e = refl
dash_stops note (c ∷ rest) e =
    cond-false (c == 45) _ _ (false_from_ne_true (c == 45) (λ t. both_ways _ e (subst (λ (c : ℕ). goes_on kind.Mark (45 ∷ []) c ≡ true) (sym (eqb-true c 45 t)) refl)))
    ∙ longer_stops 45 (62 ∷ []) (c ∷ rest) (refl, tt) e

-- each mark
pub mark_is : (note : Bool) (m : Mark) (rest : List ℕ) → begins (goes_on kind.Mark (mark_text m)) rest ≡ false → cut_at note (mark_text m ++ rest) ≡ Piece kind.Mark (length (mark_text m))
mark_is note mark.Ampersand rest e = refl
mark_is note mark.Tick rest e = refl
mark_is note mark.Open rest e = refl
mark_is note mark.Close rest e = refl
mark_is note mark.Plus rest e = refl
mark_is note mark.Comma rest e = refl
mark_is note mark.Semicolon rest e = refl
mark_is note mark.Bar rest e = refl
mark_is note mark.OpenBracket rest e = refl
mark_is note mark.CloseBracket rest e = refl
mark_is note mark.AtSign rest e = refl
mark_is note mark.Arrow rest e = refl
mark_is note mark.Dots rest e = refl
mark_is note mark.Becomes rest e = refl
mark_is note mark.NotEqual rest e = refl
mark_is note mark.LessEqual rest e = refl
mark_is note mark.GreaterEqual rest e = refl
mark_is note mark.DoubleStar rest e = refl
mark_is note mark.LeftLabel rest e = refl
mark_is note mark.RightLabel rest e = refl
mark_is note mark.Box rest e = refl
mark_is note mark.To rest e = refl
mark_is note mark.DoubleEqual rest e = refl
mark_is note mark.Star rest e = longer_stops 42 (42 ∷ []) rest (refl, tt) e
mark_is note mark.Dot rest e = longer_stops 46 (46 ∷ []) rest (refl, tt) e
mark_is note mark.Slash rest e = longer_stops 47 (61 ∷ []) rest (refl, tt) e
mark_is note mark.Colon rest e = longer_stops 58 (61 ∷ []) rest (refl, tt) e
mark_is note mark.Less rest e = longer_stops 60 (61 ∷ 60 ∷ 62 ∷ []) rest (refl, (refl, (refl, tt))) e
mark_is note mark.Equal rest e = longer_stops 61 (62 ∷ 61 ∷ []) rest (refl, (refl, tt)) e
mark_is note mark.Greater rest e = longer_stops 62 (61 ∷ 62 ∷ []) rest (refl, (refl, tt)) e
mark_is note mark.Minus rest e = dash_stops note rest e
