-- The cut at the front of a text is what stands there by the rules, or no rule admits a byte.
use Rattle.std.proofs.Common.{◌≡◌, ℕ, suc, ◌+◌, List, [], ◌∷◌, ◌++◌, length, take, Bool, true, false, cond, refl, sym, ◌∙◌, ap, subst, inl, inr, ◌⊎◌, arith}
use Rattle.std.specs.Prelude.{◌==◌, Result, Ok, Err}
use Rattle.std.specs.List.{list_any, prefix_len}
use Rattle.std.specs.Char.{is_ascii_alphabetic, is_ascii_digit}
use Rattle.std.proofs.lemmas.Bool.{and_parts, and_from, cond_both, cond-true, cond-false, eqb-true}
use Rattle.std.proofs.lemmas.List.{take_at}
use Rattle.ada_tree.specs.declared.word.TheConstants.{MARKS}
use Rattle.ada_tree.specs.Words.{mark_text}
use Rattle.ada_tree.specs.Texts.{begins, is_blank, ends_line}
use Rattle.lex_ada.specs.declared.token.TokenKind.{TokenKind}
use Rattle.lex_ada.specs.declared.token.TokenKind.TheVariants as kind
use Rattle.lex_ada.specs.declared.cut.Cut.{Cut}
use Rattle.lex_ada.specs.declared.cut.Cut.TheVariants.{Blank, LineEnd, Note, Piece, Bad}
use Rattle.lex_ada.specs.Lexis.{is_word_byte, spells, goes_on, is_return_before_feed, begins_note}
use Rattle.lex_ada.specs.Cutting.{in_line, longer, word_kind, word_piece, number_piece, name_length, number_length, mark_cut, dash_cut, cut_of, cut_at}
use Rattle.lex_ada.proofs.lexing.Letters.{blank_in_line, word_in_line, word_not_blank, word_no_dash, letter_of_word, digit_of_word, digit_no_letter, digit_byte_of_word}
use Rattle.lex_ada.proofs.lexing.Heads.{Same, Agree, same_first, all_in_line, none_ends_line, word_one_line, list_all-weaker, run_is, run_of}
use Rattle.lex_ada.proofs.lexing.Runs.{IsRun, Tells, names, numbers, is_digit_byte, name_tells, name_runs, number_tells, number_runs}
use Rattle.lex_ada.proofs.lexing.Spelled.{found_is, short_run, short_from, kind_spelled, kind_goes_on, word_spelled, name_spelled, name_first, numeral_run, numeral_from, number_first}
use Rattle.lex_ada.proofs.lexing.Marks.{IsMark, one, two, TellsMark, tells_dash, mark_tells, mark_is}
use Rattle.lex_ada.proofs.lexing.Fronts.{Front, a_blank, an_end, an_end_of_two, a_note, a_comment, a_token}

-- ---- what stands at the front is the cut

-- a letter begins a word or a name
letter_cut : (note : Bool) (b : ℕ) (rest : List ℕ) → is_ascii_alphabetic b ≡ true → cut_of note b rest ≡ word_piece note (b ∷ rest) (longer (name_length false 1 rest))
letter_cut note b rest e =
    let word = letter_of_word b e in
    cond-false (ends_line b) _ _ (word_in_line b word) ∙ cond-false (is_blank b) _ _ (word_not_blank b word) ∙ cond-false (b == 45) _ _ (word_no_dash b word) ∙ cond-true (is_ascii_alphabetic b) _ _ e
    ∙ ap (word_piece note (b ∷ rest)) (name_first b rest e)

-- a digit begins a number
digit_cut : (note : Bool) (b : ℕ) (rest : List ℕ) → is_ascii_digit b ≡ true → cut_of note b rest ≡ number_piece (longer (number_length false 1 rest))
digit_cut note b rest e =
    let word = digit_of_word b e in
    cond-false (ends_line b) _ _ (word_in_line b word) ∙ cond-false (is_blank b) _ _ (word_not_blank b word) ∙ cond-false (b == 45) _ _ (word_no_dash b word) ∙ cond-false (is_ascii_alphabetic b) _ _ (digit_no_letter b e) ∙ cond-true (is_ascii_digit b) _ _ e
    ∙ ap number_piece (number_first b rest e)

-- a run at the front, of a name or a word
word_cut : (note : Bool) (b : ℕ) (run rest : List ℕ) → is_ascii_alphabetic b ≡ true → IsRun names false 1 run → begins is_word_byte rest ≡ false → cut_at note ((b ∷ run) ++ rest) ≡ Piece (word_kind note (b ∷ run)) (length (b ∷ run))
word_cut note b run rest e r stops =
    letter_cut note b (run ++ rest) e ∙ ap (λ (r : Result ℕ ℕ). word_piece note (b ∷ (run ++ rest)) (longer r)) (name_runs false 1 run rest r stops)
    ∙ ap (λ t. Piece (word_kind note t) (length (b ∷ run))) (take_at (b ∷ run) rest (length (b ∷ run)) refl)

-- a text that is a token's, before a byte that doesn't make it longer
token_cut : (note : Bool) (k : TokenKind) (spelling rest : List ℕ) → spells note k spelling ≡ true → begins (goes_on k spelling) rest ≡ false → cut_at note (spelling ++ rest) ≡ Piece k (length spelling)
token_cut note kind.Name [] rest e stops = absurd (cc)
token_cut note kind.Name (b ∷ run) rest e stops =
    let is = name_spelled note (b ∷ run) e in
    let parts = short_run b run is.0 in
    word_cut note b run rest parts.0 parts.1 stops ∙ ap (λ k. Piece k (length (b ∷ run))) is.1
token_cut note kind.Word [] rest e stops = let never : false ≡ true = (word_spelled note [] e).0 in absurd (cc)
token_cut note kind.Word (b ∷ run) rest e stops =
    let is = word_spelled note (b ∷ run) e in
    let parts = short_run b run is.0 in
    word_cut note b run rest parts.0 parts.1 stops ∙ ap (λ k. Piece k (length (b ∷ run))) is.1
token_cut note kind.Number [] rest e stops = absurd (cc)
token_cut note kind.Number (b ∷ run) rest e stops =
    let parts = numeral_run b run e in
    digit_cut note b (run ++ rest) parts.0 ∙ ap (λ (r : Result ℕ ℕ). number_piece (longer r)) (number_runs false 1 run rest parts.1 stops)
token_cut note kind.Mark spelling rest e stops =
    let is = found_is (λ row. row.0) (λ row. row.1.now) mark_text MARKS refl spelling e in
    subst (λ s. cut_at note (s ++ rest) ≡ Piece kind.Mark (length s)) is.1 (mark_is note is.0 rest (subst (λ s. begins (goes_on kind.Mark s) rest ≡ false) (sym is.1) stops))
token_cut note kind.Comment spelling rest e stops = absurd (cc)

-- what stands at the front by the rules
pub front_cut : (note : Bool) (piece rest : List ℕ) (cut : Cut) → Front note piece rest cut → cut_at note (piece ++ rest) ≡ cut
front_cut note piece rest cut (a_blank _ b _ is) = cond-false (ends_line b) _ _ (blank_in_line b is) ∙ cond-true (is_blank b) _ _ is
front_cut note piece rest cut (an_end _ b _ is alone) = cond-true (ends_line b) _ _ is ∙ ap (λ (n : ℕ). LineEnd n) (cond-false (is_return_before_feed b rest) 2 1 alone)
front_cut note piece rest cut (an_end_of_two _ _) = refl
front_cut note piece rest cut (a_note _) = refl
front_cut note piece rest cut (a_comment _ text _ no_note one_line stops) = cond-false (begins_note note (text ++ rest)) _ _ no_note ∙ ap (λ (n : ℕ). Piece kind.Comment (2 + n)) (run_is in_line text rest (all_in_line text one_line) stops)
front_cut note piece rest cut (a_token _ k _ _ is stops) = token_cut note k piece rest is stops

-- ---- the cut stands at the front

-- a text of which this is cut by the rules
pub record Cuts (note : Bool) (bytes : List ℕ) (cut : Cut) : Type 0 where
  pub piece : List ℕ
  pub rest : List ℕ
  pub whole : bytes ≡ piece ++ rest
  pub front : Front note piece rest cut

-- A text after so many bytes of which there is one that no token admits, or the end. The bytes before it are completed to a token, or are none.
pub record IsBad (note : Bool) (bytes : List ℕ) (n : ℕ) : Type 0 where
  pub piece : List ℕ
  pub rest : List ℕ
  pub whole : bytes ≡ piece ++ rest
  pub size : n ≡ length piece
  pub one_line : list_any ends_line piece ≡ false
  pub more : List ℕ
  pub agrees : Agree (piece ++ rest) (piece ++ more)
  pub completes : (piece ++ more ≡ []) ⊎ ((k : TokenKind) × Front note (piece ++ more) [] (Piece k (length (piece ++ more))))
  pub refused : (other : List ℕ) → Same rest other → cut_at note (piece ++ other) ≡ Bad n

-- what the cut tells
abbrev pub TellsCut : Bool → List ℕ → Cut → Type 0
TellsCut note bytes Blank = Cuts note bytes Blank
TellsCut note bytes (LineEnd n) = Cuts note bytes (LineEnd n)
TellsCut note bytes Note = Cuts note bytes Note
TellsCut note bytes (Piece k n) = Cuts note bytes (Piece k n)
TellsCut note bytes (Bad n) = IsBad note bytes n

-- the end of a line, of one or two bytes
end_tells : (note : Bool) (b : ℕ) (rest : List ℕ) → ends_line b ≡ true → Cuts note (b ∷ rest) (LineEnd (cond (is_return_before_feed b rest) 2 1))
end_tells note b rest is = cond_both (is_return_before_feed b rest) 2 1 (λ n. Cuts note (b ∷ rest) (LineEnd n)) (two_bytes rest)
    (λ e. record { piece = b ∷ []; rest = rest; whole = refl; front = an_end note b rest is e })
  where
    two_bytes : (rest : List ℕ) → is_return_before_feed b rest ≡ true → Cuts note (b ∷ rest) (LineEnd 2)
    two_bytes [] e = let never = (and_parts (b == 13) false e).1 in absurd (cc)
    two_bytes (c ∷ rest) e =
        let parts = and_parts (b == 13) (c == 10) e in
        record { piece = 13 ∷ 10 ∷ []; rest = rest; whole = ap (λ (b : ℕ). b ∷ c ∷ rest) (eqb-true b 13 parts.0) ∙ ap (λ (c : ℕ). 13 ∷ c ∷ rest) (eqb-true c 10 parts.1); front = an_end_of_two note rest }

-- a word or a name, or the beginning of one
word_tells : (note : Bool) (b : ℕ) (rest : List ℕ) (r : Result ℕ ℕ) → is_ascii_alphabetic b ≡ true → Tells names false 1 rest r → TellsCut note (b ∷ rest) (word_piece note (b ∷ rest) (longer r))
word_tells note b rest (Ok n) e g =
    let taken : take n rest ≡ g.run = ap (take n) g.whole ∙ take_at g.run g.rest n (sym g.size) in
    let short = short_from b g.run e g.is in
    let text : List ℕ = b ∷ g.run in
    record {
      piece = text;
      rest = g.rest;
      whole = ap (λ s. b ∷ s) g.whole;
      front = subst (λ s. Front note text g.rest (Piece (word_kind note (b ∷ s)) (suc n))) (sym taken)
          (subst (λ (n : ℕ). Front note text g.rest (Piece (word_kind note text) (suc n))) (sym g.size)
          (a_token note (word_kind note text) text g.rest (kind_spelled note text short) (kind_goes_on note text g.rest g.stops)));
    }
word_tells note b rest (Err n) e s =
    let text : List ℕ = b ∷ (s.run ++ s.more) in
    let short = short_from b (s.run ++ s.more) e s.completes in
    record {
      piece = b ∷ s.run;
      rest = s.rest;
      whole = ap (λ s. b ∷ s) s.whole;
      size = ap (λ (n : ℕ). suc n) s.size;
      one_line = word_one_line (b ∷ s.run) (and_from (is_word_byte b) _ (letter_of_word b e) s.made);
      more = s.more;
      agrees = refl;
      completes = inr (word_kind note text, a_token note (word_kind note text) text [] (kind_spelled note text short) (kind_goes_on note text [] refl));
      refused = λ other h. letter_cut note b (s.run ++ other) e ∙ ap (λ (r : Result ℕ ℕ). word_piece note (b ∷ (s.run ++ other)) (longer r)) (s.refused other h) ∙ ap (λ (n : ℕ). Bad (suc n)) (sym s.size);
    }

-- a number, or the beginning of one
number_piece_tells : (note : Bool) (b : ℕ) (rest : List ℕ) (r : Result ℕ ℕ) → is_ascii_digit b ≡ true → Tells numbers false 1 rest r → TellsCut note (b ∷ rest) (number_piece (longer r))
number_piece_tells note b rest (Ok n) e g = record {
  piece = b ∷ g.run;
  rest = g.rest;
  whole = ap (λ s. b ∷ s) g.whole;
  front = subst (λ (n : ℕ). Front note (b ∷ g.run) g.rest (Piece kind.Number (suc n))) (sym g.size) (a_token note kind.Number (b ∷ g.run) g.rest (numeral_from b g.run e g.is) g.stops);
}
number_piece_tells note b rest (Err n) e s = record {
  piece = b ∷ s.run;
  rest = s.rest;
  whole = ap (λ s. b ∷ s) s.whole;
  size = ap (λ (n : ℕ). suc n) s.size;
  one_line = word_one_line (b ∷ s.run) (and_from (is_word_byte b) _ (digit_of_word b e) (list_all-weaker is_digit_byte is_word_byte s.run digit_byte_of_word s.made));
  more = s.more;
  agrees = refl;
  completes = inr (kind.Number, a_token note kind.Number (b ∷ (s.run ++ s.more)) [] (numeral_from b (s.run ++ s.more) e s.completes) refl);
  refused = λ other h. digit_cut note b (s.run ++ other) e ∙ ap (λ (r : Result ℕ ℕ). number_piece (longer r)) (s.refused other h) ∙ ap (λ (n : ℕ). Bad (suc n)) (sym s.size);
}

-- a mark of one or two bytes
mark_front : (note : Bool) (b : ℕ) (rest : List ℕ) (n : ℕ) → IsMark b rest n → Cuts note (b ∷ rest) (Piece kind.Mark n)
mark_front note b rest n (one _ _ is stops) = record { piece = b ∷ []; rest = rest; whole = refl; front = a_token note kind.Mark (b ∷ []) rest is stops }
mark_front note b rest n (two _ c others is stops) = record { piece = b ∷ c ∷ []; rest = others; whole = refl; front = a_token note kind.Mark (b ∷ c ∷ []) others is stops }

-- a mark, or a byte that begins nothing; `same` tells that the cut is then this one before any text
mark_piece_tells : (note : Bool) (b : ℕ) (rest : List ℕ) (cut : Cut) → (((other : List ℕ) → mark_cut b other ≡ Bad 0) → (other : List ℕ) → cut_of note b other ≡ Bad 0) → TellsMark b rest cut → TellsCut note (b ∷ rest) cut
mark_piece_tells note b rest Blank same t = absurd t
mark_piece_tells note b rest (LineEnd n) same t = absurd t
mark_piece_tells note b rest Note same t = absurd t
mark_piece_tells note b rest (Piece kind.Name n) same t = absurd t
mark_piece_tells note b rest (Piece kind.Number n) same t = absurd t
mark_piece_tells note b rest (Piece kind.Word n) same t = absurd t
mark_piece_tells note b rest (Piece kind.Mark n) same t = mark_front note b rest n t
mark_piece_tells note b rest (Piece kind.Comment n) same t = absurd t
mark_piece_tells note b rest (Bad n) same t = record {
  piece = [];
  rest = b ∷ rest;
  whole = refl;
  size = t.0;
  one_line = refl;
  more = [];
  agrees = tt;
  completes = inl refl;
  refused = λ other h. same_first (λ s. cut_at note s ≡ Bad n) b rest other h (λ tail. same t.1 tail ∙ ap (λ (n : ℕ). Bad n) (sym t.0));
}

-- two dashes: annotation text, or a comment
two_dashes_tell : (note : Bool) (text : List ℕ) → TellsCut note (45 ∷ 45 ∷ text) (cond (begins_note note text) Note (Piece kind.Comment (2 + prefix_len in_line text)))
two_dashes_tell note text = cond_both (begins_note note text) _ _ (TellsCut note (45 ∷ 45 ∷ text)) (annotation note text)
    (λ e. let r = run_of in_line text in record {
      piece = 45 ∷ 45 ∷ r.run;
      rest = r.rest;
      whole = ap (λ s. 45 ∷ 45 ∷ s) r.whole;
      front = subst (λ (n : ℕ). Front note (45 ∷ 45 ∷ r.run) r.rest (Piece kind.Comment (2 + n))) (sym r.size) (a_comment note r.run r.rest (ap (begins_note note) (sym r.whole) ∙ e) (none_ends_line r.run r.passes) r.stops);
    })
  where
    annotation : (note : Bool) (text : List ℕ) → begins_note note text ≡ true → Cuts note (45 ∷ 45 ∷ text) Note
    annotation true text e = absurd (cc)
    annotation false [] e = absurd (cc)
    annotation false (b ∷ text) e = record { piece = 45 ∷ 45 ∷ 124 ∷ []; rest = text; whole = ap (λ (b : ℕ). 45 ∷ 45 ∷ b ∷ text) (eqb-true b 124 e); front = a_note text }

-- a dash is a mark where it is the only one
dash_mark_tells : (note : Bool) (rest : List ℕ) → begins (λ c. c == 45) rest ≡ false → TellsCut note (45 ∷ rest) (mark_cut 45 rest)
dash_mark_tells note rest e = mark_piece_tells note 45 rest (mark_cut 45 rest) (λ h other. let never = h [] in absurd (cc)) (tells_dash rest e)

-- what follows a dash
dash_tells : (note : Bool) (rest : List ℕ) → TellsCut note (45 ∷ rest) (dash_cut note rest)
dash_tells note [] = dash_mark_tells note [] refl
dash_tells note (c ∷ text) = cond_both (c == 45) _ _ (TellsCut note (45 ∷ c ∷ text))
    (λ e. subst (λ (c : ℕ). TellsCut note (45 ∷ c ∷ text) (cond (begins_note note text) Note (Piece kind.Comment (2 + prefix_len in_line text)))) (sym (eqb-true c 45 e)) (two_dashes_tell note text))
    (λ e. dash_mark_tells note (c ∷ text) e)

-- any cut at the front of a text
pub cut_tells : (note : Bool) (b : ℕ) (rest : List ℕ) → TellsCut note (b ∷ rest) (cut_of note b rest)
cut_tells note b rest =
    let P : Cut → Type 0 = TellsCut note (b ∷ rest) in
    cond_both (ends_line b) _ _ P (λ e. end_tells note b rest e)
    (λ e1. cond_both (is_blank b) _ _ P (λ e. record { piece = b ∷ []; rest = rest; whole = refl; front = a_blank note b rest e })
    (λ e2. cond_both (b == 45) _ _ P (λ e. subst (λ (b : ℕ). TellsCut note (b ∷ rest) (dash_cut note rest)) (sym (eqb-true b 45 e)) (dash_tells note rest))
    (λ e3. cond_both (is_ascii_alphabetic b) _ _ P
    (λ e. subst (λ r. TellsCut note (b ∷ rest) (word_piece note (b ∷ rest) r)) (sym (name_first b rest e)) (word_tells note b rest (name_length false 1 rest) e (name_tells false 1 rest (omega arith) (λ h. absurd (cc)))))
    (λ e4. cond_both (is_ascii_digit b) _ _ P
    (λ e. subst (λ r. TellsCut note (b ∷ rest) (number_piece r)) (sym (number_first b rest e)) (number_piece_tells note b rest (number_length false 1 rest) e (number_tells false 1 rest (omega arith) (λ h. absurd (cc)))))
    (λ e5. mark_piece_tells note b rest (mark_cut b rest)
    (λ h other. cond-false (ends_line b) _ _ e1 ∙ cond-false (is_blank b) _ _ e2 ∙ cond-false (b == 45) _ _ e3 ∙ cond-false (is_ascii_alphabetic b) _ _ e4 ∙ cond-false (is_ascii_digit b) _ _ e5 ∙ h other)
    (mark_tells b rest e3))))))
