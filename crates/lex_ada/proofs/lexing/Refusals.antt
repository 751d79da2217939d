-- Where the scan of a text ends without tokens, the text has none: from some byte on no text goes on to one that has.
use Rattle.std.proofs.Common.{◌≡◌, ℕ, ◌+◌, List, [], ◌∷◌, ◌++◌, length, drop, Bool, false, refl, sym, ◌∙◌, ap, subst, inl, inr, ◌⊎◌, append_assoc, append-nil, length-append, arith}
use Rattle.std.specs.Prelude.{Result, Ok, Err}
use Rattle.std.proofs.lemmas.List.{drop_at}
use Rattle.lex_ada.specs.declared.token.Token.{Token}
use Rattle.lex_ada.specs.declared.token.TokenKind.{TokenKind}
use Rattle.lex_ada.specs.declared.cut.Cut.{Cut}
use Rattle.lex_ada.specs.declared.cut.Cut.TheVariants.{Piece}
use Rattle.lex_ada.specs.declared.scan.Refusal.{Refusal}
use Rattle.lex_ada.specs.Cutting.{scanned}
use Rattle.lex_ada.specs.Faults.{line_ends, code_at, Refuses, IsFault}
use Rattle.lex_ada.proofs.lexing.Heads.{Same, Agree, agree_same, same_behind}
use Rattle.lex_ada.proofs.lexing.Fronts.{Front, front_agree, note_after, line_after, with_cut}
use Rattle.lex_ada.proofs.lexing.Cuts.{IsBad}
use Rattle.lex_ada.proofs.lexing.Lines.{lines-skip, front_lines}
use Rattle.lex_ada.proofs.lexing.Scans.{added, scanned_front, scanned_bad, Scan, ended, went, refused, scan}
use Rattle.lex_ada.proofs.lexing.Scanning.{scanned_lexed, lexed_scanned, added_tokens, added_refusal, scanned_more}

-- a text's scan ends here: a front that goes on to a text with tokens, and with the next byte none does
record Refused (note : Bool) (at line : ℕ) (bytes : List ℕ) (refusal : Refusal) : Type 0 where
  front : List ℕ
  rest : List ℕ
  whole : bytes ≡ front ++ rest
  at_is : refusal.at ≡ at + length front
  line_is : refusal.line ≡ line + line_ends front
  more : List ℕ
  tokens : List Token
  agrees : Agree (front ++ rest) (front ++ more)
  goes : scanned 0 note at line (front ++ more) ≡ Ok tokens
  refuses : (other : List ℕ) → Same rest other → scanned 0 note at line (front ++ other) ≡ Err refusal

-- the beginning of a token, completed
completed : (note : Bool) (at line : ℕ) (bytes : List ℕ) → (bytes ≡ []) ⊎ ((k : TokenKind) × Front note bytes [] (Piece k (length bytes))) → (tokens : List Token) × (scanned 0 note at line bytes ≡ Ok tokens)
completed note at line bytes (inl e) = ([], ap (scanned 0 note at line) e)
completed note at line bytes (inr (k, f)) =
    (with_cut (Piece k (length bytes)) note at line [], ap (scanned 0 note at line) (sym (append-nil bytes)) ∙ scanned_more note at line bytes [] (Piece k (length bytes)) [] f refl)

-- a byte that no token admits, at the front
bad_refused : (note : Bool) (at line n : ℕ) (bytes : List ℕ) → IsBad note bytes n → Refused note at line bytes (record { at = at + n; line = line })
bad_refused note at line n bytes bad =
    let whole = completed note at line (bad.piece ++ bad.more) bad.completes in
    record {
      front = bad.piece;
      rest = bad.rest;
      whole = bad.whole;
      at_is = ap (λ (n : ℕ). at + n) bad.size;
      line_is = let none = lines-skip bad.piece [] bad.one_line in let same = ap line_ends (append-nil bad.piece) in omega arith;
      more = bad.more;
      tokens = whole.0;
      agrees = bad.agrees;
      goes = whole.1;
      refuses = λ other h. scanned_bad note at line n (bad.piece ++ other) (bad.refused other h);
    }

-- a text agrees with a front of it
front_agrees : (front rest : List ℕ) → Agree (front ++ rest) front
front_agrees [] rest = tt
front_agrees (b ∷ front) rest = refl

-- texts behind a front that agree, behind a piece before it
agree_past : (piece front rest more : List ℕ) → Agree (front ++ rest) (front ++ more) → Agree ((piece ++ front) ++ rest) ((piece ++ front) ++ more)
agree_past [] front rest more e = e
agree_past (b ∷ piece) front rest more e = refl

-- and one further on
later_refused : (note : Bool) (at line : ℕ) (piece rest : List ℕ) (cut : Cut) (refusal : Refusal) → Front note piece rest cut → Refused (note_after cut note) (at + length piece) (line_after cut line) rest refusal → Refused note at line (piece ++ rest) refusal
later_refused note at line piece rest cut refusal f r =
    let here = λ (other : List ℕ) (e : Agree (r.front ++ r.rest) other). front_agree note piece rest other cut (subst (λ s. Agree s other) (sym r.whole) e) f in
    record {
      front = piece ++ r.front;
      rest = r.rest;
      whole = ap (λ s. piece ++ s) r.whole ∙ sym (append_assoc piece r.front r.rest);
      at_is = omega (arith, r.at_is, length-append piece r.front);
      line_is = r.line_is ∙ sym (front_lines note line piece r.front cut (here r.front (front_agrees r.front r.rest)));
      more = r.more;
      tokens = with_cut cut note at line r.tokens;
      agrees = agree_past piece r.front r.rest r.more r.agrees;
      goes = ap (scanned 0 note at line) (append_assoc piece r.front r.more) ∙ scanned_more note at line piece (r.front ++ r.more) cut r.tokens (here (r.front ++ r.more) r.agrees) r.goes;
      refuses = λ other h. ap (scanned 0 note at line) (append_assoc piece r.front other) ∙ scanned_front note at line piece (r.front ++ other) cut (here (r.front ++ other) (agree_same _ _ (same_behind r.front r.rest other h))) ∙ ap (added cut note at line) (r.refuses other h) ∙ added_refusal cut note at line refusal;
    }

-- one result has the same refusal
same_refusal : (a b : Refusal) (r : Result (List Token) Refusal) → r ≡ Err a → r ≡ Err b → a ≡ b
same_refusal a b r e f = cc

-- the refusal that a scan gives
scan_refused : (note : Bool) (at line : ℕ) (bytes : List ℕ) (r : Result (List Token) Refusal) (refusal : Refusal) → Scan note at line bytes r → r ≡ Err refusal → Refused note at line bytes refusal
scan_refused note at line bytes r refusal (ended _ _ _) e = absurd (cc)
scan_refused note at line bytes r refusal (went _ _ _ piece rest cut (Ok others) f s) e = let never : Ok (with_cut cut note at line others) ≡ Err refusal = sym (added_tokens cut note at line others) ∙ e in absurd (cc)
scan_refused note at line bytes r refusal (went _ _ _ piece rest cut (Err first) f s) e =
    later_refused note at line piece rest cut refusal f (scan_refused (note_after cut note) (at + length piece) (line_after cut line) rest (Err first) refusal s (sym (added_refusal cut note at line first) ∙ e))
scan_refused note at line bytes r refusal (refused _ _ _ n _ bad) e = subst (Refused note at line bytes) (same_refusal (record { at = at + n; line = line }) refusal r refl e) (bad_refused note at line n bytes bad)

-- with the next byte, or at the end, there are no tokens
refuses_next : (front rest : List ℕ) (refusal : Refusal) → ((other : List ℕ) → Same rest other → scanned 0 false 0 1 (front ++ other) ≡ Err refusal) → Refuses front rest
refuses_next front [] refusal h = λ tokens t. let never : Ok tokens ≡ Err refusal = sym (lexed_scanned false 0 1 front tokens t) ∙ ap (scanned 0 false 0 1) (sym (append-nil front)) ∙ h [] tt in cc
refuses_next front (b ∷ rest) refusal h = λ other tokens t. let never : Ok tokens ≡ Err refusal = sym (lexed_scanned false 0 1 (front ++ b ∷ other) tokens t) ∙ h (b ∷ other) refl in cc

-- where the scan of a whole text gives none, there is the text's fault
pub refused_fault : (bytes : List ℕ) (refusal : Refusal) → scanned 0 false 0 1 bytes ≡ Err refusal → IsFault bytes (code_at (drop refusal.at bytes)) refusal.line
refused_fault bytes refusal e =
    let r = scan_refused false 0 1 bytes (scanned 0 false 0 1 bytes) refusal (scan false 0 1 bytes) e in
    record {
      front = r.front;
      rest = r.rest;
      whole = r.whole;
      before = (r.more, r.tokens, scanned_lexed false 0 1 (r.front ++ r.more) r.tokens r.goes);
      refused = refuses_next r.front r.rest refusal r.refuses;
      code_is = ap code_at (ap (drop refusal.at) r.whole ∙ drop_at r.front r.rest refusal.at (omega (arith, r.at_is)));
      line_is = omega (arith, r.line_is);
    }
