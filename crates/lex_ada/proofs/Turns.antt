-- What the loop over a text does in one turn.
use Rattle.std.proofs.Common.{◌≡◌, ◌≤◌, ◌<◌, ℕ, ◌+◌, List, [], ◌∷◌, ◌++◌, length, drop, Bool, true, false, refl, sym, ◌∙◌, ap, subst, arith, append_assoc, length-append}
use Rattle.std.specs.Prelude.{Result, Ok, Err, ◌==◌}
use Rattle.std.specs.Option.{option_to_list}
use Rattle.std.proofs.lemmas.List.{drop_at}
use Rattle.lex_ada.specs.declared.token.Token.{Token}
use Rattle.lex_ada.specs.declared.cut.Cut.{Cut}
use Rattle.lex_ada.specs.declared.cut.Cut.TheVariants.{Blank, LineEnd, Note, Piece, Bad}
use Rattle.lex_ada.specs.declared.scan.Refusal.{Refusal}
use Rattle.lex_ada.specs.Cutting.{cut_at, note_after, size_of, line_after, token_of, scanned}
use Rattle.lex_ada.proofs.lexing.Cuts.{Cuts, IsBad, TellsCut, cut_tells}
use Rattle.lex_ada.proofs.lexing.Scans.{added, Moves, front_moves, front_some, scanned_front, scanned_bad}

-- ---- the cut at the front

pub some_bytes : (bytes : List ℕ) (test : Bool) → test ≡ (length bytes == 0) → test ≡ false → 0 < length bytes
some_bytes [] test e f = absurd (let no : true ≡ false = sym e ∙ f in cc)
some_bytes (b ∷ bytes) test e f = omega arith

-- no byte is refused
abbrev pub IsGood : Cut → Type 0
IsGood (Bad size) = ⊥
IsGood _ = Unit {0}

pub good : (cut : Cut) → ((size : ℕ) → cut ≡ Bad size → ⊥) → IsGood cut
good Blank h = tt
good (LineEnd size) h = tt
good Note h = tt
good (Piece k size) h = tt
good (Bad size) h = h size refl

told : (note : Bool) (bytes : List ℕ) (cut : Cut) → IsGood cut → TellsCut note bytes cut → Cuts note bytes cut
told note bytes Blank good t = t
told note bytes (LineEnd size) good t = t
told note bytes Note good t = t
told note bytes (Piece k size) good t = t
told note bytes (Bad size) good t = absurd good

pub cuts : (note : Bool) (bytes : List ℕ) (cut : Cut) → cut ≡ cut_at note bytes → 0 < length bytes → IsGood cut → Cuts note bytes cut
cuts note [] cut e some good = absurd (omega arith)
cuts note (b ∷ rest) cut e some good = told note (b ∷ rest) cut good (subst (TellsCut note (b ∷ rest)) (sym e) (cut_tells note b rest))

moves_size : (cut : Cut) (n : ℕ) → Moves cut n → size_of cut ≡ n
moves_size Blank n m = sym m
moves_size (LineEnd size) n m = m
moves_size Note n m = sym m
moves_size (Piece k size) n m = m
moves_size (Bad size) n m = absurd m

-- it takes a byte at least, and lies within the text
pub record IsWithin (bytes : List ℕ) (cut : Cut) : Type 0 where
  pub least : 1 ≤ size_of cut
  pub most : size_of cut ≤ length bytes

pub within : (note : Bool) (bytes : List ℕ) (cut : Cut) → Cuts note bytes cut → IsWithin bytes cut
within note bytes cut c =
    let size = moves_size cut (length c.piece) (front_moves note c.piece c.rest cut c.front) in
    let some = front_some note c.piece c.rest cut c.front in
    let least : 1 ≤ size_of cut = omega (arith, size, some) in
    let most : size_of cut ≤ length bytes = omega (arith, size, ap length c.whole, length-append c.piece c.rest) in
    record { least = least; most = most }

-- so does a refused byte
pub within_bad : (note : Bool) (bytes : List ℕ) (size : ℕ) → Bad size ≡ cut_at note bytes → 0 < length bytes → size ≤ length bytes
within_bad note [] size e some = absurd (omega arith)
within_bad note (b ∷ rest) size e some = of_bad (subst (TellsCut note (b ∷ rest)) (sym e) (cut_tells note b rest))
  where
    of_bad : IsBad note (b ∷ rest) size → size ≤ length (b ∷ rest)
    of_bad t = omega (arith, t.size, ap length t.whole, length-append t.piece t.rest)

-- ---- tokens so far

-- tokens before those of a scan
abbrev pub with_tokens : List Token → Result (List Token) Refusal → Result (List Token) Refusal
with_tokens before (Ok tokens) = Ok (before ++ tokens)
with_tokens before (Err refusal) = Err refusal

with_tokens-append : (before more : List Token) (r : Result (List Token) Refusal) → with_tokens (before ++ more) r ≡ with_tokens before (with_tokens more r)
with_tokens-append before more (Ok tokens) = ap Ok (append_assoc before more tokens)
with_tokens-append before more (Err refusal) = refl

none_more : (r : Result (List Token) Refusal) → r ≡ with_tokens [] r
none_more (Ok tokens) = refl
none_more (Err refusal) = refl

added_is : (cut : Cut) (note : Bool) (at line : ℕ) (r : Result (List Token) Refusal) → added cut note at line r ≡ with_tokens (option_to_list (token_of cut note at line)) r
added_is Blank note at line r = none_more r
added_is (LineEnd size) note at line r = none_more r
added_is Note note at line r = none_more r
added_is (Piece k size) note at line (Ok tokens) = refl
added_is (Piece k size) note at line (Err refusal) = refl
added_is (Bad size) note at line r = none_more r

-- ---- a turn

scanned_more : (note : Bool) (at line : ℕ) (bytes : List ℕ) (cut : Cut) → Cuts note bytes cut
    → scanned 0 note at line bytes ≡ with_tokens (option_to_list (token_of cut note at line)) (scanned 0 (note_after cut note) (at + size_of cut) (line_after cut line) (drop (size_of cut) bytes))
scanned_more note at line bytes cut c =
    let size = moves_size cut (length c.piece) (front_moves note c.piece c.rest cut c.front) in
    let others : drop (size_of cut) bytes ≡ c.rest = ap (drop (size_of cut)) c.whole ∙ drop_at c.piece c.rest (size_of cut) (sym size) in
    ap (scanned 0 note at line) c.whole ∙ scanned_front note at line c.piece c.rest cut c.front
    ∙ added_is cut note at line (scanned 0 (note_after cut note) (at + length c.piece) (line_after cut line) c.rest)
    ∙ ap (λ n. with_tokens (option_to_list (token_of cut note at line)) (scanned 0 (note_after cut note) (at + n) (line_after cut line) c.rest)) (sym size)
    ∙ ap (λ bs. with_tokens (option_to_list (token_of cut note at line)) (scanned 0 (note_after cut note) (at + size_of cut) (line_after cut line) bs)) (sym others)

-- the tokens so far, and those of the rest, are the same as before
pub turned : (tokens more : List Token) (note next_note : Bool) (at next_at line next_line : ℕ) (rest next_rest : List ℕ) (cut : Cut) (all : Result (List Token) Refusal)
    → Cuts note rest cut → more ≡ tokens ++ option_to_list (token_of cut note at line)
    → next_note ≡ note_after cut note → next_at ≡ at + size_of cut → next_line ≡ line_after cut line → next_rest ≡ drop (size_of cut) rest
    → with_tokens tokens (scanned 0 note at line rest) ≡ all → with_tokens more (scanned 0 next_note next_at next_line next_rest) ≡ all
turned tokens more note next_note at next_at line next_line rest next_rest cut all c tokens_are note_is at_is line_is rest_is whole =
    ap (λ ts. with_tokens ts (scanned 0 next_note next_at next_line next_rest)) tokens_are
    ∙ ap (λ n. with_tokens (tokens ++ option_to_list (token_of cut note at line)) (scanned 0 n next_at next_line next_rest)) note_is
    ∙ ap (λ n. with_tokens (tokens ++ option_to_list (token_of cut note at line)) (scanned 0 (note_after cut note) n next_line next_rest)) at_is
    ∙ ap (λ n. with_tokens (tokens ++ option_to_list (token_of cut note at line)) (scanned 0 (note_after cut note) (at + size_of cut) n next_rest)) line_is
    ∙ ap (λ bs. with_tokens (tokens ++ option_to_list (token_of cut note at line)) (scanned 0 (note_after cut note) (at + size_of cut) (line_after cut line) bs)) rest_is
    ∙ with_tokens-append tokens (option_to_list (token_of cut note at line)) (scanned 0 (note_after cut note) (at + size_of cut) (line_after cut line) (drop (size_of cut) rest))
    ∙ ap (with_tokens tokens) (sym (scanned_more note at line rest cut c))
    ∙ whole

-- where a byte is refused, that is the answer
pub refused : (tokens : List Token) (note : Bool) (at line size : ℕ) (rest : List ℕ) (all : Result (List Token) Refusal)
    → Bad size ≡ cut_at note rest → with_tokens tokens (scanned 0 note at line rest) ≡ all → Err (record { at = at + size; line = line }) ≡ all
refused tokens note at line size rest all is_cut whole = sym (ap (with_tokens tokens) (scanned_bad note at line size rest (sym is_cut))) ∙ whole

-- lines are no more than bytes
pub line_bound : (cut : Cut) (line at : ℕ) → 1 ≤ size_of cut → line ≤ 1 + at → line_after cut line ≤ 1 + (at + size_of cut)
line_bound Blank line at some le = omega arith
line_bound (LineEnd size) line at some le = omega arith
line_bound Note line at some le = omega arith
line_bound (Piece k size) line at some le = omega arith
line_bound (Bad size) line at some le = omega arith
