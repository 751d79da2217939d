-- What stands at the front of a text, by rules: the same as the constructors of `Lexed`, without what follows.
use Rattle.std.proofs.Common.{◌≡◌, ℕ, ◌+◌, List, [], ◌∷◌, ◌++◌, length, Bool, true, false, refl}
use Rattle.std.specs.Prelude.{◌==◌, ◌&&◌, not}
use Rattle.std.specs.List.{list_any}
use Rattle.ada_tree.specs.Texts.{begins, is_blank, ends_line}
use Rattle.lex_ada.specs.declared.token.Token.{Token}
use Rattle.lex_ada.specs.declared.token.TokenKind.{TokenKind}
use Rattle.lex_ada.specs.declared.token.TokenKind.TheVariants as kind
use Rattle.lex_ada.specs.declared.cut.Cut.{Cut}
use Rattle.lex_ada.specs.declared.cut.Cut.TheVariants.{Blank, LineEnd, Note, Piece}
use Rattle.lex_ada.specs.Lexis.{spells, goes_on, is_return_before_feed, begins_note, token_at}
use Rattle.lex_ada.specs.Cutting.{in_line, note_of}
pub use Rattle.lex_ada.specs.Cutting.{note_after, line_after}
use Rattle.lex_ada.proofs.lexing.Heads.{Agree, agree_behind, begins_agree}

-- these bytes stand before the rest and are cut so
pub data Front : Bool → List ℕ → List ℕ → Cut → Type 0 where
  a_blank : (note : Bool) (b : ℕ) (rest : List ℕ) → is_blank b ≡ true → Front note (b ∷ []) rest Blank
  an_end : (note : Bool) (b : ℕ) (rest : List ℕ) → ends_line b ≡ true → is_return_before_feed b rest ≡ false → Front note (b ∷ []) rest (LineEnd 1)
  an_end_of_two : (note : Bool) (rest : List ℕ) → Front note (13 ∷ 10 ∷ []) rest (LineEnd 2)
  a_note : (rest : List ℕ) → Front false (45 ∷ 45 ∷ 124 ∷ []) rest Note
  a_comment : (note : Bool) (text rest : List ℕ) → begins_note note (text ++ rest) ≡ false → list_any ends_line text ≡ false → begins in_line rest ≡ false → Front note (45 ∷ 45 ∷ text) rest (Piece kind.Comment (2 + length text))
  a_token : (note : Bool) (k : TokenKind) (spelling rest : List ℕ) → spells note k spelling ≡ true → begins (goes_on k spelling) rest ≡ false → Front note spelling rest (Piece k (length spelling))

-- its token, and the others
abbrev pub with_cut : Cut → Bool → ℕ → ℕ → List Token → List Token
with_cut (Piece k size) note at line tokens = token_at (note_of note k) k at size line ∷ tokens
with_cut _ note at line tokens = tokens

-- a test of the first byte that fails beside another one, fails where less of the text stands
and_agree : (t : Bool) (test : ℕ → Bool) (rest other : List ℕ) → Agree rest other → (t && begins test rest) ≡ false → (t && begins test other) ≡ false
and_agree true test rest other e h = begins_agree test rest other e h
and_agree false test rest other e h = refl

-- a front stays one before a text that agrees
pub front_agree : (note : Bool) (piece rest other : List ℕ) (cut : Cut) → Agree rest other → Front note piece rest cut → Front note piece other cut
front_agree note piece rest other cut e (a_blank _ b _ is) = a_blank note b other is
front_agree note piece rest other cut e (an_end _ b _ is alone) = an_end note b other is (and_agree (b == 13) (λ c. c == 10) rest other e alone)
front_agree note piece rest other cut e (an_end_of_two _ _) = an_end_of_two note other
front_agree note piece rest other cut e (a_note _) = a_note other
front_agree note piece rest other cut e (a_comment _ text _ no_note one_line stops) = a_comment note text other (and_agree (not note) (λ b. b == 124) (text ++ rest) (text ++ other) (agree_behind text rest other e) no_note) one_line (begins_agree in_line rest other e stops)
front_agree note piece rest other cut e (a_token _ k _ _ is stops) = a_token note k piece other is (begins_agree (goes_on k piece) rest other e stops)
