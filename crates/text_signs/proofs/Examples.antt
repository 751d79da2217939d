-- A fragment, worked out: `by` is a name where the fragment is cut, and a word as an annotation token.
use Rattle.std.proofs.Common.{◌≡◌, ℕ, List, [], ◌∷◌, true, false, refl}
use Rattle.std.specs.Prelude.{codes}
use Rattle.ada_tree.specs.declared.word.Word.TheVariants as word
use Rattle.ada_tree.specs.Tokens.{a_name, a_word, token, comment}
use Rattle.lex_ada.specs.declared.token.Token.{Token}
use Rattle.lex_ada.specs.declared.token.TokenKind.TheVariants as kind
use Rattle.lex_ada.specs.Lexis.{token_at, AreTokens}
use Rattle.lex_ada.specs.Meanings.{meanings}
use Rattle.lex_ada.proofs.lexing.Scanning.{scanned_lexed}
use Rattle.text_signs.specs.Fragments.{noted_tokens}

abbrev fragment : List ℕ
fragment = codes "By x1 -- c "

abbrev cut_tokens : List Token
cut_tokens = token_at false kind.Name 0 2 1 ∷ token_at false kind.Name 3 2 1 ∷ token_at false kind.Comment 6 5 1 ∷ []

-- it is cut so
is_cut : AreTokens fragment cut_tokens
is_cut = scanned_lexed false 0 1 fragment cut_tokens refl

-- as Ada text
as_text : meanings fragment cut_tokens ≡ token false (a_name (codes "BY")) ∷ token false (a_name (codes "X1")) ∷ comment (codes "-- c") ∷ []
as_text = refl

-- as annotation tokens
as_annotation : meanings fragment (noted_tokens fragment cut_tokens) ≡ token true (a_word word.By) ∷ token true (a_name (codes "X1")) ∷ comment (codes "-- c") ∷ []
as_annotation = refl
