-- The first words of texts, and of their fronts.
use Rattle.std.proofs.Common.{◌≡◌, ℕ, zero, suc, List, [], ◌∷◌, ◌++◌, take, refl, ◌∙◌, ap, Bool, true, false, ◌||◌, ◌⊎◌, inl, inr, Some}
use Rattle.std.specs.Prelude.{slice_get}
use Rattle.ada_tree.specs.Tokens.{Lexeme, Sign, token, comment}
use Rattle.lex_ada.specs.declared.token.Token.{Token}
use Rattle.lex_ada.specs.Meanings.{meanings}
use Rattle.note_read.specs.Fronts.{meaning_in, is_token, EndsInToken}
use Rattle.reading_table.specs.Signs.{tokens_from}
use Rattle.text_read.specs.FirstWords.{first_word}

abbrev pub has_token : List Sign → Bool
has_token [] = false
has_token (comment text ∷ signs) = has_token signs
has_token (token note lexeme ∷ signs) = true

-- what follows the first token doesn't count
pub first_before : (front a b : List Sign) (note : Bool) (lexeme : Lexeme) → first_word (front ++ token note lexeme ∷ a) ≡ first_word (front ++ token note lexeme ∷ b)
first_before [] a b note lexeme = refl
first_before (comment text ∷ front) a b note lexeme = first_before front a b note lexeme
first_before (token n l ∷ front) a b note lexeme = refl

pub first_kept : (front more : List Sign) → has_token front ≡ true → first_word (front ++ more) ≡ first_word front
first_kept [] more h = absurd cc
first_kept (comment text ∷ front) more h = first_kept front more h
first_kept (token note lexeme ∷ front) more h = refl

-- ---- fronts without tokens

pub none_or_some : (waiting : List (List ℕ)) (signs : List Sign) → (tokens_from waiting signs ≡ []) ⊎ (has_token signs ≡ true)
none_or_some waiting [] = inl refl
none_or_some waiting (comment text ∷ signs) = none_or_some (waiting ++ text ∷ []) signs
none_or_some waiting (token note lexeme ∷ signs) = inr refl

pub not_both : (waiting : List (List ℕ)) (signs : List Sign) → tokens_from waiting signs ≡ [] → has_token signs ≡ true → ⊥
not_both waiting [] e h = absurd cc
not_both waiting (comment text ∷ signs) e h = not_both (waiting ++ text ∷ []) signs e h
not_both waiting (token note lexeme ∷ signs) e h = absurd cc

-- ---- fronts that end in a token

has_either : (a b : List Sign) → has_token (a ++ b) ≡ (has_token a || has_token b)
has_either [] b = refl
has_either (comment text ∷ a) b = has_either a b
has_either (token note lexeme ∷ a) b = refl

has_it : (signs : List Sign) → is_token signs ≡ true → has_token signs ≡ true
has_it [] h = absurd cc
has_it (comment text ∷ signs) h = absurd cc
has_it (token note lexeme ∷ signs) h = refl

or_true : (a : Bool) → (a || true) ≡ true
or_true true = refl
or_true false = refl

has_token_at : (source : List ℕ) (tokens : List Token) (last : ℕ) (t : Token) → slice_get tokens last ≡ Some t → is_token (meaning_in source t) ≡ true → has_token (meanings source (take (suc last) tokens)) ≡ true
has_token_at source [] last t h s = absurd cc
has_token_at source (u ∷ tokens) zero t h s =
    let same : u ≡ t = cc in
    has_either (meaning_in source u) (meanings source (take 0 tokens)) ∙ ap (λ b. b || has_token (meanings source (take 0 tokens))) (has_it (meaning_in source u) (ap (λ t. is_token (meaning_in source t)) same ∙ s))
has_token_at source (u ∷ tokens) (suc last) t h s =
    has_either (meaning_in source u) (meanings source (take (suc last) tokens)) ∙ ap (λ b. has_token (meaning_in source u) || b) (has_token_at source tokens last t h s) ∙ or_true (has_token (meaning_in source u))

pub front_has_token : (source : List ℕ) (tokens : List Token) (n : ℕ) → EndsInToken source tokens n → has_token (meanings source (take n tokens)) ≡ true
front_has_token source tokens n e = ap (λ n. has_token (meanings source (take n tokens))) e.number ∙ has_token_at source tokens e.last e.token e.token_is e.stands
