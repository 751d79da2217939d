-- The tokens of a source, and those from a place on.
use Rattle.std.proofs.Common.{◌≡◌, ℕ, List, ◌++◌, take, drop, sym, ◌∙◌, ap, subst, true, ◌&&◌, ◌⊎◌, inl, inr, All}
use Rattle.std.proofs.lemmas.Bool.{and_parts}
use Rattle.std.proofs.lemmas.List.{take-append-drop}
use Rattle.std.proofs.lemmas.List.Concat.{flat_map-append}
use Rattle.std.proofs.lemmas.List.Folds.{list_all-append}
use Rattle.lex_ada.specs.declared.token.Token.{Token}
use Rattle.lex_ada.specs.Meanings.{LiesIn, meanings}
use Rattle.note_read.specs.Fronts.{meaning_in}
use Rattle.note_read.proofs.Lying.{tokens_lie}
use Rattle.reading_exact.specs.Whole.{is_sign, are_signs}
use Rattle.text_signs.specs.Fragments.{noted_tokens}
use Rattle.text_signs.proofs.Law.{tokens_fit, noted_tokens_fit}
use Rattle.text_read.specs.Fronts.{AreTokensOf}
use Rattle.text_read.proofs.Texts.{noted_tokens_lie}

pub they_lie : (source : List ℕ) (tokens : List Token) → AreTokensOf source tokens → All (λ t. LiesIn t source) tokens
they_lie source tokens a = by a.same
  where
    by : (tokens ≡ a.own) ⊎ (tokens ≡ noted_tokens source a.own) → All (λ t. LiesIn t source) tokens
    by (inl e) = subst (All (λ t. LiesIn t source)) (sym e) (tokens_lie source a.own a.are_tokens)
    by (inr e) = subst (All (λ t. LiesIn t source)) (sym e) (noted_tokens_lie source a.own a.are_tokens)

they_fit : (source : List ℕ) (tokens : List Token) → AreTokensOf source tokens → are_signs (meanings source tokens) ≡ true
they_fit source tokens a = by a.same
  where
    by : (tokens ≡ a.own) ⊎ (tokens ≡ noted_tokens source a.own) → are_signs (meanings source tokens) ≡ true
    by (inl e) = ap (λ ts. are_signs (meanings source ts)) e ∙ tokens_fit source a.own a.are_tokens
    by (inr e) = ap (λ ts. are_signs (meanings source ts)) e ∙ noted_tokens_fit source a.own a.are_tokens

-- ---- a front of them and the rest

pub meant_apart : (source : List ℕ) (tokens : List Token) (n : ℕ) → meanings source (take n tokens) ++ meanings source (drop n tokens) ≡ meanings source tokens
meant_apart source tokens n = sym (flat_map-append (meaning_in source) (take n tokens) (drop n tokens)) ∙ ap (meanings source) (take-append-drop n tokens)

both_fit : (source : List ℕ) (tokens : List Token) (n : ℕ) → are_signs (meanings source tokens) ≡ true → (are_signs (meanings source (take n tokens)) && are_signs (meanings source (drop n tokens))) ≡ true
both_fit source tokens n h = sym (list_all-append is_sign (meanings source (take n tokens)) (meanings source (drop n tokens))) ∙ ap are_signs (meant_apart source tokens n) ∙ h

pub front_fits : (source : List ℕ) (tokens : List Token) (n : ℕ) → are_signs (meanings source tokens) ≡ true → are_signs (meanings source (take n tokens)) ≡ true
front_fits source tokens n h = (and_parts (are_signs (meanings source (take n tokens))) (are_signs (meanings source (drop n tokens))) (both_fit source tokens n h)).0

pub rest_fits : (source : List ℕ) (tokens : List Token) (from : ℕ) → AreTokensOf source tokens → are_signs (meanings source (drop from tokens)) ≡ true
rest_fits source tokens from a = (and_parts (are_signs (meanings source (take from tokens))) (are_signs (meanings source (drop from tokens))) (both_fit source tokens from (they_fit source tokens a))).1
