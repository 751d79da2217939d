-- What is left of tokens behind the first one.
use Rattle.std.proofs.Common.{arith, ℕ, suc, List, ◌≡◌, ◌≤◌, ◌+◌, ◌∷◌, All, length, ap, subst}
use Rattle.std.proofs.lemmas.List.Elements.{All-tail}
use Rattle.lex_ada.specs.declared.token.Token.{Token as SourceToken}
use Rattle.lex_ada.specs.Meanings.{LiesIn}

-- the tokens that are left lie in the source, and are fewer
pub tail_lies : (source : List ℕ) (ts : List SourceToken) (t : SourceToken) (rest : List SourceToken) → ts ≡ t ∷ rest → All (λ t. LiesIn t source) ts → All (λ t. LiesIn t source) rest
tail_lies source ts t rest e h = All-tail (λ t. LiesIn t source) t rest (subst (All (λ t. LiesIn t source)) e h)

pub fewer : (count all : ℕ) (ts : List SourceToken) (t : SourceToken) (rest : List SourceToken) → ts ≡ t ∷ rest → count + length ts ≤ all → count + 1 + length rest ≤ all
fewer count all ts t rest e h = let longer : length ts ≡ suc (length rest) = ap length e in omega (arith, longer, h)
