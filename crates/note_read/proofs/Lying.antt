-- The tokens of a source lie in it.
use Rattle.std.proofs.Common.{arith, ℕ, ◌≤◌, List, [], ◌∷◌, false, subst, length, All}
use Rattle.std.proofs.lemmas.List.Elements.{All-nil, All-cons}
use Rattle.lex_ada.proofs.lexing.Spans.{spans_in_order}
use Rattle.lex_ada.specs.declared.token.Token.{Token}
use Rattle.lex_ada.specs.Lexis.{AreTokens, InOrder}
use Rattle.lex_ada.specs.Meanings.{LiesIn}

in_order_le : (from to : ℕ) (tokens : List Token) → InOrder from to tokens → from ≤ to
in_order_le from to [] h = h
in_order_le from to (t ∷ tokens) h = let below = in_order_le t.end to tokens h.2 in omega (arith, h.0, h.1, below)

in_order_lie : (source : List ℕ) (from : ℕ) (tokens : List Token) → InOrder from (length source) tokens → All (λ t. LiesIn t source) tokens
in_order_lie source from [] h = All-nil (λ t. LiesIn t source)
in_order_lie source from (t ∷ tokens) h =
    All-cons (λ t. LiesIn t source) t tokens (omega (arith, h.1), in_order_le t.end (length source) tokens h.2) (in_order_lie source t.end tokens h.2)

pub tokens_lie : (source : List ℕ) (tokens : List Token) → AreTokens source tokens → All (λ t. LiesIn t source) tokens
tokens_lie source tokens fall = in_order_lie source 0 tokens (subst (λ (to : ℕ). InOrder 0 to tokens) (omega arith) (spans_in_order false 0 1 source tokens fall))
