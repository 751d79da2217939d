use Rattle.std.proofs.Common.{ℕ, false, subst, arith}
use Rattle.lex_ada.specs.Lexis.{InOrder}
use Rattle.lex_ada.proofs.lexing.Spans.{spans_in_order}
use Rattle.lex_ada.proofs.laws.tokens_stand_in_order.Goals as goal

pub returns : goal.returns
returns c bytes tokens fall = subst (λ (to : ℕ). InOrder 0 to tokens) (omega arith) (spans_in_order false 0 1 bytes tokens fall)
