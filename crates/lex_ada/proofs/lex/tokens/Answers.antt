use Rattle.std.proofs.Common.{refl, false, sym, ◌∙◌, ap, subst}
use Rattle.std.specs.Prelude.{Ok, Err}
use Rattle.lex_ada.specs.Scans.{outcome_of}
use Rattle.lex_ada.specs.Faults.{fault_in, IsFault}
use Rattle.lex_ada.proofs.lexing.Refusals.{refused_fault}
use Rattle.lex_ada.proofs.lexing.Scanning.{scanned_lexed}
use Rattle.lex_ada.proofs.lexing.Unique.{tokens_once, fault_once, no_fault_with_tokens}
use Rattle.lex_ada.proofs.lex.tokens.Goals as goal

pub returns-in-Tokens-clause-answer : goal.returns-in-Tokens-clause-answer
returns-in-Tokens-clause-answer c = scanned_lexed false 0 1 c.args.bytes.now c.in-Tokens.tokens (sym c.in_ok-tokens.ensures ∙ ap outcome_of c.in-Tokens.is)

pub returns-in-Tokens-clause-only : goal.returns-in-Tokens-clause-only
returns-in-Tokens-clause-only c tokens fall = ap Ok (tokens_once c.args.bytes.now tokens c.in-Tokens.tokens fall (returns-in-Tokens-clause-answer c))

pub returns-in-Tokens-clause-only_fault : goal.returns-in-Tokens-clause-only_fault
returns-in-Tokens-clause-only_fault c code line fault = absurd (no_fault_with_tokens c.args.bytes.now c.in-Tokens.tokens code line (returns-in-Tokens-clause-answer c) fault)

is_fault : (c : goal.After-code_at) → IsFault c.args.bytes.now c.code_at.result c.in-Refused.refusal.line
is_fault c = subst (λ code. IsFault c.args.bytes.now code c.in-Refused.refusal.line) (sym (c.code_at.ensures)) (refused_fault c.args.bytes.now c.in-Refused.refusal (sym c.in_ok-tokens.ensures ∙ ap outcome_of c.in-Refused.is))

pub returns-in-Refused-clause-answer : goal.returns-in-Refused-clause-answer
returns-in-Refused-clause-answer c = (c.code_at.result, c.in-Refused.refusal.line, refl, is_fault c)

pub returns-in-Refused-clause-only : goal.returns-in-Refused-clause-only
returns-in-Refused-clause-only c tokens fall = absurd (no_fault_with_tokens c.args.bytes.now tokens c.code_at.result c.in-Refused.refusal.line fall (is_fault c))

pub returns-in-Refused-clause-only_fault : goal.returns-in-Refused-clause-only_fault
returns-in-Refused-clause-only_fault c code line fault =
    let same = fault_once c.args.bytes.now code c.code_at.result line c.in-Refused.refusal.line fault (is_fault c) in
    ap (λ code. Err (fault_in code line)) same.0 ∙ ap (λ line. Err (fault_in c.code_at.result line)) same.1
