use Rattle.std.proofs.Common.{ℕ, ◌+◌, false, [], ◌∷◌, ◌++◌, subst, arith}
use Rattle.lex_ada.specs.Lexis.{Lexed}
use Rattle.lex_ada.specs.Faults.{line_ends}
use Rattle.lex_ada.proofs.lexing.Spans.{lexed-append}
use Rattle.lex_ada.proofs.laws.lines_join.Goals as goal

pub returns : goal.returns
returns c front rest b before after ends alone first second =
    lexed-append false 0 1 front b rest before after ends alone first (subst (λ (at : ℕ). Lexed false at (1 + line_ends (front ++ b ∷ [])) rest after) (omega arith) second)
