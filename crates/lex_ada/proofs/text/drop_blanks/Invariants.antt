use Rattle.std.proofs.Common.{◌≡◌, reverse, length}
use Rattle.lex_ada.specs.Meanings.{without_blanks}
use Rattle.lex_ada.proofs.text.drop_blanks.Given as goal

abbrev pub invariant-loop-last : goal.invariant-loop-last
invariant-loop-last l = reverse (without_blanks (reverse l.text.items)) ≡ reverse (without_blanks (reverse l.initial.text.items))

abbrev pub decreases-loop-last : goal.decreases-loop-last
decreases-loop-last l = length l.text.items
