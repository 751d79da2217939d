use Rattle.std.proofs.Common.{◌≡◌, drop}
use Rattle.lex_ada.specs.Meanings.{meanings}
use Rattle.text_read.specs.FirstWords.{first_word}
use Rattle.text_read.proofs.front.first_word.Given as goal

-- the tokens that are left begin with the same word
abbrev pub invariant-loop-token : goal.invariant-loop-token
invariant-loop-token l = first_word (meanings l.source (drop l.token-index l.tokens)) ≡ first_word (meanings l.source l.tokens)
