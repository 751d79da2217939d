-- Reading the tokens and comments of a source, one by one.
use Rattle.std.specs.Prelude.{◌≡◌, ℕ, ◌+◌, List, [], ◌∷◌, Option, Some, None}
use Rattle.ada_tree.specs.Tokens.{Sign, token, comment}
use Rattle.lex_ada.specs.declared.token.Token.{Token as SourceToken}
use Rattle.lex_ada.specs.Lexis.{AreTokens}
use Rattle.lex_ada.specs.Meanings.{meanings}
use Rattle.note_read.specs.declared.reading.Reading.{Reading}
use Rattle.note_read.specs.declared.reading.Reading.TheVariants as reading
use Rattle.note_read.specs.declared.sign.Sign.{Sign as ReadSign}
use Rattle.note_read.specs.declared.sign.Sign.TheVariants as sign
use Rattle.reading_machine.specs.Lexemes.{lexeme_of}
use Rattle.reading_machine.specs.Machines.{commented, ended}
use Rattle.reading_machine.specs.Values.{state_of}
use Rattle.reading_table.specs.Limits.{Outcome, read, stopped, limited}
use Rattle.reading_table.specs.Reading.{deepest}
use Rattle.reading_table.specs.Rows.{Placed}
use Rattle.reading_table.specs.Signs.{tokens_of, end_of}
use Rattle.reading_table.specs.Weighed.{Weighed, Progress, with_token, within_limits, at_beginning, with_next, run_weighed}

-- a sign of the code as the grammar has it
abbrev pub signs_of : Option ReadSign → List Sign
signs_of None = []
signs_of (Some (sign.Token t)) = token t.note (lexeme_of t.lexeme) ∷ []
signs_of (Some (sign.Comment text)) = comment text ∷ []

abbrev pub ended_at : Option Weighed → Outcome
ended_at None = stopped 0
ended_at (Some w) = read w.state

-- how reading ends, from where it stands: comments wait, and tokens are read within the limits, where so many nodes that count are round what is read
abbrev pub read_signs : ℕ → Progress → List Sign → Outcome
read_signs round p [] = ended_at (ended p.stack p.weighed)
read_signs round p (comment text ∷ signs) = read_signs round (commented text p) signs
read_signs round p (token note lexeme ∷ signs) = within_limits round (with_token deepest p record { comments = []; note = note; lexeme = lexeme }) (λ next. read_signs round next signs)

-- the same behind so many tokens
abbrev pub behind : ℕ → Outcome → Outcome
behind count (read state) = read state
behind count (stopped n) = stopped (count + n)
behind count (limited n) = limited (count + n)

abbrev pub outcome_of : Reading → Outcome
outcome_of (reading.Read values) = read (state_of values)
outcome_of (reading.Refused count) = stopped count
outcome_of (reading.Limited count) = limited count

-- How reading ends where nothing was read before, by the machine's definition: each token with the comments before it.
abbrev pub read_by_table : ℕ → List Placed → List Sign → Outcome
read_by_table round ss signs = run_weighed round (end_of signs) (with_next (end_of signs) (tokens_of signs) (at_beginning ss)) (tokens_of signs)

-- how reading the tokens of a text, with their comments, ends
pub record IsReadFrom (round : ℕ) (ss : List Placed) (bytes : List ℕ) (outcome : Outcome) : Type 0 where
  pub tokens : List SourceToken
  pub are_tokens : AreTokens bytes tokens
  pub reads : outcome ≡ read_by_table round ss (meanings bytes tokens)
