-- What a scan finds, as a result.
use Rattle.std.specs.Prelude.{List, Result, Ok, Err}
use Rattle.lex_ada.specs.declared.token.Token.{Token}
use Rattle.lex_ada.specs.declared.scan.Refusal.{Refusal}
use Rattle.lex_ada.specs.declared.scan.Scanned.{Scanned}
use Rattle.lex_ada.specs.declared.scan.Scanned.TheVariants.{Tokens, Refused}

abbrev pub outcome_of : Scanned → Result (List Token) Refusal
outcome_of (Tokens tokens) = Ok tokens
outcome_of (Refused refusal) = Err refusal
