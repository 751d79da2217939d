-- Parts of a run that get sources, whatever the run does with them.
use Rattle.std.specs.Prelude.{Result, MatchResult}
use Rattle.outside.specs.declared.status.Status.{Status}
use Rattle.outside.specs.Meaning.{ShelfState, SinkState}
use Rattle.outside.specs.Plan.{Plan, Went, Ran}

-- On Ok it got a value, with which any plan goes on that begins with this part; on Err the run ended in the part.
abbrev pub Gets : {A : Type 0} → ((A → Plan) → Plan) → Result A Status → ShelfState → ShelfState → SinkState → SinkState → Type 0
Gets {A} part result s s' k k' = MatchResult result (λ value. (more : A → Plan) → Went (part more) (more value) s s' k k') (λ status. (more : A → Plan) → Ran (part more) status s s' k k')
