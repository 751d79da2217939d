-- The exit statuses tell how a run ended.
use Rattle.std.proofs.Common.{◌≡◌, ℕ, [], ◌∷◌, get_or, refl, sym, ◌∙◌, ap}
use Rattle.outside.specs.declared.status.Status.{Status}
use Rattle.outside.specs.declared.status.Status.TheVariants.{Done, SomeRefused, Usage, SourceFault, ShelfFailed, SinkFailed, ScriptFault, NoMemory}
use Rattle.outside.specs.Statuses.{code_of}

-- the status of a code
abbrev status_at : ℕ → Status
status_at code = get_or (Done ∷ SomeRefused ∷ Usage ∷ SourceFault ∷ ShelfFailed ∷ SinkFailed ∷ ScriptFault ∷ NoMemory ∷ []) code Done

status_at-code_of : (status : Status) → status_at (code_of status) ≡ status
status_at-code_of Done = refl
status_at-code_of SomeRefused = refl
status_at-code_of Usage = refl
status_at-code_of SourceFault = refl
status_at-code_of ShelfFailed = refl
status_at-code_of SinkFailed = refl
status_at-code_of ScriptFault = refl
status_at-code_of NoMemory = refl

pub same_status : (a b : Status) → code_of a ≡ code_of b → a ≡ b
same_status a b e = sym (status_at-code_of a) ∙ ap status_at e ∙ status_at-code_of b
