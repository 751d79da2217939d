-- The exit statuses.
use Rattle.std.specs.Prelude.{◌≡◌, ℕ}
use Rattle.outside.specs.declared.status.Status.{Status}
use Rattle.outside.specs.declared.status.Status.TheVariants.{Done, SomeRefused, Usage, SourceFault, ShelfFailed, SinkFailed, ScriptFault, NoMemory}

abbrev pub code_of : Status → ℕ
code_of Done = 0
code_of SomeRefused = 1
code_of Usage = 2
code_of SourceFault = 3
code_of ShelfFailed = 4
code_of SinkFailed = 5
code_of ScriptFault = 6
code_of NoMemory = 7

-- the code is that of a status of which this holds
abbrev pub Ends : ℕ → (Status → Type 0) → Type 0
Ends code P = (status : Status) × (code ≡ code_of status) × P status
