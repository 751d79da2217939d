-- What the program promises of each of its runs.
use Rattle.std.specs.Prelude.{◌≡◌, ◌⊎◌, ℕ, List, ◌++◌, Option, Some, IfSome, IsNone, IsSomeAnd}
use Rattle.outside.specs.declared.status.Status.{Status}
use Rattle.outside.specs.declared.status.Status.TheVariants.{Done, Usage, SourceFault, ShelfFailed, SinkFailed, NoMemory}
use Rattle.outside.specs.Meaning.{Files, ShelfState, SinkState, Rose, IsProperPrefix}
use Rattle.outside.specs.Statuses.{code_of, Ends}
use Rattle.outside.specs.Plan.{Event, Ran, bytes_of, calls_of, too_long_line}
use Rattle.outside.specs.Output.{output_of, IsOutput, IsWhole, IsPrefix, EndsAtCall}
use Rattle.penelope_cli.specs.Causes.{CalledFor}
use Rattle.penelope_cli.specs.Commands.{Command, command_of}
use Rattle.penelope_cli.specs.Plans.{plan_of}
use Rattle.penelope_cli.specs.Sources.{AreFaulty, AreSound}

-- ---- a run

-- the words after the program's name, the exit status, and the shelf and the sink before and after
pub record Run : Type 0 where
  pub words : List (List ℕ)
  pub code : ℕ
  pub shelf : ShelfState
  pub shelf_after : ShelfState
  pub sink : SinkState
  pub sink_after : SinkState

abbrev pub EndsAs : Run → Status → Type 0
EndsAs run status = run.code ≡ code_of status

abbrev pub ShelfFault : Run → Type 0
ShelfFault run = Rose run.shelf.faults run.shelf_after.faults

abbrev pub ShelfAbsence : Run → Type 0
ShelfAbsence run = Rose run.shelf.absences run.shelf_after.absences

abbrev pub ShelfExcess : Run → Type 0
ShelfExcess run = Rose run.shelf.excesses run.shelf_after.excesses

abbrev pub SinkFault : Run → Type 0
SinkFault run = Rose run.sink.faults run.sink_after.faults

-- neither the shelf nor the sink failed, and memory sufficed
pub record IsUndisturbed (run : Run) : Type 0 where
  pub shelf : ¬ ShelfFault run
  pub sink : ¬ SinkFault run
  pub memory : ¬ EndsAs run NoMemory

-- a fact of the files, where the shelf tells them
abbrev pub OfFiles : Run → (Files → Type 0) → Type 0
OfFiles run fact = IfSome run.shelf.holds fact

-- the words are a command of which this holds
abbrev pub Asks : Run → (Command → Type 0) → Type 0
Asks run fact = IsSomeAnd (command_of run.words) fact

-- ---- what it did, by the plan for its words

abbrev pub RanAs : Run → Status → Type 0
RanAs run status = Ran (plan_of run.words) status run.shelf run.shelf_after run.sink run.sink_after

abbrev pub HasOutput : Run → Files → Status → Type 0
HasOutput run files status = IsOutput (plan_of run.words) files status run.shelf run.shelf_after run.sink run.sink_after

abbrev pub HasWholeOutput : Run → Files → Status → Type 0
HasWholeOutput run files status = IsWhole (plan_of run.words) files status run.shelf run.shelf_after run.sink run.sink_after

-- the plan's output over these files, where this get or put fails
abbrev pub planned : Run → Files → Option ℕ → List Event
planned run files stop = output_of (plan_of run.words) files stop

-- such an output, of which this holds: the first argument is what was done of it, and the second all of it
abbrev pub HasOutputWith : (List Event → List Event → Type 0) → Run → Files → Status → Type 0
HasOutputWith fact run files status = (output : HasOutput run files status) × fact output.front (planned run files output.stop)

-- ---- the promises

pub record Keeps (run : Run) : Type 0 where
  -- What it did is a run by the plan for the words.
  pub run_by_plan : Ends run.code (RanAs run)
  -- Over files that the shelf tells, that is the plan's output, or a front of it at 5 and 7.
  pub output : OfFiles run (λ files. Ends run.code (HasOutput run files))
  -- Undisturbed, it is the whole output, and sound sources are reported.
  pub whole : OfFiles run (λ files. IsUndisturbed run → Ends run.code (HasWholeOutput run files))
  pub done : OfFiles run (λ files. Asks run (AreSound files) → IsUndisturbed run → EndsAs run Done)
  -- 2 exactly where the words are no command, 5 and 7 apart
  pub usage : IsNone (command_of run.words) → ¬ EndsAs run SinkFailed → ¬ EndsAs run NoMemory → EndsAs run Usage
  pub usage_only : EndsAs run Usage → IsNone (command_of run.words)
  -- 3 exactly where one of the sources is too long, or they are no document that the command takes, 4, 5 and 7 apart
  pub fault : OfFiles run (λ files. Asks run (AreFaulty files) → ¬ EndsAs run ShelfFailed → ¬ EndsAs run SinkFailed → ¬ EndsAs run NoMemory → EndsAs run SourceFault)
  pub fault_only : OfFiles run (λ files. EndsAs run SourceFault → Asks run (AreFaulty files))
  -- The line that a file is too long is written only where the shelf found one.
  pub too_long : (name : List ℕ) → IfSome run.sink.written (λ before. run.sink_after.written ≡ Some (before ++ too_long_line name) → ShelfExcess run)
  -- 4: the shelf failed or found no file, at the last get or put, which the last line names.
  pub shelf : EndsAs run ShelfFailed → ShelfFault run ⊎ ShelfAbsence run
  pub shelf_last : OfFiles run (λ files. EndsAs run ShelfFailed → HasOutputWith (λ front all. EndsAtCall all) run files ShelfFailed)
  -- 5: the sink failed, and a proper prefix of the output was written.
  pub sink : EndsAs run SinkFailed → SinkFault run
  pub sink_part : OfFiles run (λ files. EndsAs run SinkFailed → HasOutputWith (λ front all. IsProperPrefix (bytes_of front) (bytes_of all)) run files SinkFailed)
  -- 7: memory was wanted, and a prefix of the output was written.
  pub memory_part : OfFiles run (λ files. EndsAs run NoMemory → HasOutputWith (λ front all. IsPrefix (bytes_of front) (bytes_of all)) run files NoMemory)
  -- The shelf was called as often as the output has gets and puts, or at most so often at 5 and 7.
  pub calls : OfFiles run (λ files. Ends run.code (λ status. HasOutputWith (λ front all. CalledFor status (calls_of all) run.shelf run.shelf_after) run files status))
