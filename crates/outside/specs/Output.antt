-- The output of a plan over files, and what it is for a run to be that output.
use Rattle.std.specs.Prelude.{◌≡◌, ◌≢◌, ℕ, ◌+◌, ◌-◌, ◌≤◌, List, [], ◌∷◌, ◌++◌, Bool, false, Option, Some, None, IfSome, option_map, ◌==◌, if◌then◌else◌}
use Rattle.outside.specs.declared.status.Status.{Status}
use Rattle.outside.specs.declared.status.Status.TheVariants.{ShelfFailed, SinkFailed, NoMemory}
use Rattle.outside.specs.Meaning.{Files, with_file, ShelfState, SinkState, CalledTimes, Rose, written_more}
use Rattle.outside.specs.Plan.{Plan, finish, say, fetch, store, Event, wrote, got, stored, get_failed, put_failed, missing, wrote_all, bytes_of, calls_of, reply_of, failed_line, absent_line}

-- the next get or put is the one that fails
abbrev pub fails_now : Option ℕ → Bool
fails_now None = false
fails_now (Some n) = n == 1

abbrev pub after_call : Option ℕ → Option ℕ
after_call stop = option_map (λ n. n - 1) stop

-- the output: the events of a plan over files, where the stop-th get or put fails
abbrev pub output_of : Plan → Files → Option ℕ → List Event
output_of (finish status) files stop = []
output_of (say b next) files stop = wrote b ∷ output_of next files stop
output_of (fetch name limit next) files stop =
    if fails_now stop then get_failed name ∷ wrote_all (failed_line name)
    else got name limit (reply_of (files name) limit) ∷ output_of (next (reply_of (files name) limit)) files (after_call stop)
output_of (store name bytes next) files stop =
    if fails_now stop then put_failed name ∷ wrote_all (failed_line name)
    else stored name bytes ∷ output_of next (with_file name bytes files) (after_call stop)

-- and its status
abbrev pub status_of : Plan → Files → Option ℕ → Status
status_of (finish status) files stop = status
status_of (say b next) files stop = status_of next files stop
status_of (fetch name limit next) files stop = if fails_now stop then ShelfFailed else status_of (next (reply_of (files name) limit)) files (after_call stop)
status_of (store name bytes next) files stop = if fails_now stop then ShelfFailed else status_of next (with_file name bytes files) (after_call stop)

-- What a run wrote, got, put and answered is the output of its plan over these files, or a front of it where the sink failed or memory was wanted.
pub record IsOutput (plan : Plan) (files : Files) (status : Status) (s s' : ShelfState) (k k' : SinkState) : Type 0 where
  -- the get or put that failed, counted from 1
  pub stop : Option ℕ
  -- what was done of the output, and what was not
  pub front : List Event
  pub rest : List Event
  -- 1 where the run ended in a get or put that found no memory
  pub starved : ℕ
  pub split : output_of plan files stop ≡ front ++ rest
  pub whole : status ≢ SinkFailed → status ≢ NoMemory → (rest ≡ []) × (status ≡ status_of plan files stop) × (starved ≡ 0)
  pub cut : status ≡ SinkFailed → (byte : ℕ) × (others : List Event) × (rest ≡ wrote byte ∷ others) × (starved ≡ 0)
  pub starved_within : calls_of front + starved ≤ calls_of (output_of plan files stop)
  pub written : k'.written ≡ written_more k.written (bytes_of front)
  pub called : CalledTimes (calls_of front + starved) s s'
  pub stopped : IfSome stop (λ n. (n ≡ calls_of front + starved) × Rose s.faults s'.faults)

-- All of the output was written, got and put, and the status is its status, as of a run at which no call failed.
pub record IsWhole (plan : Plan) (files : Files) (status : Status) (s s' : ShelfState) (k k' : SinkState) : Type 0 where
  pub status_is : status ≡ status_of plan files None
  pub written : k'.written ≡ written_more k.written (bytes_of (output_of plan files None))
  pub called : CalledTimes (calls_of (output_of plan files None)) s s'

-- the line for a get or put that failed or found no file
abbrev pub line_for : Event → Option (List ℕ)
line_for (wrote b) = None
line_for (got name limit missing) = Some (absent_line name)
line_for (got name limit reply) = None
line_for (stored name bytes) = None
line_for (get_failed name) = Some (failed_line name)
line_for (put_failed name) = Some (failed_line name)

-- The last get or put failed or found no file, and nothing but its line stands after it.
pub record EndsAtCall (events : List Event) : Type 0 where
  pub before : List Event
  pub call : Event
  pub line : List ℕ
  pub line_is : line_for call ≡ Some line
  pub split : events ≡ before ++ call ∷ wrote_all line

-- a first part
abbrev pub IsPrefix : List ℕ → List ℕ → Type 0
IsPrefix part bytes = (rest : List ℕ) × (bytes ≡ part ++ rest)
