-- What a program is to do with a shelf and a sink, and what a run of it did.
use Rattle.std.specs.Prelude.{◌≡◌, ◌≢◌, ◌⊎◌, ℕ, ◌+◌, ◌≤◌, List, [], ◌∷◌, ◌++◌, Bool, true, false, Option, Some, None, IfSome, IsSomeAnd, Result, MatchResult, nat_lt, length, if◌then◌else◌, codes}
use Rattle.outside.specs.declared.status.Status.{Status}
use Rattle.outside.specs.declared.status.Status.TheVariants.{ShelfFailed, SinkFailed, NoMemory}
use Rattle.outside.specs.Meaning.{Files, with_file, ShelfState, SinkState, NoneFell, CalledTimes, Rose, OthersStay, written_more}

-- what a get that doesn't fail answers: the bytes, that there are none, that they are too many
pub data Reply : Type 0 where
  held : List ℕ → Reply
  missing : Reply
  too_long : Reply

-- what a program is still to do: answer a status, write a byte, get a file of at most so many bytes, or put one
pub data Plan : Type 0 where
  finish : Status → Plan
  say : ℕ → Plan → Plan
  fetch : List ℕ → ℕ → (Reply → Plan) → Plan
  store : List ℕ → List ℕ → Plan → Plan

-- writes these bytes first
abbrev pub say_all : List ℕ → Plan → Plan
say_all [] plan = plan
say_all (b ∷ bytes) plan = say b (say_all bytes plan)

-- a line that names a file
abbrev pub line_of : List ℕ → List ℕ → List ℕ
line_of word name = word ++ name ++ 10 ∷ []

abbrev pub failed_line : List ℕ → List ℕ
failed_line name = line_of (codes "failed ") name

abbrev pub absent_line : List ℕ → List ℕ
absent_line name = line_of (codes "absent ") name

abbrev pub too_long_line : List ℕ → List ℕ
too_long_line name = line_of (codes "too long ") name

-- where the shelf fails at a name, the run ends with this line
abbrev pub failed_at : List ℕ → Plan
failed_at name = say_all (failed_line name) (finish ShelfFailed)

-- what a run did: wrote a byte, got a reply, put a file, or made a get or a put at which the shelf failed
pub data Event : Type 0 where
  wrote : ℕ → Event
  got : List ℕ → ℕ → Reply → Event
  stored : List ℕ → List ℕ → Event
  get_failed : List ℕ → Event
  put_failed : List ℕ → Event

abbrev pub wrote_all : List ℕ → List Event
wrote_all [] = []
wrote_all (b ∷ bytes) = wrote b ∷ wrote_all bytes

-- a get, or a put, comes next
abbrev pub IsCall : Plan → Type 0
IsCall (finish status) = ⊥
IsCall (say b next) = ⊥
IsCall (fetch name limit next) = Unit {0}
IsCall (store name bytes next) = Unit {0}

-- a byte comes next
abbrev pub IsSay : Plan → Type 0
IsSay (finish status) = ⊥
IsSay (say b next) = Unit {0}
IsSay (fetch name limit next) = ⊥
IsSay (store name bytes next) = ⊥

-- these events lead from one plan to another
abbrev pub Leads : List Event → Plan → Plan → Type 0
Leads [] from to = from ≡ to
Leads (wrote b ∷ events) from to = (next : Plan) × (from ≡ say b next) × Leads events next to
Leads (got name limit reply ∷ events) from to = (next : Reply → Plan) × (from ≡ fetch name limit next) × Leads events (next reply) to
Leads (stored name bytes ∷ events) from to = (next : Plan) × (from ≡ store name bytes next) × Leads events next to
Leads (get_failed name ∷ events) from to = (limit : ℕ) × (next : Reply → Plan) × (from ≡ fetch name limit next) × Leads events (failed_at name) to
Leads (put_failed name ∷ events) from to = (bytes : List ℕ) × (next : Plan) × (from ≡ store name bytes next) × Leads events (failed_at name) to

-- the bytes that were written
abbrev pub bytes_of : List Event → List ℕ
bytes_of [] = []
bytes_of (wrote b ∷ events) = b ∷ bytes_of events
bytes_of (got name limit reply ∷ events) = bytes_of events
bytes_of (stored name bytes ∷ events) = bytes_of events
bytes_of (get_failed name ∷ events) = bytes_of events
bytes_of (put_failed name ∷ events) = bytes_of events

-- how many gets and puts were made
abbrev pub calls_of : List Event → ℕ
calls_of [] = 0
calls_of (wrote b ∷ events) = calls_of events
calls_of (got name limit reply ∷ events) = calls_of events + 1
calls_of (stored name bytes ∷ events) = calls_of events + 1
calls_of (get_failed name ∷ events) = calls_of events + 1
calls_of (put_failed name ∷ events) = calls_of events + 1

-- a get or put failed
abbrev pub has_failure : List Event → Bool
has_failure [] = false
has_failure (wrote b ∷ events) = has_failure events
has_failure (got name limit reply ∷ events) = has_failure events
has_failure (stored name bytes ∷ events) = has_failure events
has_failure (get_failed name ∷ events) = true
has_failure (put_failed name ∷ events) = true

abbrev pub is_missing : Reply → Bool
is_missing (held bytes) = false
is_missing missing = true
is_missing too_long = false

abbrev pub is_too_long : Reply → Bool
is_too_long (held bytes) = false
is_too_long missing = false
is_too_long too_long = true

-- a get had such a reply
abbrev pub has_reply : (Reply → Bool) → List Event → Bool
has_reply test [] = false
has_reply test (wrote b ∷ events) = has_reply test events
has_reply test (got name limit reply ∷ events) = if test reply then true else has_reply test events
has_reply test (stored name bytes ∷ events) = has_reply test events
has_reply test (get_failed name ∷ events) = has_reply test events
has_reply test (put_failed name ∷ events) = has_reply test events

-- what a get finds where the shelf doesn't fail
abbrev pub reply_of : Option (List ℕ) → ℕ → Reply
reply_of None limit = missing
reply_of (Some bytes) limit = if nat_lt limit (length bytes) then too_long else held bytes

-- the replies are those of the files, which end as these
abbrev pub Agrees : List Event → Files → Files → Type 0
Agrees [] files end = end ≡ files
Agrees (wrote b ∷ events) files end = Agrees events files end
Agrees (got name limit reply ∷ events) files end = (reply ≡ reply_of (files name) limit) × Agrees events files end
Agrees (stored name bytes ∷ events) files end = Agrees events (with_file name bytes files) end
Agrees (get_failed name ∷ events) files end = Agrees events files end
Agrees (put_failed name ∷ events) files end = (after : Files) × OthersStay name files after × Agrees events after end

-- These events happened to a shelf and a sink, and beside them so many calls of the shelf that found no memory.
pub record Happened (events : List Event) (starved : ℕ) (s s' : ShelfState) (k k' : SinkState) : Type 0 where
  pub written : k'.written ≡ written_more k.written (bytes_of events)
  pub called : CalledTimes (calls_of events + starved) s s'
  pub agrees : IfSome s.holds (λ files. IsSomeAnd s'.holds (Agrees events files))
  pub counts : NoneFell s s'
  pub sink_counts : k.faults ≤ k'.faults
  pub failures : has_failure events ≡ true → Rose s.faults s'.faults
  pub absences : has_reply is_missing events ≡ true → Rose s.absences s'.absences
  pub excesses : has_reply is_too_long events ≡ true → Rose s.excesses s'.excesses

-- A run went from one plan to another.
pub record Went (from to : Plan) (s s' : ShelfState) (k k' : SinkState) : Type 0 where
  pub events : List Event
  pub leads : Leads events from to
  pub happened : Happened events 0 s s' k k'

-- How a run ends: where a byte came next and the sink failed, for want of memory, and else where the plan is done.
pub record Stops (status : Status) (starved : ℕ) (left : Plan) (k k' : SinkState) : Type 0 where
  pub done : status ≢ SinkFailed → status ≢ NoMemory → left ≡ finish status
  pub cut : status ≡ SinkFailed → IsSay left
  pub cause : status ≡ SinkFailed → Rose k.faults k'.faults
  pub tried : (starved ≡ 0) ⊎ ((starved ≡ 1) × (status ≡ NoMemory) × IsCall left)

-- A run by this plan, which ended so.
pub record Ran (plan : Plan) (status : Status) (s s' : ShelfState) (k k' : SinkState) : Type 0 where
  pub events : List Event
  pub left : Plan
  pub starved : ℕ
  pub leads : Leads events plan left
  pub happened : Happened events starved s s' k k'
  pub stops : Stops status starved left k k'

-- A part of a run: on Ok it did this part of a plan, whatever comes after it, and on Err the run ended in it.
abbrev pub Goes : {T : Type 0} → (Plan → Plan) → Result T Status → ShelfState → ShelfState → SinkState → SinkState → Type 0
Goes part result s s' k k' = MatchResult result (λ _. (after : Plan) → Went (part after) after s s' k k') (λ status. (after : Plan) → Ran (part after) status s s' k k')
