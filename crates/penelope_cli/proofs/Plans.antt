-- What the plan for the words can come to.
use Rattle.std.proofs.Common.{◌≡◌, ◌≢◌, ◌<◌, ◌≤◌, ℕ, List, [], ◌∷◌, ◌++◌, length, Bool, true, false, cond, refl, sym, ◌∙◌, ap, subst, arith, ◌⊎◌, inl, inr}
use Rattle.std.proofs.lemmas.Bool.{lt-ltb, ltb-true}
use Rattle.std.proofs.lemmas.Bool.Decides.{nat_tests}
use Rattle.std.specs.Prelude.{Option, Some, None, IsNone, IsSomeAnd, Result, Ok, Err, nat_lt}
use Rattle.std.specs.List.{flat_map}
use Rattle.std.specs.Option.{IsSome}
use Rattle.outside.specs.declared.status.Status.{Status}
use Rattle.outside.specs.declared.status.Status.TheVariants.{Done, Usage, SourceFault, ShelfFailed, SinkFailed, NoMemory}
use Rattle.outside.specs.Meaning.{Files, ShelfState, SinkState}
use Rattle.outside.specs.Plan.{Plan, finish, Reply, held, missing, too_long, is_missing, reply_of, absent_line, too_long_line, Ran}
use Rattle.outside.specs.Output.{status_of, fails_now, after_call}
use Rattle.outside.proofs.Causes.{Avoids, avoids-say_all, never_answers, Reports, reports-say_all}
use Rattle.outside.proofs.Runs.{short_of}
use Rattle.outside.proofs.Outputs.{said_status, status-say_all}
use Rattle.base_kit.specs.declared.fault.Fault.{Fault}
use Rattle.ada_tree.specs.declared.node.Node.{Node}
use Rattle.ada_tree.specs.Nodes.{kids_of}
use Rattle.penelope_cli.specs.declared.fresh.Outcome.{Outcome}
use Rattle.penelope_cli.specs.declared.fresh.Outcome.TheVariants.{Text, Faulty}
use Rattle.penelope_cli.specs.declared.gets.TheConstants.{MOST_BYTES}
use Rattle.penelope_cli.specs.Commands.{Command, check, print, names_of}
use Rattle.penelope_cli.specs.Documents.{document_answer}
use Rattle.penelope_cli.specs.Faults.{fault_line}
use Rattle.penelope_cli.specs.Fresh.{item_report, checked_by, texts_of, told_of, told_by, fresh, Takes, Refuses}
use Rattle.penelope_cli.specs.Items.{Item, items_in, first_unfit, unsupported_at}
use Rattle.penelope_cli.specs.Plans.{usage_line, after_get, fetch_source, fetch_all, tell, plan_of_command, plan_for}
use Rattle.penelope_cli.specs.Sources.{AreHeld, IsTooLong, AreFaultyBytes, AreSoundBytes, AreFaulty, AreSound}
use Rattle.penelope_cli.proofs.Documents.{is_document_answer}

-- ---- what holds of a plan that gets sources, where it holds of what comes behind them

pub by_gets : (P : Plan → Type 0) → ((name : List ℕ) (more : List ℕ → Plan) → ((bytes : List ℕ) → P (more bytes)) → P (fetch_source name more))
    → (names : List (List ℕ)) (more : List (List ℕ) → Plan) → ((sources : List (List ℕ)) → P (more sources)) → P (fetch_all names more)
by_gets P step [] more h = h []
by_gets P step (name ∷ names) more h = step name (λ bytes. fetch_all names (λ sources. more (bytes ∷ sources))) (λ bytes. by_gets P step names (λ sources. more (bytes ∷ sources)) (λ sources. h (bytes ∷ sources)))

-- ---- usage

tell_avoids_usage : (outcome : Outcome) → Avoids Usage (tell outcome)
tell_avoids_usage (Text text) = avoids-say_all Usage text (finish Done) (λ e. cc)
tell_avoids_usage (Faulty line) = avoids-say_all Usage line (finish SourceFault) (λ e. cc)

get_avoids_usage : (name : List ℕ) (more : List ℕ → Plan) → ((bytes : List ℕ) → Avoids Usage (more bytes)) → (reply : Reply) → Avoids Usage (after_get name more reply)
get_avoids_usage name more h (held bytes) = h bytes
get_avoids_usage name more h missing = avoids-say_all Usage (absent_line name) (finish ShelfFailed) (λ e. cc)
get_avoids_usage name more h too_long = avoids-say_all Usage (too_long_line name) (finish SourceFault) (λ e. cc)

command_avoids_usage : (command : Command) → Avoids Usage (plan_of_command command)
command_avoids_usage command = by_gets (Avoids Usage) get_avoids_usage (names_of command) (λ sources. tell (fresh command sources)) (λ sources. tell_avoids_usage (fresh command sources))

-- words in no form are answered so
pub usage_status : (command : Option Command) (status : Status) (s s' : ShelfState) (k k' : SinkState) → Ran (plan_for command) status s s' k k' → IsNone command → status ≢ SinkFailed → status ≢ NoMemory → status ≡ Usage
usage_status None status s s' k k' r none sink memory = said_status usage_line Usage status s s' k k' r sink memory
usage_status (Some command) status s s' k k' r none sink memory = cc

-- and only such words
pub only_usage : (command : Option Command) (s s' : ShelfState) (k k' : SinkState) → Ran (plan_for command) Usage s s' k k' → IsNone command
only_usage None s s' k k' r = refl
only_usage (Some command) s s' k k' r = absurd (never_answers Usage (plan_for (Some command)) s s' k k' (λ e. cc) (λ e. cc) (λ e. cc) (command_avoids_usage command) r)

-- ---- a shelf that failed

tell_reports : (outcome : Outcome) → Reports (tell outcome)
tell_reports (Text text) = reports-say_all text (finish Done) (λ e. cc)
tell_reports (Faulty line) = reports-say_all line (finish SourceFault) (λ e. cc)

reply_reports : (name : List ℕ) (more : List ℕ → Plan) → ((bytes : List ℕ) → Reports (more bytes)) → (reply : Reply) → is_missing reply ≡ false → Reports (after_get name more reply)
reply_reports name more h (held bytes) e = h bytes
reply_reports name more h missing e = cc
reply_reports name more h too_long e = reports-say_all (too_long_line name) (finish SourceFault) (λ f. cc)

get_reports : (name : List ℕ) (more : List ℕ → Plan) → ((bytes : List ℕ) → Reports (more bytes)) → Reports (fetch_source name more)
get_reports name more h = (refl, reply_reports name more h)

-- is reported with its line
pub plan_reports : (command : Option Command) → Reports (plan_for command)
plan_reports None = reports-say_all usage_line (finish Usage) (λ e. cc)
plan_reports (Some command) = by_gets Reports get_reports (names_of command) (λ sources. tell (fresh command sources)) (λ sources. tell_reports (fresh command sources))

-- ---- the status of what is told

told_unfit : (unfit : Option Item) (items : List Item) (files : Files) (stop : Option ℕ) → IsSome unfit → status_of (tell (checked_by unfit items)) files stop ≡ SourceFault
told_unfit None items files stop some = absurd cc
told_unfit (Some item) items files stop some = status-say_all (fault_line (unsupported_at item.path)) SourceFault files stop

told_fit : (unfit : Option Item) (items : List Item) (files : Files) (stop : Option ℕ) → IsNone unfit → status_of (tell (checked_by unfit items)) files stop ≡ Done
told_fit None items files stop none = status-say_all (flat_map item_report items) Done files stop
told_fit (Some item) items files stop none = absurd cc

unfit_where_told : (unfit : Option Item) (items : List Item) (files : Files) (stop : Option ℕ) → status_of (tell (checked_by unfit items)) files stop ≡ SourceFault → IsSome unfit
unfit_where_told None items files stop h = let done = told_fit None items files stop refl in absurd cc
unfit_where_told (Some item) items files stop h = refl

-- of a document that the command takes, and of one that it doesn't
taken_status : (command : Command) (root : Node) (files : Files) (stop : Option ℕ) → Takes command root → status_of (tell (told_of command root)) files stop ≡ Done
taken_status (check names) root files stop h = told_fit (first_unfit (items_in 0 (kids_of root))) (items_in 0 (kids_of root)) files stop h
taken_status (print names) root files stop h = status-say_all (texts_of (kids_of root)) Done files stop

refused_status : (command : Command) (root : Node) (files : Files) (stop : Option ℕ) → Refuses command root → status_of (tell (told_of command root)) files stop ≡ SourceFault
refused_status (check names) root files stop h = told_unfit (first_unfit (items_in 0 (kids_of root))) (items_in 0 (kids_of root)) files stop h
refused_status (print names) root files stop h = absurd h

only_refused : (command : Command) (root : Node) (files : Files) (stop : Option ℕ) → status_of (tell (told_of command root)) files stop ≡ SourceFault → Refuses command root
only_refused (check names) root files stop h = unfit_where_told (first_unfit (items_in 0 (kids_of root))) (items_in 0 (kids_of root)) files stop h
only_refused (print names) root files stop h = let done = status-say_all (texts_of (kids_of root)) Done files stop in absurd cc

-- of sources
sound_bytes : (command : Command) (sources : List (List ℕ)) (files : Files) (stop : Option ℕ) → AreSoundBytes command sources → status_of (tell (fresh command sources)) files stop ≡ Done
sound_bytes command sources files stop (root, (is, takes)) =
    ap (λ (answer : Result Node Fault). status_of (tell (told_by command answer)) files stop) (((is_document_answer sources).root root).1 is) ∙ taken_status command root files stop takes

faulty_bytes : (command : Command) (sources : List (List ℕ)) (files : Files) (stop : Option ℕ) → AreFaultyBytes command sources → status_of (tell (fresh command sources)) files stop ≡ SourceFault
faulty_bytes command sources files stop (inl (fault, is)) =
    ap (λ (answer : Result Node Fault). status_of (tell (told_by command answer)) files stop) (((is_document_answer sources).fault fault).1 is) ∙ status-say_all (fault_line fault) SourceFault files stop
faulty_bytes command sources files stop (inr (root, (is, refuses))) =
    ap (λ (answer : Result Node Fault). status_of (tell (told_by command answer)) files stop) (((is_document_answer sources).root root).1 is) ∙ refused_status command root files stop refuses

only_faulty_by : (command : Command) (sources : List (List ℕ)) (answer : Result Node Fault) (files : Files) (stop : Option ℕ) → document_answer sources ≡ answer → status_of (tell (told_by command answer)) files stop ≡ SourceFault → AreFaultyBytes command sources
only_faulty_by command sources (Ok root) files stop e h = inr (root, (((is_document_answer sources).root root).0 e, only_refused command root files stop h))
only_faulty_by command sources (Err fault) files stop e h = inl (fault, ((is_document_answer sources).fault fault).0 e)

only_faulty_bytes : (command : Command) (sources : List (List ℕ)) (files : Files) (stop : Option ℕ) → status_of (tell (fresh command sources)) files stop ≡ SourceFault → AreFaultyBytes command sources
only_faulty_bytes command sources files stop h = only_faulty_by command sources (document_answer sources) files stop refl h

-- ---- the status of what gets the sources

test_short : (limit n : ℕ) → nat_lt limit n ≡ false → n ≤ limit
test_short limit n h = grind (arith, nat_tests)

-- the reply where a file is short, and where it is too long
held_reply : (files : Files) (name bytes : List ℕ) → files name ≡ Some bytes → length bytes ≤ MOST_BYTES → reply_of (files name) MOST_BYTES ≡ held bytes
held_reply files name bytes e short = ap (λ (found : Option (List ℕ)). reply_of found MOST_BYTES) e ∙ ap (λ (t : Bool). cond t too_long (held bytes)) (short_of MOST_BYTES (length bytes) short)

long_reply : (files : Files) (name bytes : List ℕ) → files name ≡ Some bytes → MOST_BYTES < length bytes → reply_of (files name) MOST_BYTES ≡ too_long
long_reply files name bytes e long = ap (λ (found : Option (List ℕ)). reply_of found MOST_BYTES) e ∙ ap (λ (t : Bool). cond t too_long (held bytes)) (lt-ltb MOST_BYTES (length bytes) long)

-- where no call fails
sound_gets : (names sources : List (List ℕ)) (more : List (List ℕ) → Plan) (files : Files) → AreHeld files names sources → status_of (fetch_all names more) files None ≡ status_of (more sources) files None
sound_gets [] [] more files h = refl
sound_gets [] (bytes ∷ sources) more files h = absurd h
sound_gets (name ∷ names) [] more files h = absurd h
sound_gets (name ∷ names) (bytes ∷ sources) more files (is, others) =
    let next : List ℕ → Plan = λ first. fetch_all names (λ rest. more (first ∷ rest)) in
    ap (λ (reply : Reply). status_of (after_get name next reply) files None) (held_reply files name bytes is.found is.short) ∙ sound_gets names sources (λ rest. more (bytes ∷ rest)) files others

-- where a call may fail: the shelf's failure, or a fault of the sources
abbrev FailsOrFaults : Status → Type 0
FailsOrFaults status = (status ≡ ShelfFailed) ⊎ (status ≡ SourceFault)

either_status : (t : Bool) (status : Status) → FailsOrFaults status → FailsOrFaults (cond t ShelfFailed status)
either_status true status h = inl refl
either_status false status h = h

-- a source, and what comes behind it
held_source : (name bytes : List ℕ) (next : List ℕ → Plan) (files : Files) (stop : Option ℕ) → files name ≡ Some bytes → length bytes ≤ MOST_BYTES → FailsOrFaults (status_of (next bytes) files (after_call stop)) → FailsOrFaults (status_of (fetch_source name next) files stop)
held_source name bytes next files stop e short h =
    either_status (fails_now stop) _ (subst (λ (reply : Reply). FailsOrFaults (status_of (after_get name next reply) files (after_call stop))) (sym (held_reply files name bytes e short)) h)

long_source : (name bytes : List ℕ) (next : List ℕ → Plan) (files : Files) (stop : Option ℕ) → files name ≡ Some bytes → MOST_BYTES < length bytes → FailsOrFaults (status_of (fetch_source name next) files stop)
long_source name bytes next files stop e long =
    either_status (fails_now stop) _ (subst (λ (reply : Reply). FailsOrFaults (status_of (after_get name next reply) files (after_call stop))) (sym (long_reply files name bytes e long)) (inr (status-say_all (too_long_line name) SourceFault files (after_call stop))))

faulty_gets : (names sources : List (List ℕ)) (more : List (List ℕ) → Plan) (files : Files) (stop : Option ℕ) → AreHeld files names sources → ((later : Option ℕ) → status_of (more sources) files later ≡ SourceFault) → FailsOrFaults (status_of (fetch_all names more) files stop)
faulty_gets [] [] more files stop h faulty = inr (faulty stop)
faulty_gets [] (bytes ∷ sources) more files stop h faulty = absurd h
faulty_gets (name ∷ names) [] more files stop h faulty = absurd h
faulty_gets (name ∷ names) (bytes ∷ sources) more files stop (is, others) faulty =
    held_source name bytes (λ first. fetch_all names (λ rest. more (first ∷ rest))) files stop is.found is.short (faulty_gets names sources (λ rest. more (bytes ∷ rest)) files (after_call stop) others faulty)

long_gets : (before after sources : List (List ℕ)) (name bytes : List ℕ) (more : List (List ℕ) → Plan) (files : Files) (stop : Option ℕ) → AreHeld files before sources → files name ≡ Some bytes → MOST_BYTES < length bytes → FailsOrFaults (status_of (fetch_all (before ++ name ∷ after) more) files stop)
long_gets [] after [] name bytes more files stop h e long = long_source name bytes (λ first. fetch_all after (λ rest. more (first ∷ rest))) files stop e long
long_gets [] after (other ∷ sources) name bytes more files stop h e long = absurd h
long_gets (first ∷ before) after [] name bytes more files stop h e long = absurd h
long_gets (first ∷ before) after (other ∷ sources) name bytes more files stop (is, others) e long =
    held_source first other (λ got. fetch_all (before ++ name ∷ after) (λ rest. more (got ∷ rest))) files stop is.found is.short (long_gets before after sources name bytes (λ rest. more (other ∷ rest)) files (after_call stop) others e long)

-- what a fault of the sources tells
record Got (files : Files) (names : List (List ℕ)) (more : List (List ℕ) → Plan) : Type 0 where
  pub sources : List (List ℕ)
  pub held_are : AreHeld files names sources
  pub later : Option ℕ
  pub faulty : status_of (more sources) files later ≡ SourceFault

not_the_shelf : (t : Bool) (status : Status) → cond t ShelfFailed status ≡ SourceFault → status ≡ SourceFault
not_the_shelf true status e = cc
not_the_shelf false status e = e

long_behind : (files : Files) (name bytes : List ℕ) (names : List (List ℕ)) → files name ≡ Some bytes → length bytes ≤ MOST_BYTES → IsTooLong files names → IsTooLong files (name ∷ names)
long_behind files name bytes names e short long = record {
  before = name ∷ long.before;
  name = long.name;
  after = long.after;
  names_are = ap (λ (xs : List (List ℕ)). name ∷ xs) long.names_are;
  sources = bytes ∷ long.sources;
  held = (record { found = e; short = short }, long.held);
  bytes = long.bytes;
  found = long.found;
  long = long.long;
}

got_behind : (files : Files) (name bytes : List ℕ) (names : List (List ℕ)) (more : List (List ℕ) → Plan) → files name ≡ Some bytes → length bytes ≤ MOST_BYTES → Got files names (λ rest. more (bytes ∷ rest)) → Got files (name ∷ names) more
got_behind files name bytes names more e short got = record { sources = bytes ∷ got.sources; held_are = (record { found = e; short = short }, got.held_are); later = got.later; faulty = got.faulty }

either_behind : (files : Files) (name bytes : List ℕ) (names : List (List ℕ)) (more : List (List ℕ) → Plan) → files name ≡ Some bytes → length bytes ≤ MOST_BYTES → IsTooLong files names ⊎ Got files names (λ rest. more (bytes ∷ rest)) → IsTooLong files (name ∷ names) ⊎ Got files (name ∷ names) more
either_behind files name bytes names more e short (inl long) = inl (long_behind files name bytes names e short long)
either_behind files name bytes names more e short (inr got) = inr (got_behind files name bytes names more e short got)

-- by what the first name gives, of a plan that goes on as said
by_reply : (files : Files) (name bytes : List ℕ) (names : List (List ℕ)) (more : List (List ℕ) → Plan) (stop : Option ℕ) (long : Bool) → files name ≡ Some bytes → nat_lt MOST_BYTES (length bytes) ≡ long
    → (status_of (fetch_all names (λ rest. more (bytes ∷ rest))) files stop ≡ SourceFault → IsTooLong files names ⊎ Got files names (λ rest. more (bytes ∷ rest)))
    → status_of (after_get name (λ first. fetch_all names (λ rest. more (first ∷ rest))) (cond long too_long (held bytes))) files stop ≡ SourceFault → IsTooLong files (name ∷ names) ⊎ Got files (name ∷ names) more
by_reply files name bytes names more stop true e t behind h =
    inl record { before = []; name = name; after = names; names_are = refl; sources = []; held = tt; bytes = bytes; found = e; long = ltb-true MOST_BYTES (length bytes) t }
by_reply files name bytes names more stop false e t behind h = either_behind files name bytes names more e (test_short MOST_BYTES (length bytes) t) (behind h)

by_found : (files : Files) (name : List ℕ) (names : List (List ℕ)) (more : List (List ℕ) → Plan) (stop : Option ℕ) (found : Option (List ℕ)) → files name ≡ found
    → ((bytes : List ℕ) → status_of (fetch_all names (λ rest. more (bytes ∷ rest))) files stop ≡ SourceFault → IsTooLong files names ⊎ Got files names (λ rest. more (bytes ∷ rest)))
    → status_of (after_get name (λ first. fetch_all names (λ rest. more (first ∷ rest))) (reply_of found MOST_BYTES)) files stop ≡ SourceFault → IsTooLong files (name ∷ names) ⊎ Got files (name ∷ names) more
by_found files name names more stop None e behind h = let absent = status-say_all (absent_line name) ShelfFailed files stop in absurd cc
by_found files name names more stop (Some bytes) e behind h = by_reply files name bytes names more stop (nat_lt MOST_BYTES (length bytes)) e refl (behind bytes) h

only_gets : (names : List (List ℕ)) (more : List (List ℕ) → Plan) (files : Files) (stop : Option ℕ) → status_of (fetch_all names more) files stop ≡ SourceFault → IsTooLong files names ⊎ Got files names more
only_gets [] more files stop h = inr record { sources = []; held_are = tt; later = stop; faulty = h }
only_gets (name ∷ names) more files stop h =
    by_found files name names more (after_call stop) (files name) refl (λ bytes f. only_gets names (λ rest. more (bytes ∷ rest)) files (after_call stop) f) (not_the_shelf (fails_now stop) _ h)

-- ---- the status of the whole plan

pub sound_status : (command : Option Command) (files : Files) → IsSomeAnd command (AreSound files) → status_of (plan_for command) files None ≡ Done
sound_status None files h = absurd h
sound_status (Some command) files (sources, (are_held, sound)) =
    sound_gets (names_of command) sources (λ rest. tell (fresh command rest)) files are_held ∙ sound_bytes command sources files None sound

faulty_command : (command : Command) (files : Files) (stop : Option ℕ) → AreFaulty files command → FailsOrFaults (status_of (plan_of_command command) files stop)
faulty_command command files stop (inl long) =
    subst (λ (names : List (List ℕ)). FailsOrFaults (status_of (fetch_all names (λ sources. tell (fresh command sources))) files stop)) (sym long.names_are)
    (long_gets long.before long.after long.sources long.name long.bytes (λ sources. tell (fresh command sources)) files stop long.held long.found long.long)
faulty_command command files stop (inr (sources, (are_held, faulty))) =
    faulty_gets (names_of command) sources (λ rest. tell (fresh command rest)) files stop are_held (λ later. faulty_bytes command sources files later faulty)

pub faulty_status : (command : Option Command) (files : Files) (stop : Option ℕ) → IsSomeAnd command (AreFaulty files) → (status_of (plan_for command) files stop ≡ ShelfFailed) ⊎ (status_of (plan_for command) files stop ≡ SourceFault)
faulty_status None files stop h = absurd h
faulty_status (Some command) files stop h = faulty_command command files stop h

only_faulty_command : (command : Command) (files : Files) → IsTooLong files (names_of command) ⊎ Got files (names_of command) (λ sources. tell (fresh command sources)) → AreFaulty files command
only_faulty_command command files (inl long) = inl long
only_faulty_command command files (inr got) = inr (got.sources, (got.held_are, only_faulty_bytes command got.sources files got.later got.faulty))

pub only_faulty : (command : Option Command) (files : Files) (stop : Option ℕ) → status_of (plan_for command) files stop ≡ SourceFault → IsSomeAnd command (AreFaulty files)
only_faulty None files stop h = let usage = status-say_all usage_line Usage files stop in cc
only_faulty (Some command) files stop h = only_faulty_command command files (only_gets (names_of command) (λ sources. tell (fresh command sources)) files stop h)
