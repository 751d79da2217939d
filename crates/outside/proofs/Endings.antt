-- How the output ends: at a call that failed or found no file, or cut short.
use Rattle.std.proofs.Common.{◌≡◌, ℕ, List, [], ◌∷◌, ◌++◌, Bool, true, false, cond, refl, ◌∙◌, ap}
use Rattle.std.specs.Prelude.{Option}
use Rattle.outside.specs.declared.status.Status.{Status}
use Rattle.outside.specs.declared.status.Status.TheVariants.{ShelfFailed, SinkFailed}
use Rattle.outside.specs.Meaning.{Files, with_file, ShelfState, SinkState, IsProperPrefix}
use Rattle.outside.specs.Plan.{Plan, finish, say, fetch, store, Event, got, stored, get_failed, put_failed, Reply, held, missing, too_long, is_missing, wrote_all, bytes_of, say_all, failed_line, absent_line, reply_of}
use Rattle.outside.specs.Output.{output_of, status_of, fails_now, after_call, IsOutput, EndsAtCall, IsPrefix}
use Rattle.outside.proofs.Causes.{Reports}
use Rattle.outside.proofs.Events.{bytes_of-append}
use Rattle.outside.proofs.Outputs.{output_of-say_all}

-- an event more before
later : (event : Event) (events : List Event) → EndsAtCall events → EndsAtCall (event ∷ events)
later event events e = record { before = event ∷ e.before; call = e.call; line = e.line; line_is = e.line_is; split = ap (λ es. event ∷ es) e.split }

at_reply : (name : List ℕ) (limit : ℕ) (next : Reply → Plan) (reply : Reply) (files : Files) (stop : Option ℕ) → next missing ≡ say_all (absent_line name) (finish ShelfFailed) → (is_missing reply ≡ false → EndsAtCall (output_of (next reply) files stop)) → EndsAtCall (got name limit reply ∷ output_of (next reply) files stop)
at_reply name limit next missing files stop is h = record {
  before = [];
  call = got name limit missing;
  line = absent_line name;
  line_is = refl;
  split = ap (λ es. got name limit missing ∷ es) (ap (λ p. output_of p files stop) is ∙ output_of-say_all (absent_line name) ShelfFailed files stop);
}
at_reply name limit next (held bytes) files stop is h = later _ _ (h refl)
at_reply name limit next too_long files stop is h = later _ _ (h refl)

at_fetch : (fails : Bool) (name : List ℕ) (status : Status) (events : List Event) → (status ≡ ShelfFailed → EndsAtCall events) → cond fails ShelfFailed status ≡ ShelfFailed → EndsAtCall (cond fails (get_failed name ∷ wrote_all (failed_line name)) events)
at_fetch true name status events h e = record { before = []; call = get_failed name; line = failed_line name; line_is = refl; split = refl }
at_fetch false name status events h e = h e

at_store : (fails : Bool) (name : List ℕ) (status : Status) (events : List Event) → (status ≡ ShelfFailed → EndsAtCall events) → cond fails ShelfFailed status ≡ ShelfFailed → EndsAtCall (cond fails (put_failed name ∷ wrote_all (failed_line name)) events)
at_store true name status events h e = record { before = []; call = put_failed name; line = failed_line name; line_is = refl; split = refl }
at_store false name status events h e = h e

-- the output of such a plan with the status of a shelf that failed ends at the get or put
pub ends_at_call : (p : Plan) (files : Files) (stop : Option ℕ) → Reports p → status_of p files stop ≡ ShelfFailed → EndsAtCall (output_of p files stop)
ends_at_call (finish status) files stop a e = absurd (a e)
ends_at_call (say b next) files stop a e = later _ _ (ends_at_call next files stop a e)
ends_at_call (fetch name limit next) files stop a e =
    let reply : Reply = reply_of (files name) limit in
    let after : Option ℕ = after_call stop in
    at_fetch (fails_now stop) name (status_of (next reply) files after) (got name limit reply ∷ output_of (next reply) files after)
    (λ is. at_reply name limit next reply files after a.0 (λ found. ends_at_call (next reply) files after (a.1 reply found) is)) e
ends_at_call (store name bytes next) files stop a e =
    let files' : Files = with_file name bytes files in
    let after : Option ℕ = after_call stop in
    at_store (fails_now stop) name (status_of next files' after) (stored name bytes ∷ output_of next files' after)
    (λ is. later _ _ (ends_at_call next files' after a is)) e

-- what was written is a prefix of the output's bytes
pub wrote_prefix : (plan : Plan) (files : Files) (status : Status) (s s' : ShelfState) (k k' : SinkState) (o : IsOutput plan files status s s' k k') → IsPrefix (bytes_of o.front) (bytes_of (output_of plan files o.stop))
wrote_prefix plan files status s s' k k' o = (bytes_of o.rest, ap bytes_of o.split ∙ bytes_of-append o.front o.rest)

-- and a proper one where the sink failed
pub wrote_proper_prefix : (plan : Plan) (files : Files) (s s' : ShelfState) (k k' : SinkState) (o : IsOutput plan files SinkFailed s s' k k') → IsProperPrefix (bytes_of o.front) (bytes_of (output_of plan files o.stop))
wrote_proper_prefix plan files s s' k k' o =
    let cut = o.cut refl in
    (cut.0, bytes_of cut.1, ap bytes_of o.split ∙ bytes_of-append o.front o.rest ∙ ap (λ es. bytes_of o.front ++ bytes_of es) cut.2)
