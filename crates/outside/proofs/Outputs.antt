-- A run by a plan over files that the shelf tells is the plan's output over these files.
use Rattle.std.proofs.Common.{◌≡◌, ◌≢◌, ◌≤◌, ℕ, ◌+◌, ◌-◌, List, [], ◌∷◌, ◌++◌, Bool, true, false, cond, refl, sym, ◌∙◌, ap, subst, arith, ◌⊎◌, inl, inr}
use Rattle.std.proofs.lemmas.Bool.Decides.{nat_tests}
use Rattle.std.specs.Prelude.{Option, Some, None, IfSome, IsSome, IsSomeAnd, option_map, ◌==◌}
use Rattle.outside.specs.Meaning.{Files, ShelfState, SinkState, Rose, raised, written_more, with_file}
use Rattle.outside.specs.declared.status.Status.{Status}
use Rattle.outside.specs.declared.status.Status.TheVariants.{ShelfFailed, SinkFailed, NoMemory}
use Rattle.outside.specs.Plan.{Plan, finish, say, fetch, store, Event, wrote, got, stored, get_failed, put_failed, Reply, reply_of, Leads, Agrees, bytes_of, calls_of, has_failure, wrote_all, say_all, failed_line, IsCall, IsSay, Ran}
use Rattle.outside.specs.Output.{output_of, status_of, fails_now, after_call, IsOutput, IsWhole}
use Rattle.outside.proofs.Events.{calls_of-append, not_the_sink}

-- a plan's output over files begins with the events, and goes on as that of what is left
pub record Unfolds (events : List Event) (plan left : Plan) (files : Files) : Type 0 where
  pub stop : Option ℕ
  pub after : Files
  pub later : Option ℕ
  pub output_is : output_of plan files stop ≡ events ++ output_of left after later
  pub status_is : status_of plan files stop ≡ status_of left after later
  pub counted : IfSome stop (λ n. (1 ≤ n) × (n ≡ calls_of events))
  pub failed : IsSome stop → has_failure events ≡ true
  pub over : IsSome stop → IsCall left → ⊥

-- a call more before the one that fails
abbrev before_call : Option ℕ → Option ℕ
before_call stop = option_map (λ n. n + 1) stop

not_first : (n : ℕ) → 1 ≤ n → (n + 1 == 1) ≡ false
not_first n h = grind (arith, nat_tests)

fails_now-before : (stop : Option ℕ) (c : ℕ) → IfSome stop (λ n. (1 ≤ n) × (n ≡ c)) → fails_now (before_call stop) ≡ false
fails_now-before None c h = refl
fails_now-before (Some n) c h = not_first n h.0

back : (n : ℕ) → n + 1 - 1 ≡ n
back n = omega arith

after-before : (stop : Option ℕ) → after_call (before_call stop) ≡ stop
after-before None = refl
after-before (Some n) = ap Some (back n)

counted-before : (stop : Option ℕ) (c : ℕ) → IfSome stop (λ n. (1 ≤ n) × (n ≡ c)) → IfSome (before_call stop) (λ n. (1 ≤ n) × (n ≡ c + 1))
counted-before None c h = tt
counted-before (Some n) c h = (omega arith, omega (arith, h.1))

some-before : (stop : Option ℕ) → IsSome (before_call stop) → IsSome stop
some-before None h = h
some-before (Some n) h = h

-- nothing but bytes are left after a failure
pub record Saying (events : List Event) (bytes : List ℕ) (status : Status) (left : Plan) : Type 0 where
  pub more : List ℕ
  pub split : wrote_all bytes ≡ events ++ wrote_all more
  pub left_is : left ≡ say_all more (finish status)
  pub no_calls : calls_of events ≡ 0

pub leads_say : (events : List Event) (bytes : List ℕ) (status : Status) (left : Plan) → Leads events (say_all bytes (finish status)) left → Saying events bytes status left
leads_say [] bytes status left h = record { more = bytes; split = refl; left_is = sym h; no_calls = refl }
leads_say (wrote b ∷ events) [] status left (next, is, h) = cc
leads_say (wrote b ∷ events) (c ∷ bytes) status left (next, is, h) =
    let same : next ≡ say_all bytes (finish status) = cc in
    let here : b ≡ c = cc in
    let rest = leads_say events bytes status left (subst (λ (z : Plan). Leads events z left) same h) in
    record {
      more = rest.more;
      split = ap (λ es. wrote c ∷ es) rest.split ∙ ap (λ x. wrote x ∷ (events ++ wrote_all rest.more)) (sym here);
      left_is = rest.left_is;
      no_calls = rest.no_calls;
    }
leads_say (got name limit reply ∷ events) [] status left h = let e = h.1 in cc
leads_say (got name limit reply ∷ events) (c ∷ bytes) status left h = let e = h.1 in cc
leads_say (stored name bs ∷ events) [] status left h = let e = h.1 in cc
leads_say (stored name bs ∷ events) (c ∷ bytes) status left h = let e = h.1 in cc
leads_say (get_failed name ∷ events) [] status left h = let e = h.2 in cc
leads_say (get_failed name ∷ events) (c ∷ bytes) status left h = let e = h.2 in cc
leads_say (put_failed name ∷ events) [] status left h = let e = h.2 in cc
leads_say (put_failed name ∷ events) (c ∷ bytes) status left h = let e = h.2 in cc

pub output_of-say_all : (bytes : List ℕ) (status : Status) (files : Files) (stop : Option ℕ) → output_of (say_all bytes (finish status)) files stop ≡ wrote_all bytes
output_of-say_all [] status files stop = refl
output_of-say_all (b ∷ bytes) status files stop = ap (λ es. wrote b ∷ es) (output_of-say_all bytes status files stop)

pub status-say_all : (bytes : List ℕ) (status : Status) (files : Files) (stop : Option ℕ) → status_of (say_all bytes (finish status)) files stop ≡ status
status-say_all [] status files stop = refl
status-say_all (b ∷ bytes) status files stop = status-say_all bytes status files stop

-- bytes are no call
no_call : (more : List ℕ) → IsCall (say_all more (finish ShelfFailed)) → ⊥
no_call [] h = h
no_call (b ∷ more) h = h

pub unfolds : (events : List Event) (plan left : Plan) (files end : Files) → Leads events plan left → Agrees events files end → Unfolds events plan left files
unfolds [] plan left files end h a = record {
  stop = None;
  after = files;
  later = None;
  output_is = ap (λ p. output_of p files None) h;
  status_is = ap (λ p. status_of p files None) h;
  counted = tt;
  failed = λ e. cc;
  over = λ e. cc;
}
unfolds (wrote b ∷ events) plan left files end (next, is, h) a =
    let u = unfolds events next left files end h a in
    record {
      stop = u.stop;
      after = u.after;
      later = u.later;
      output_is = ap (λ p. output_of p files u.stop) is ∙ ap (λ es. wrote b ∷ es) u.output_is;
      status_is = ap (λ p. status_of p files u.stop) is ∙ u.status_is;
      counted = u.counted;
      failed = u.failed;
      over = u.over;
    }
unfolds (got name limit reply ∷ events) plan left files end (next, is, h) (r, a) =
    let u = unfolds events (next reply) left files end h a in
    let stop : Option ℕ = before_call u.stop in
    let goes = fails_now-before u.stop (calls_of events) u.counted in
    let line = wrote_all (failed_line name) in
    let found : Reply = reply_of (files name) limit in
    record {
      stop = stop;
      after = u.after;
      later = u.later;
      output_is = ap (λ p. output_of p files stop) is
          ∙ ap (λ (t : Bool). cond t (get_failed name ∷ line) (got name limit found ∷ output_of (next found) files (after_call stop))) goes
          ∙ ap (λ (x : Reply). got name limit x ∷ output_of (next x) files (after_call stop)) (sym r)
          ∙ ap (λ (t : Option ℕ). got name limit reply ∷ output_of (next reply) files t) (after-before u.stop)
          ∙ ap (λ es. got name limit reply ∷ es) u.output_is;
      status_is = ap (λ p. status_of p files stop) is
          ∙ ap (λ (t : Bool). cond t ShelfFailed (status_of (next found) files (after_call stop))) goes
          ∙ ap (λ (x : Reply). status_of (next x) files (after_call stop)) (sym r)
          ∙ ap (λ (t : Option ℕ). status_of (next reply) files t) (after-before u.stop)
          ∙ u.status_is;
      counted = counted-before u.stop (calls_of events) u.counted;
      failed = λ e. u.failed (some-before u.stop e);
      over = λ e. u.over (some-before u.stop e);
    }
unfolds (stored name bytes ∷ events) plan left files end (next, is, h) a =
    let files' : Files = with_file name bytes files in
    let u = unfolds events next left files' end h a in
    let stop : Option ℕ = before_call u.stop in
    let goes = fails_now-before u.stop (calls_of events) u.counted in
    let line = wrote_all (failed_line name) in
    record {
      stop = stop;
      after = u.after;
      later = u.later;
      output_is = ap (λ p. output_of p files stop) is
          ∙ ap (λ (t : Bool). cond t (put_failed name ∷ line) (stored name bytes ∷ output_of next files' (after_call stop))) goes
          ∙ ap (λ (t : Option ℕ). stored name bytes ∷ output_of next files' t) (after-before u.stop)
          ∙ ap (λ es. stored name bytes ∷ es) u.output_is;
      status_is = ap (λ p. status_of p files stop) is
          ∙ ap (λ (t : Bool). cond t ShelfFailed (status_of next files' (after_call stop))) goes
          ∙ ap (λ (t : Option ℕ). status_of next files' t) (after-before u.stop)
          ∙ u.status_is;
      counted = counted-before u.stop (calls_of events) u.counted;
      failed = λ e. u.failed (some-before u.stop e);
      over = λ e. u.over (some-before u.stop e);
    }
unfolds (get_failed name ∷ events) plan left files end (limit, next, is, h) a =
    let line = failed_line name in
    let u = leads_say events line ShelfFailed left h in
    record {
      stop = Some 1;
      after = files;
      later = None;
      output_is = ap (λ p. output_of p files (Some 1)) is ∙ ap (λ es. get_failed name ∷ es) (u.split ∙ ap (λ es. events ++ es) (sym (ap (λ p. output_of p files None) u.left_is ∙ output_of-say_all u.more ShelfFailed files None)));
      status_is = ap (λ p. status_of p files (Some 1)) is ∙ sym (ap (λ p. status_of p files None) u.left_is ∙ status-say_all u.more ShelfFailed files None);
      counted = (omega arith, omega (arith, u.no_calls));
      failed = λ e. refl;
      over = λ e call. no_call u.more (subst IsCall u.left_is call);
    }
unfolds (put_failed name ∷ events) plan left files end (bytes, next, is, h) a =
    let line = failed_line name in
    let u = leads_say events line ShelfFailed left h in
    record {
      stop = Some 1;
      after = files;
      later = None;
      output_is = ap (λ p. output_of p files (Some 1)) is ∙ ap (λ es. put_failed name ∷ es) (u.split ∙ ap (λ es. events ++ es) (sym (ap (λ p. output_of p files None) u.left_is ∙ output_of-say_all u.more ShelfFailed files None)));
      status_is = ap (λ p. status_of p files (Some 1)) is ∙ sym (ap (λ p. status_of p files None) u.left_is ∙ status-say_all u.more ShelfFailed files None);
      counted = (omega arith, omega (arith, u.no_calls));
      failed = λ e. refl;
      over = λ e call. no_call u.more (subst IsCall u.left_is call);
    }

-- what is left of the output_of, by what is left of the plan
nothing_left : (p : Plan) (status : Status) (f : Files) (t : Option ℕ) → p ≡ finish status → (output_of p f t ≡ []) × (status ≡ status_of p f t)
nothing_left p status f t e = (ap (λ x. output_of x f t) e, sym (ap (λ x. status_of x f t) e))

byte_left : (p : Plan) (f : Files) (t : Option ℕ) → IsSay p → (byte : ℕ) × (others : List Event) × (output_of p f t ≡ wrote byte ∷ others)
byte_left (finish status) f t h = absurd h
byte_left (say b next) f t h = (b, output_of next f t, refl)
byte_left (fetch name limit next) f t h = absurd h
byte_left (store name bytes next) f t h = absurd h

call_first : (b : Bool) (x y : List Event) → 1 ≤ calls_of x → 1 ≤ calls_of y → 1 ≤ calls_of (cond b x y)
call_first true x y p q = p
call_first false x y p q = q

call_left : (p : Plan) (f : Files) (t : Option ℕ) → IsCall p → 1 ≤ calls_of (output_of p f t)
call_left (finish status) f t h = absurd h
call_left (say b next) f t h = absurd h
call_left (fetch name limit next) f t h = call_first (fails_now t) _ _ (omega arith) (omega arith)
call_left (store name bytes next) f t h = call_first (fails_now t) _ _ (omega arith) (omega arith)

not_starved : (status : Status) (n : ℕ) (left : Plan) → status ≢ NoMemory → (n ≡ 0) ⊎ ((n ≡ 1) × (status ≡ NoMemory) × IsCall left) → n ≡ 0
not_starved status n left h (inl e) = e
not_starved status n left h (inr e) = absurd (h e.1)

within : (status : Status) (n : ℕ) (left : Plan) (f : Files) (t : Option ℕ) → (n ≡ 0) ⊎ ((n ≡ 1) × (status ≡ NoMemory) × IsCall left) → n ≤ calls_of (output_of left f t)
within status n left f t (inl e) = omega (arith, e)
within status n left f t (inr e) = omega (arith, e.0, call_left left f t e.2)

-- after a get or put that failed there is none that could find no memory
none_starved : (status : Status) (n : ℕ) (left : Plan) → (IsCall left → ⊥) → (n ≡ 0) ⊎ ((n ≡ 1) × (status ≡ NoMemory) × IsCall left) → n ≡ 0
none_starved status n left h (inl e) = e
none_starved status n left h (inr e) = absurd (h e.2)

stop_cause : (stop : Option ℕ) (c m : ℕ) (P : Type 0) → IfSome stop (λ n. (1 ≤ n) × (n ≡ c)) → (IsSome stop → P) → (IsSome stop → m ≡ 0) → IfSome stop (λ n. (n ≡ c + m) × P)
stop_cause None c m P h p z = tt
stop_cause (Some n) c m P h p z = let none : m ≡ 0 = z refl in (omega (arith, h.1), p refl)

told : (f g : Option Files) (files : Files) (events : List Event) → f ≡ Some files → IfSome f (λ x. IsSomeAnd g (Agrees events x)) → (end : Files) × Agrees events files end
told None g files events e h = cc
told (Some f) None files events e h = absurd h
told (Some f) (Some g) files events e h = let same : f ≡ files = cc in (g, subst (λ (z : Files). Agrees events z g) same h)

-- a run over a shelf that tells its files is the output of its plan over them
pub output : (plan : Plan) (files : Files) (status : Status) (s s' : ShelfState) (k k' : SinkState) → s.holds ≡ Some files → Ran plan status s s' k k' → IsOutput plan files status s s' k k'
output plan files status s s' k k' e r =
    let a = told s.holds s'.holds files r.events e r.happened.agrees in
    let u = unfolds r.events plan r.left files a.0 r.leads a.1 in
    record {
      stop = u.stop;
      front = r.events;
      rest = output_of r.left u.after u.later;
      starved = r.starved;
      split = u.output_is;
      whole = λ five seven.
          let left = nothing_left r.left status u.after u.later (r.stops.done five seven) in
          (left.0, left.1 ∙ sym u.status_is, not_starved status r.starved r.left seven r.stops.tried);
      cut = λ five.
          let left = byte_left r.left u.after u.later (r.stops.cut five) in
          (left.0, left.1, left.2, not_starved status r.starved r.left (λ seven. not_the_sink (sym seven ∙ five)) r.stops.tried);
      starved_within = omega (arith, ap calls_of u.output_is, calls_of-append r.events (output_of r.left u.after u.later), within status r.starved r.left u.after u.later r.stops.tried);
      written = r.happened.written;
      called = r.happened.called;
      stopped = stop_cause u.stop (calls_of r.events) r.starved (Rose s.faults s'.faults) u.counted (λ some. r.happened.failures (u.failed some)) (λ some. none_starved status r.starved r.left (u.over some) r.stops.tried);
    }

output_told : (h : Option Files) (plan : Plan) (status : Status) (s s' : ShelfState) (k k' : SinkState) → s.holds ≡ h → Ran plan status s s' k k' → IfSome h (λ files. IsOutput plan files status s s' k k')
output_told None plan status s s' k k' e r = tt
output_told (Some files) plan status s s' k k' e r = output plan files status s s' k k' e r

pub output_where_told : (plan : Plan) (status : Status) (s s' : ShelfState) (k k' : SinkState) → Ran plan status s s' k k' → IfSome s.holds (λ files. IsOutput plan files status s s' k k')
output_where_told plan status s s' k k' r = output_told s.holds plan status s s' k k' refl r

none_stopped : (stop : Option ℕ) (c : ℕ) (P : Type 0) → IfSome stop (λ n. (n ≡ c) × P) → (P → ⊥) → stop ≡ None
none_stopped None c P h never = refl
none_stopped (Some n) c P h never = absurd (never h.1)

append_none : (xs : List Event) → xs ++ [] ≡ xs
append_none [] = refl
append_none (x ∷ xs) = ap (λ ys. x ∷ ys) (append_none xs)

pub complete : (plan : Plan) (files : Files) (status : Status) (s s' : ShelfState) (k k' : SinkState) → s.holds ≡ Some files → Ran plan status s s' k k' → (Rose s.faults s'.faults → ⊥) → (Rose k.faults k'.faults → ⊥) → status ≢ NoMemory → IsWhole plan files status s s' k k'
complete plan files status s s' k k' e r shelf sink seven =
    let o = output plan files status s s' k k' e r in
    let five : status ≢ SinkFailed = λ h. sink (r.stops.cause h) in
    let w = o.whole five seven in
    let none = none_stopped o.stop (calls_of o.front + o.starved) (Rose s.faults s'.faults) o.stopped shelf in
    let all : output_of plan files None ≡ o.front = ap (λ (t : Option ℕ). output_of plan files t) (sym none) ∙ o.split ∙ ap (λ es. o.front ++ es) w.0 ∙ append_none o.front in
    record {
      status_is = w.1 ∙ ap (λ (t : Option ℕ). status_of plan files t) none;
      written = o.written ∙ ap (λ es. written_more k.written (bytes_of es)) (sym all);
      called = o.called ∙ ap (λ m. option_map (raised m) s.calls) (omega (arith, w.2, ap calls_of all));
    }

complete_told : (h : Option Files) (plan : Plan) (status : Status) (s s' : ShelfState) (k k' : SinkState) → s.holds ≡ h → Ran plan status s s' k k' → IfSome h (λ files. (Rose s.faults s'.faults → ⊥) → (Rose k.faults k'.faults → ⊥) → status ≢ NoMemory → IsWhole plan files status s s' k k')
complete_told None plan status s s' k k' e r = tt
complete_told (Some files) plan status s s' k k' e r = complete plan files status s s' k k' e r

pub complete_where_told : (plan : Plan) (status : Status) (s s' : ShelfState) (k k' : SinkState) → Ran plan status s s' k k' → IfSome s.holds (λ files. (Rose s.faults s'.faults → ⊥) → (Rose k.faults k'.faults → ⊥) → status ≢ NoMemory → IsWhole plan files status s s' k k')
complete_where_told plan status s s' k k' r = complete_told s.holds plan status s s' k k' refl r

only_finish : (more : List ℕ) (a b : Status) → say_all more (finish a) ≡ finish b → b ≡ a
only_finish [] a b e = cc
only_finish (x ∷ more) a b e = cc

-- a plan that only says something has one status
pub said_status : (bytes : List ℕ) (n status : Status) (s s' : ShelfState) (k k' : SinkState) → Ran (say_all bytes (finish n)) status s s' k k' → status ≢ SinkFailed → status ≢ NoMemory → status ≡ n
said_status bytes n status s s' k k' r five seven =
    let said = leads_say r.events bytes n r.left r.leads in
    only_finish said.more n status (sym said.left_is ∙ r.stops.done five seven)
