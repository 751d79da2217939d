-- Runs: a part and then the rest.
use Rattle.std.proofs.Common.{◌≡◌, ◌≢◌, ◌≤◌, ◌<◌, ℕ, ◌+◌, List, [], ◌∷◌, ◌++◌, length, Bool, true, false, cond, refl, sym, ◌∙◌, ap, subst, arith, ◌⊎◌, inl, inr}
use Rattle.std.proofs.lemmas.Bool.Decides.{nat_tests}
use Rattle.std.specs.Prelude.{nat_lt, Result, Ok, Err, Option, Some, None, IfSome, IsSomeAnd, option_map}
use Rattle.outside.specs.Meaning.{Found, NotFound, FoundLonger, Files, ShelfState, SinkState, CalledTimes, NoneFell, Rose, raised, written_more, IsProperPrefix}
use Rattle.outside.specs.declared.status.Status.{Status}
use Rattle.outside.specs.declared.status.Status.TheVariants.{SinkFailed, NoMemory}
use Rattle.outside.specs.Plan.{Plan, finish, say, fetch, Event, got, get_failed, Reply, held, missing, too_long, line_of, reply_of, is_missing, is_too_long, Leads, bytes_of, calls_of, has_failure, has_reply, Agrees, wrote_all, say_all, failed_at, IsCall, Happened, Went, Goes, Ran}
use Rattle.outside.proofs.Writing.{written_more-append, written_more-none}
use Rattle.outside.proofs.Events.{leads-append, bytes_of-append, calls_of-append, has_failure-append, has_reply-append, agrees-append, leads-wrote_all, bytes_of-wrote_all, calls_of-wrote_all, has_failure-wrote_all, has_reply-wrote_all, agrees-wrote_all, say_all-append, option_raised, raised-none, rose_later, rose_before, not_the_sink}

agrees_then : (a b : List Event) (f g h : Option Files) → IfSome f (λ x. IsSomeAnd g (Agrees a x)) → IfSome g (λ x. IsSomeAnd h (Agrees b x)) → IfSome f (λ x. IsSomeAnd h (Agrees (a ++ b) x))
agrees_then a b None g h x y = tt
agrees_then a b (Some f) None h x y = absurd x
agrees_then a b (Some f) (Some g) None x y = absurd y
agrees_then a b (Some f) (Some g) (Some h) x y = agrees-append a b f g h x y

rose_then : (x y : Bool) (a b c : ℕ) → a ≤ b → b ≤ c → (x ≡ true → Rose a b) → (y ≡ true → Rose b c) → cond x true y ≡ true → Rose a c
rose_then true y a b c le le' p q e = rose_later a b c (p refl) le'
rose_then false y a b c le le' p q e = rose_before a b c le (q e)

pub happened_then : (a b : List Event) (n : ℕ) (s s' s'' : ShelfState) (k k' k'' : SinkState) → Happened a 0 s s' k k' → Happened b n s' s'' k' k'' → Happened (a ++ b) n s s'' k k''
happened_then a b n s s' s'' k k' k'' x y = record {
  written = y.written ∙ ap (λ w. written_more w (bytes_of b)) x.written ∙ written_more-append k.written (bytes_of a) (bytes_of b) ∙ ap (written_more k.written) (sym (bytes_of-append a b));
  called = y.called ∙ ap (option_map (raised (calls_of b + n))) x.called ∙ option_raised (calls_of a + 0) (calls_of b + n) s.calls ∙ ap (λ m. option_map (raised m) s.calls) (omega (arith, calls_of-append a b));
  agrees = agrees_then a b s.holds s'.holds s''.holds x.agrees y.agrees;
  counts = record {
    faults = omega (arith, x.counts.faults, y.counts.faults);
    absences = omega (arith, x.counts.absences, y.counts.absences);
    excesses = omega (arith, x.counts.excesses, y.counts.excesses);
  };
  sink_counts = omega (arith, x.sink_counts, y.sink_counts);
  failures = λ e. rose_then (has_failure a) (has_failure b) _ _ _ x.counts.faults y.counts.faults x.failures y.failures (sym (has_failure-append a b) ∙ e);
  absences = λ e. rose_then (has_reply is_missing a) (has_reply is_missing b) _ _ _ x.counts.absences y.counts.absences x.absences y.absences (sym (has_reply-append is_missing a b) ∙ e);
  excesses = λ e. rose_then (has_reply is_too_long a) (has_reply is_too_long b) _ _ _ x.counts.excesses y.counts.excesses x.excesses y.excesses (sym (has_reply-append is_too_long a b) ∙ e);
}

-- a run that goes on after some events
pub ran_then : (a : List Event) (p q : Plan) (status : Status) (s s' s'' : ShelfState) (k k' k'' : SinkState) → Leads a p q → Happened a 0 s s' k k' → Ran q status s' s'' k' k'' → Ran p status s s'' k k''
ran_then a p q status s s' s'' k k' k'' leads x r = record {
  events = a ++ r.events;
  left = r.left;
  starved = r.starved;
  leads = leads-append a r.events p q r.left leads r.leads;
  happened = happened_then a r.events r.starved s s' s'' k k' k'' x r.happened;
  stops = record {
    done = r.stops.done;
    cut = r.stops.cut;
    cause = λ e. rose_before _ _ _ x.sink_counts (r.stops.cause e);
    tried = r.stops.tried;
  };
}

option_same : (c : Option ℕ) → c ≡ option_map (raised 0) c
option_same None = refl
option_same (Some n) = ap Some (sym (raised-none n))

agrees_same : (bytes : List ℕ) (f : Option Files) → IfSome f (λ x. IsSomeAnd f (Agrees (wrote_all bytes) x))
agrees_same bytes None = tt
agrees_same bytes (Some f) = agrees-wrote_all bytes f

never : (b : Bool) → b ≡ false → b ≡ true → ⊥
never b e f = cc

-- bytes written to a sink, the shelf untouched
pub happened_wrote : (bytes : List ℕ) (s : ShelfState) (k k' : SinkState) → k'.written ≡ written_more k.written bytes → k.faults ≤ k'.faults → Happened (wrote_all bytes) 0 s s k k'
happened_wrote bytes s k k' w c = record {
  written = w ∙ ap (written_more k.written) (sym (bytes_of-wrote_all bytes));
  called = option_same s.calls ∙ ap (λ m. option_map (raised m) s.calls) (omega (arith, calls_of-wrote_all bytes));
  agrees = agrees_same bytes s.holds;
  counts = record { faults = omega arith; absences = omega arith; excesses = omega arith };
  sink_counts = c;
  failures = λ e. absurd (never _ (has_failure-wrote_all bytes) e);
  absences = λ e. absurd (never _ (has_reply-wrote_all is_missing bytes) e);
  excesses = λ e. absurd (never _ (has_reply-wrote_all is_too_long bytes) e);
}

-- a run that writes bytes and then answers a status
pub ran_wrote : (bytes : List ℕ) (status : Status) (s : ShelfState) (k k' : SinkState) → status ≢ SinkFailed → k'.written ≡ written_more k.written bytes → k.faults ≤ k'.faults → Ran (say_all bytes (finish status)) status s s k k'
ran_wrote bytes status s k k' other w c = record {
  events = wrote_all bytes;
  left = finish status;
  starved = 0;
  leads = leads-wrote_all bytes (finish status);
  happened = happened_wrote bytes s k k' w c;
  stops = record { done = λ _ _. refl; cut = λ e. absurd (other e); cause = λ e. absurd (other e); tried = inl refl };
}

-- a run that is done
pub ran_done : (status : Status) (s : ShelfState) (k : SinkState) → status ≢ SinkFailed → Ran (finish status) status s s k k
ran_done status s k other = ran_wrote [] status s k k other (sym (written_more-none k.written)) (omega arith)

-- a run that the sink cut short in the bytes
pub ran_cut : (bytes : List ℕ) (p : Plan) (s : ShelfState) (k k' : SinkState) → (part : List ℕ) × IsProperPrefix part bytes × (k'.written ≡ written_more k.written part) → k.faults ≤ k'.faults → Rose k.faults k'.faults → Ran (say_all bytes p) SinkFailed s s k k'
ran_cut bytes p s k k' (part, proper, w) c rose = record {
  events = wrote_all part;
  left = say proper.0 (say_all proper.1 p);
  starved = 0;
  leads = subst (λ (z : Plan). Leads (wrote_all part) z (say proper.0 (say_all proper.1 p))) (sym (ap (λ (bs : List ℕ). say_all bs p) proper.2 ∙ say_all-append part (proper.0 ∷ proper.1) p)) (leads-wrote_all part (say proper.0 (say_all proper.1 p)));
  happened = happened_wrote part s k k' w c;
  stops = record { done = λ e _. absurd (e refl); cut = λ _. tt; cause = λ _. rose; tried = inl refl };
}

only : (b : Bool) → cond b true false ≡ true → b ≡ true
only true e = refl
only false e = e

agrees_got : (name : List ℕ) (limit : ℕ) (reply : Reply) (f g : Option Files) → g ≡ f → IfSome f (λ x. reply ≡ reply_of (x name) limit) → IfSome f (λ x. IsSomeAnd g (Agrees (got name limit reply ∷ []) x))
agrees_got name limit reply None g e r = tt
agrees_got name limit reply (Some f) g e r = subst (λ (z : Option Files). IsSomeAnd z (Agrees (got name limit reply ∷ []) f)) (sym e) (r, refl)

-- a get that didn't fail
pub happened_got : (name : List ℕ) (limit : ℕ) (reply : Reply) (s s' : ShelfState) (k : SinkState) → CalledTimes 1 s s' → NoneFell s s' → s'.holds ≡ s.holds → IfSome s.holds (λ x. reply ≡ reply_of (x name) limit) → (is_missing reply ≡ true → Rose s.absences s'.absences) → (is_too_long reply ≡ true → Rose s.excesses s'.excesses) → Happened (got name limit reply ∷ []) 0 s s' k k
happened_got name limit reply s s' k called counts same r absent long = record {
  written = sym (written_more-none k.written);
  called = called;
  agrees = agrees_got name limit reply s.holds s'.holds same r;
  counts = counts;
  sink_counts = omega arith;
  failures = λ e. cc;
  absences = λ e. absent (only (is_missing reply) e);
  excesses = λ e. long (only (is_too_long reply) e);
}

agrees_failed : (name : List ℕ) (f g : Option Files) → g ≡ f → IfSome f (λ x. IsSomeAnd g (Agrees (get_failed name ∷ []) x))
agrees_failed name None g e = tt
agrees_failed name (Some f) g e = subst (λ (z : Option Files). IsSomeAnd z (Agrees (get_failed name ∷ []) f)) (sym e) refl

-- a get at which the shelf failed
pub happened_get_failed : (name : List ℕ) (s s' : ShelfState) (k : SinkState) → CalledTimes 1 s s' → NoneFell s s' → s'.holds ≡ s.holds → Rose s.faults s'.faults → Happened (get_failed name ∷ []) 0 s s' k k
happened_get_failed name s s' k called counts same rose = record {
  written = sym (written_more-none k.written);
  called = called;
  agrees = agrees_failed name s.holds s'.holds same;
  counts = counts;
  sink_counts = omega arith;
  failures = λ e. rose;
  absences = λ e. cc;
  excesses = λ e. cc;
}

agrees_none : (f g : Option Files) → g ≡ f → IfSome f (λ x. IsSomeAnd g (Agrees [] x))
agrees_none None g e = tt
agrees_none (Some f) g e = subst (λ (z : Option Files). IsSomeAnd z (Agrees [] f)) (sym e) refl

tried_one : (n : ℕ) (p : Plan) → (n ≡ 0) ⊎ ((n ≡ 1) × IsCall p) → (n ≡ 0) ⊎ ((n ≡ 1) × (NoMemory ≡ NoMemory) × IsCall p)
tried_one n p (inl e) = inl e
tried_one n p (inr (e, c)) = inr (e, refl, c)

-- a run that ends for want of memory, in a call of the shelf or (n = 0) before
pub ran_starved : (p : Plan) (n : ℕ) (s s' : ShelfState) (k : SinkState) → (n ≡ 0) ⊎ ((n ≡ 1) × IsCall p) → CalledTimes n s s' → NoneFell s s' → s'.holds ≡ s.holds → Ran p NoMemory s s' k k
ran_starved p n s s' k tried called counts same = record {
  events = [];
  left = p;
  starved = n;
  leads = refl;
  happened = record {
    written = sym (written_more-none k.written);
    called = called ∙ ap (λ m. option_map (raised m) s.calls) (omega arith);
    agrees = agrees_none s.holds s'.holds same;
    counts = counts;
    sink_counts = omega arith;
    failures = λ e. cc;
    absences = λ e. cc;
    excesses = λ e. cc;
  };
  stops = record { done = λ _ e. absurd (e refl); cut = λ e. absurd (not_the_sink e); cause = λ e. absurd (not_the_sink e); tried = tried_one n p tried };
}

-- the replies of a get
long_of : (limit n : ℕ) → limit < n → nat_lt limit n ≡ true
long_of limit n h = grind (arith, nat_tests)

pub short_of : (limit n : ℕ) → n ≤ limit → nat_lt limit n ≡ false
short_of limit n h = grind (arith, nat_tests)

too_long_at : (o : Option (List ℕ)) (limit : ℕ) → IsSomeAnd o (λ b. limit < length b) → too_long ≡ reply_of o limit
too_long_at None limit h = absurd h
too_long_at (Some b) limit h = sym (ap (λ t. cond t too_long (held b)) (long_of limit (length b) h))

held_at : (b : List ℕ) (limit : ℕ) → length b ≤ limit → held b ≡ reply_of (Some b) limit
held_at b limit h = sym (ap (λ t. cond t too_long (held b)) (short_of limit (length b) h))

missing_reply : (h : Option Files) (name : List ℕ) (limit : ℕ) → NotFound h name → IfSome h (λ x. missing ≡ reply_of (x name) limit)
missing_reply None name limit e = tt
missing_reply (Some f) name limit e = sym (ap (λ o. reply_of o limit) e)

too_long_reply : (h : Option Files) (name : List ℕ) (limit : ℕ) → FoundLonger h name limit → IfSome h (λ x. too_long ≡ reply_of (x name) limit)
too_long_reply None name limit e = tt
too_long_reply (Some f) name limit e = too_long_at (f name) limit e

held_reply : (h : Option Files) (name : List ℕ) (limit : ℕ) (b : List ℕ) → length b ≤ limit → Found h name b → IfSome h (λ x. held b ≡ reply_of (x name) limit)
held_reply None name limit b le e = tt
held_reply (Some f) name limit b le e = held_at b limit le ∙ sym (ap (λ o. reply_of o limit) e)

-- a part of a run that gets a file
pub went_held : (name : List ℕ) (limit : ℕ) (next : Reply → Plan) (b : List ℕ) (s s' : ShelfState) (k : SinkState) → CalledTimes 1 s s' → NoneFell s s' → s'.holds ≡ s.holds → length b ≤ limit → Found s.holds name b → Went (fetch name limit next) (next (held b)) s s' k k
went_held name limit next b s s' k called counts same le found = record {
  events = got name limit (held b) ∷ [];
  leads = (next, refl, refl);
  happened = happened_got name limit (held b) s s' k called counts same (held_reply s.holds name limit b le found) (λ e. cc) (λ e. cc);
}

-- a run that gets a file first, at each other answer
pub ran_missing : (name : List ℕ) (limit : ℕ) (next : Reply → Plan) (status : Status) (s s' : ShelfState) (k k' : SinkState) → CalledTimes 1 s s' → NoneFell s s' → s'.holds ≡ s.holds → Rose s.absences s'.absences → NotFound s.holds name → Ran (next missing) status s' s' k k' → Ran (fetch name limit next) status s s' k k'
ran_missing name limit next status s s' k k' called counts same rose none r = ran_then (got name limit missing ∷ []) (fetch name limit next) (next missing) status s s' s' k k k' (next, refl, refl) (happened_got name limit missing s s' k called counts same (missing_reply s.holds name limit none) (λ e. rose) (λ e. cc)) r

pub ran_too_long : (name : List ℕ) (limit : ℕ) (next : Reply → Plan) (status : Status) (s s' : ShelfState) (k k' : SinkState) → CalledTimes 1 s s' → NoneFell s s' → s'.holds ≡ s.holds → Rose s.excesses s'.excesses → FoundLonger s.holds name limit → Ran (next too_long) status s' s' k k' → Ran (fetch name limit next) status s s' k k'
ran_too_long name limit next status s s' k k' called counts same rose long r = ran_then (got name limit too_long ∷ []) (fetch name limit next) (next too_long) status s s' s' k k k' (next, refl, refl) (happened_got name limit too_long s s' k called counts same (too_long_reply s.holds name limit long) (λ e. cc) (λ e. rose)) r

pub ran_get_failed : (name : List ℕ) (limit : ℕ) (next : Reply → Plan) (status : Status) (s s' : ShelfState) (k k' : SinkState) → CalledTimes 1 s s' → NoneFell s s' → s'.holds ≡ s.holds → Rose s.faults s'.faults → Ran (failed_at name) status s' s' k k' → Ran (fetch name limit next) status s s' k k'
ran_get_failed name limit next status s s' k k' called counts same rose r = ran_then (get_failed name ∷ []) (fetch name limit next) (failed_at name) status s s' s' k k k' (limit, next, refl, refl) (happened_get_failed name s s' k called counts same rose) r

-- a run that gives up before any call
pub ran_gave_up : (p : Plan) (s : ShelfState) (k : SinkState) → Ran p NoMemory s s k k
ran_gave_up p s k = ran_starved p 0 s s k (inl refl) (option_same s.calls) (record { faults = omega arith; absences = omega arith; excesses = omega arith }) refl

-- a line of two parts and its end
pub line_plan : (word name : List ℕ) (p : Plan) → say_all (line_of word name) p ≡ say_all word (say_all name (say_all (10 ∷ []) p))
line_plan word name p = say_all-append (word ++ name) (10 ∷ []) p ∙ say_all-append word name (say_all (10 ∷ []) p)

-- a run that writes bytes first
pub ran_wrote_then : (bytes : List ℕ) (p : Plan) (status : Status) (s : ShelfState) (k k' k'' : SinkState) → k'.written ≡ written_more k.written bytes → k.faults ≤ k'.faults → Ran p status s s k' k'' → Ran (say_all bytes p) status s s k k''
ran_wrote_then bytes p status s k k' k'' w c r = ran_then (wrote_all bytes) (say_all bytes p) p status s s s k k' k'' (leads-wrote_all bytes p) (happened_wrote bytes s k k' w c) r

-- parts of runs
pub went_nowhere : (p : Plan) (s : ShelfState) (k : SinkState) → Went p p s s k k
went_nowhere p s k = record { events = []; leads = refl; happened = happened_wrote [] s k k (sym (written_more-none k.written)) (omega arith) }

pub went_then : {p q r : Plan} {s s' s'' : ShelfState} {k k' k'' : SinkState} → Went p q s s' k k' → Went q r s' s'' k' k'' → Went p r s s'' k k''
went_then {p = p} {q = q} {r = r} {s = s} {s' = s'} {s'' = s''} {k = k} {k' = k'} {k'' = k''} a b = record {
  events = a.events ++ b.events;
  leads = leads-append a.events b.events p q r a.leads b.leads;
  happened = happened_then a.events b.events 0 s s' s'' k k' k'' a.happened b.happened;
}

pub went_ran : {p q : Plan} {status : Status} {s s' s'' : ShelfState} {k k' k'' : SinkState} → Went p q s s' k k' → Ran q status s' s'' k' k'' → Ran p status s s'' k k''
went_ran {p = p} {q = q} {status = status} {s = s} {s' = s'} {s'' = s''} {k = k} {k' = k'} {k'' = k''} a r = ran_then a.events p q status s s' s'' k k' k'' a.leads a.happened r

-- a part, and then another
pub goes_then : {T : Type 0} (f h : Plan → Plan) (result : Result T Status) (s s' s'' : ShelfState) (k k' k'' : SinkState) → ((p : Plan) → Went (f p) p s s' k k') → Goes h result s' s'' k' k'' → Goes (λ p. f (h p)) result s s'' k k''
goes_then f h (Ok x) s s' s'' k k' k'' a b = λ p. went_then (a (h p)) (b p)
goes_then f h (Err status) s s' s'' k k' k'' a b = λ p. went_ran (a (h p)) (b p)

pub went_wrote : (bytes : List ℕ) (p : Plan) (s : ShelfState) (k k' : SinkState) → k'.written ≡ written_more k.written bytes → k.faults ≤ k'.faults → Went (say_all bytes p) p s s k k'
went_wrote bytes p s k k' w c = record { events = wrote_all bytes; leads = leads-wrote_all bytes p; happened = happened_wrote bytes s k k' w c }

-- the same part of a plan, written another way
pub goes_same : {T : Type 0} (f h : Plan → Plan) (result : Result T Status) (s s' : ShelfState) (k k' : SinkState) → ((p : Plan) → h p ≡ f p) → Goes f result s s' k k' → Goes h result s s' k k'
goes_same f h (Ok x) s s' k k' e g = λ p. subst (λ (z : Plan). Went z p s s' k k') (sym (e p)) (g p)
goes_same f h (Err status) s s' k k' e g = λ p. subst (λ (z : Plan). Ran z status s s' k k') (sym (e p)) (g p)
