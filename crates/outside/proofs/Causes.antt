-- Which statuses a plan can come to, and why.
use Rattle.std.proofs.Common.{◌≡◌, ◌≢◌, ℕ, List, [], ◌∷◌, Bool, true, false, cond, refl, sym, subst, ◌⊎◌, inl, inr}
use Rattle.outside.specs.declared.status.Status.{Status}
use Rattle.outside.specs.declared.status.Status.TheVariants.{ShelfFailed, SinkFailed, NoMemory}
use Rattle.outside.specs.Meaning.{ShelfState, SinkState, Rose}
use Rattle.outside.specs.Plan.{Plan, finish, say, fetch, store, Event, wrote, got, stored, get_failed, put_failed, Reply, missing, is_missing, Leads, has_failure, has_reply, say_all, absent_line, failed_line, failed_at, Ran}

-- the plan comes to this status nowhere
abbrev pub Avoids : Status → Plan → Type 0
Avoids n (finish status) = status ≢ n
Avoids n (say b next) = Avoids n next
Avoids n (fetch name limit next) = (reply : Reply) → Avoids n (next reply)
Avoids n (store name bytes next) = Avoids n next

-- the plan comes to the status of a shelf that failed only where a get finds no file, with its line
abbrev pub Reports : Plan → Type 0
Reports (finish status) = status ≢ ShelfFailed
Reports (say b next) = Reports next
Reports (fetch name limit next) = (next missing ≡ say_all (absent_line name) (finish ShelfFailed)) × ((reply : Reply) → is_missing reply ≡ false → Reports (next reply))
Reports (store name bytes next) = Reports next

pub avoids-say_all : (n : Status) (bytes : List ℕ) (p : Plan) → Avoids n p → Avoids n (say_all bytes p)
avoids-say_all n [] p h = h
avoids-say_all n (x ∷ bytes) p h = avoids-say_all n bytes p h

pub reports-say_all : (bytes : List ℕ) (p : Plan) → Reports p → Reports (say_all bytes p)
reports-say_all [] p h = h
reports-say_all (x ∷ bytes) p h = reports-say_all bytes p h

failed_avoids : (n : Status) (name : List ℕ) → n ≢ ShelfFailed → Avoids n (failed_at name)
failed_avoids n name h = avoids-say_all n (failed_line name) (finish ShelfFailed) (λ e. h (sym e))

-- a status other than that of a shelf that failed is avoided all the way
still_avoids : (events : List Event) (n : Status) (p left : Plan) → n ≢ ShelfFailed → Avoids n p → Leads events p left → Avoids n left
still_avoids [] n p left ne a h = subst (λ (z : Plan). Avoids n z) h a
still_avoids (wrote b ∷ events) n p left ne a (next, is, h) = still_avoids events n next left ne (subst (λ (z : Plan). Avoids n z) is a) h
still_avoids (got name limit reply ∷ events) n p left ne a (next, is, h) = still_avoids events n (next reply) left ne (subst (λ (z : Plan). Avoids n z) is a reply) h
still_avoids (stored name bytes ∷ events) n p left ne a (next, is, h) = still_avoids events n next left ne (subst (λ (z : Plan). Avoids n z) is a) h
still_avoids (get_failed name ∷ events) n p left ne a (limit, next, is, h) = still_avoids events n (failed_at name) left ne (failed_avoids n name ne) h
still_avoids (put_failed name ∷ events) n p left ne a (bytes, next, is, h) = still_avoids events n (failed_at name) left ne (failed_avoids n name ne) h

-- a run never answers a status that its plan avoids
pub never_answers : (n : Status) (plan : Plan) (s s' : ShelfState) (k k' : SinkState) → n ≢ ShelfFailed → n ≢ SinkFailed → n ≢ NoMemory → Avoids n plan → Ran plan n s s' k k' → ⊥
never_answers n plan s s' k k' shelf sink memory a r =
    let is : r.left ≡ finish n = r.stops.done sink memory in
    subst (λ (z : Plan). Avoids n z) is (still_avoids r.events n plan r.left shelf a r.leads) refl

-- neither of two is true
pub first_no : (x y : Bool) → cond x true y ≡ false → x ≡ false
first_no true y e = cc
first_no false y e = refl

pub second_no : (x y : Bool) → cond x true y ≡ false → y ≡ false
second_no true y e = cc
second_no false y e = e

-- where no call fails and no file is missing
still_reports : (events : List Event) (p left : Plan) → Reports p → has_failure events ≡ false → has_reply is_missing events ≡ false → Leads events p left → Reports left
still_reports [] p left a f m h = subst Reports h a
still_reports (wrote b ∷ events) p left a f m (next, is, h) = still_reports events next left (subst Reports is a) f m h
still_reports (got name limit reply ∷ events) p left a f m (next, is, h) = let here = subst Reports is a in still_reports events (next reply) left (here.1 reply (first_no (is_missing reply) (has_reply is_missing events) m)) f (second_no (is_missing reply) (has_reply is_missing events) m) h
still_reports (stored name bytes ∷ events) p left a f m (next, is, h) = still_reports events next left (subst Reports is a) f m h
still_reports (get_failed name ∷ events) p left a f m h = cc
still_reports (put_failed name ∷ events) p left a f m h = cc

cases : (b : Bool) → (b ≡ true) ⊎ (b ≡ false)
cases true = inl refl
cases false = inr refl

not_the_sink : ShelfFailed ≢ SinkFailed
not_the_sink = λ e. cc

not_memory : ShelfFailed ≢ NoMemory
not_memory = λ e. cc

cause_by : (plan : Plan) (s s' : ShelfState) (k k' : SinkState) → Reports plan → (r : Ran plan ShelfFailed s s' k k') → ((has_failure r.events ≡ true) ⊎ (has_failure r.events ≡ false)) → ((has_reply is_missing r.events ≡ true) ⊎ (has_reply is_missing r.events ≡ false)) → Rose s.faults s'.faults ⊎ Rose s.absences s'.absences
cause_by plan s s' k k' a r (inl f) m = inl (r.happened.failures f)
cause_by plan s s' k k' a r (inr f) (inl m) = inr (r.happened.absences m)
cause_by plan s s' k k' a r (inr f) (inr m) =
    let is : r.left ≡ finish ShelfFailed = r.stops.done not_the_sink not_memory in
    absurd (subst Reports is (still_reports r.events plan r.left a f m r.leads) refl)

-- that status is answered only where the shelf failed or found no file
pub shelf_cause : (plan : Plan) (s s' : ShelfState) (k k' : SinkState) → Reports plan → Ran plan ShelfFailed s s' k k' → Rose s.faults s'.faults ⊎ Rose s.absences s'.absences
shelf_cause plan s s' k k' a r = cause_by plan s s' k k' a r (cases (has_failure r.events)) (cases (has_reply is_missing r.events))
