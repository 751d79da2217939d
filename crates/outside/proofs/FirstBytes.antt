-- The first byte that a run writes, which tells a line of one kind from all others.
use Rattle.std.proofs.Common.{◌≡◌, ◌≢◌, ℕ, List, [], ◌∷◌, false, subst}
use Rattle.outside.specs.Plan.{Plan, finish, say, fetch, store, Event, wrote, got, stored, get_failed, put_failed, Reply, is_too_long, Leads, has_reply, bytes_of, failed_at}
use Rattle.outside.proofs.Causes.{first_no, second_no}

-- where no file is too long, the plan's first byte isn't this one
abbrev pub BeginsApart : ℕ → Plan → Type 0
BeginsApart first (finish status) = Unit {0}
BeginsApart first (say b next) = b ≢ first
BeginsApart first (fetch name limit next) = (reply : Reply) → is_too_long reply ≡ false → BeginsApart first (next reply)
BeginsApart first (store name bytes next) = BeginsApart first next

-- neither is that of the bytes
abbrev pub HeadApart : ℕ → List ℕ → Type 0
HeadApart first [] = Unit {0}
HeadApart first (b ∷ bytes) = b ≢ first

-- the line of a get or put that failed begins with an f
failed_apart : (first : ℕ) (name : List ℕ) → 102 ≢ first → BeginsApart first (failed_at name)
failed_apart first name h = h

pub begins_apart : (first : ℕ) (events : List Event) (p left : Plan) → 102 ≢ first → BeginsApart first p → has_reply is_too_long events ≡ false → Leads events p left → HeadApart first (bytes_of events)
begins_apart first [] p left f a m h = tt
begins_apart first (wrote b ∷ events) p left f a m (next, is, h) = subst (BeginsApart first) is a
begins_apart first (got name limit reply ∷ events) p left f a m (next, is, h) = begins_apart first events (next reply) left f (subst (BeginsApart first) is a reply (first_no (is_too_long reply) (has_reply is_too_long events) m)) (second_no (is_too_long reply) (has_reply is_too_long events) m) h
begins_apart first (stored name bytes ∷ events) p left f a m (next, is, h) = begins_apart first events next left f (subst (BeginsApart first) is a) m h
begins_apart first (get_failed name ∷ events) p left f a m (limit, next, is, h) = begins_apart first events (failed_at name) left f (failed_apart first name f) m h
begins_apart first (put_failed name ∷ events) p left f a m (bytes, next, is, h) = begins_apart first events (failed_at name) left f (failed_apart first name f) m h
