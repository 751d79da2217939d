use Rattle.std.proofs.Common.{◌≡◌, ℕ, List, ◌++◌, Option, length, drop, nat_eq}
use Rattle.std.specs.HashSet as bag
use Rattle.proof_replay.specs.Carrying.{is_taken}
use Rattle.proof_replay.specs.Queues.{Queued, left_from}
use Rattle.proof_replay.proofs.passing.queues.Given as goal

abbrev pub decreases-loop-label : goal.decreases-loop-label
decreases-loop-label g l = length l.rest.items

abbrev pub invariant-loop-label : goal.invariant-loop-label
invariant-loop-label g l = record {
  front : l.fn.offered.items ≡ l.rest.items ++ drop (length l.rest.items) l.fn.offered.items;
  queued : (t : List (Option ℕ)) → ((j : ℕ) → bag.contains nat_eq l.taken j ≡ is_taken t j)
      → Queued g.K.PartialEq.eq l.queues (left_from (length l.rest.items) t l.fn.offered.items);
}
