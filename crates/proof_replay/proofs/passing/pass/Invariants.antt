use Rattle.std.proofs.Common.{◌≡◌, ℕ, List, ◌++◌}
use Rattle.std.specs.Iterator.Adapters.{zip_first, zip_second}
use Rattle.std.specs.Slice.Iter.{iter_rest}
use Rattle.proof_replay.specs.Carrying.{pass, pass_over}
use Rattle.proof_replay.specs.Queues.{fits_label, Queued}
use Rattle.proof_replay.proofs.passing.pass.Given as goal

-- what was taken, and what is taken of what is left, are all that is taken
abbrev pub invariant-loop-label : goal.invariant-loop-label
invariant-loop-label g l =
    let fits = fits_label g.K.PartialEq.eq in
    (left : List (g.row.K.Denot × ℕ)) × (Queued g.K.PartialEq.eq l.left left
    × (l.takes.items ++ pass_over fits (iter_rest (zip_first l.label-iterator)) (iter_rest (zip_second l.label-iterator)) left
    ≡ pass fits l.fn.wanted l.fn.offered.items l.fn.taken))
