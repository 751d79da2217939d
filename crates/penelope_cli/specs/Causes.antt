-- How often a run called the shelf.
use Rattle.std.specs.Prelude.{◌≢◌, ℕ, ◌≤◌}
use Rattle.outside.specs.declared.status.Status.{Status}
use Rattle.outside.specs.declared.status.Status.TheVariants.{SinkFailed, NoMemory}
use Rattle.outside.specs.Meaning.{ShelfState, CalledTimes}

-- n times, or at most so often where the sink failed or memory was wanted
pub record CalledFor (status : Status) (n : ℕ) (old new : ShelfState) : Type 0 where
  pub exactly : status ≢ SinkFailed → status ≢ NoMemory → CalledTimes n old new
  pub within : (m : ℕ) × (m ≤ n) × CalledTimes m old new
