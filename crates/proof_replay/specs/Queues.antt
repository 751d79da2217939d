-- What is left of each label, as the code keeps it.
use Rattle.std.specs.Prelude.{◌≡◌, ℕ, List, [], map, filter, drop, reverse, not, Bool, false, Option, Some, None}
use Rattle.std.specs.HashMap.{HashMap, get}
use Rattle.std.specs.Map.{lookup, remove_entry}
use Rattle.std.specs.Option.{option_map_or}
use Rattle.std.specs.Prelude.{Vec}
use Rattle.proof_replay.specs.Carrying.{is_taken, numbered_from}

-- the label is the one that is looked for, if any is
abbrev pub fits_label : {K : Type 0} → (K → K → Bool) → Option K → K → Bool
fits_label eq wanted label = option_map_or (λ k. eq k label) wanted false

-- the numbers of what is left with a label, in order
abbrev pub numbers_of : {K : Type 0} → (K → K → Bool) → K → List (K × ℕ) → List ℕ
numbers_of eq label left = map (λ e. e.1) (filter (λ e. eq label e.0) left)

-- what is in a queue, if there is one
unfoldable pub queue_of : {A : Type 0} → Option (Vec ℕ A) → List ℕ
queue_of queue = option_map_or (λ q. q.items) queue []

-- Of each label the map has these numbers, the last one first.
abbrev pub Queued : {K S A : Type 0} → (K → K → Bool) → HashMap K (Vec ℕ A) S → List (K × ℕ) → Type 0
Queued {K} eq queues left = (label : K) → queue_of (get eq queues label) ≡ reverse (numbers_of eq label left)

-- what is left of those from the number n on
abbrev pub left_from : {K : Type 0} → ℕ → List (Option ℕ) → List K → List (K × ℕ)
left_from n taken labels = filter (λ e. not (is_taken taken e.1)) (numbered_from n (drop n labels))

-- one step of a pass: what is taken, and what is left
abbrev pub taken_by : {K : Type 0} → (K → K → Bool) → Option K → Option ℕ → List (K × ℕ) → Option ℕ
taken_by eq wanted (Some j) left = Some j
taken_by eq wanted None left = lookup (fits_label eq wanted) left

abbrev pub left_by : {K : Type 0} → (K → K → Bool) → Option K → Option ℕ → List (K × ℕ) → List (K × ℕ)
left_by eq wanted (Some j) left = left
left_by eq wanted None left = remove_entry (fits_label eq wanted) left
