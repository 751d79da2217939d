-- Lanes, in which the code adds up the numbers of parts, told apart by marks.
use Rattle.std.specs.Prelude.{◌≡◌, ℕ, ◌+◌, ◌*◌, ◌%◌, ℤ, pos, ◌+ℤ◌, ◌-ℤ◌, ◌*ℤ◌, neg_ℤ, unsigned_abs, List, [], ◌∷◌, fold, Bool, true, false, ◌&&◌, ◌==◌, if◌then◌else◌}
use Rattle.std.specs.Int.{int_wrap}
use mir.Syntax.{w128}
use Rattle.term_core.specs.declared.term.Term.{Term}
use Rattle.term_core.specs.declared.term.Term.TheOpen.{Term-F}
use Rattle.term_core.specs.declared.term.Term.TheFolds.{fold-Term}
use Rattle.linear_facts.specs.declared.lanes.Lane.{Lane}
use Rattle.linear_facts.specs.declared.lanes.TheConstants.{MARKS, SPREAD}
use Rattle.linear_facts.specs.Facts.{Fact, left_of, right_of, extra_of}
use Rattle.linear_facts.specs.Forms.{Shape, literal, sum, difference, opposite, multiple, whole, over_shapes, Part, atom, constant, same_term}
use Rattle.linear_facts.specs.Views.{part_behind}

-- ---- marks

abbrev pub mixed : ℕ → ℕ → ℕ
mixed mark next = (mark * SPREAD + next) % MARKS

-- each kind of term begins with a number of its own
abbrev pub mark_step : Term-F ℕ → ℕ
mark_step (Term-F.Int n) = mixed 1 (unsigned_abs n % MARKS)
mark_step (Term-F.Truth b) = if b then 3 else 2
mark_step (Term-F.Var x) = fold mixed 4 x
mark_step (Term-F.Op o marks) = fold mixed 5 marks
mark_step (Term-F.All x low high body) = mixed (mixed low high) body
mark_step (Term-F.Some x low high body) = mixed (mixed high low) body

-- equal terms have equal marks
abbrev pub mark_of : Term → ℕ
mark_of = fold-Term ℕ mark_step

-- ---- lanes

abbrev pub same_part : Part → Part → Bool
same_part (atom t) (atom u) = same_term t u
same_part constant constant = true
same_part _ _ = false

abbrev pub part_mark : Part → ℕ
part_mark (atom t) = mark_of t
part_mark constant = 0

-- whether a lane is that of a part with this mark
abbrev pub is_lane_of : Lane → Part → ℕ → Bool
is_lane_of lane part mark = lane.mark == mark && same_part part (part_behind lane.part)

-- a number that is added where the lane is that of the part
abbrev pub seen : Lane → Part → ℤ → ℤ
seen lane part n = if is_lane_of lane part (part_mark part) then n else pos 0

abbrev pub seen_by : Lane → Term → Shape ℤ → ℤ
seen_by lane t (literal n) = seen lane constant n
seen_by lane t (sum a b) = a +ℤ b
seen_by lane t (difference a b) = a -ℤ b
seen_by lane t (opposite a) = neg_ℤ a
seen_by lane t (multiple n a) = n *ℤ a
seen_by lane t whole = seen lane (atom t) (pos 1)

abbrev pub seen_in : Lane → Term → ℤ
seen_in lane = over_shapes (seen_by lane)

-- a lane with a number more, in 128 bits
abbrev pub with_more : ℤ → Lane → Lane
with_more n lane = record lane { sum = int_wrap w128 (lane.sum +ℤ n) }

-- a lane with the numbers of a fact more, times a weight
abbrev pub with_fact : ℤ → Fact → Lane → Lane
with_fact weight fact lane = with_more (weight *ℤ (seen_in lane (left_of fact) -ℤ seen_in lane (right_of fact) +ℤ seen lane constant (extra_of fact))) lane

abbrev pub with_weights : List (ℤ × Fact) → Lane → Lane
with_weights [] lane = lane
with_weights (w ∷ ws) lane = with_weights ws (with_fact w.0 w.1 lane)

-- a lane that nothing was added to
pub record IsFresh (lane : Lane) : Type 0 where
  pub mark : lane.mark ≡ part_mark (part_behind lane.part)
  pub sum : lane.sum ≡ pos 0
